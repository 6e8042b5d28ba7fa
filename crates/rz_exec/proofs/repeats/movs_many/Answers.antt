use Rattle.std.proofs.Common.{◌≡◌, ◌/◌, ◌<◌, ◌^◌, length, get_or, refl, ap, ◌∙◌, arith, rules, true}
use Rattle.rz_exec.specs.Form.{iterate}
use Rattle.rz_exec.specs.Strings.{movs_effect, each_time}
use Rattle.rz_exec.proofs.Copies.{span, copied, copied_bytes, spans_64}
use Rattle.rz_exec.proofs.repeats.movs_many.Goals as goal

pub returns-clause-same : goal.returns-clause-same
returns-clause-same c =
    let regs = c.args.cpu.now.regs in
    let m = c.args.mem.now in
    let w = c.args.w in
    let j = 64 / c.byte_count.result in
    let len : length regs ≡ 16 = search rules in
    let count : get_or regs 1 0 < 2 ^ 64 = search rules in
    let e : span w j ≡ 64 = ap (λ n. span w (64 / n)) c.byte_count.ensures ∙ spans_64 w in
    let copy = c.if-not-copy_bytes.ensures in
    ap (λ m'. iterate (each_time (movs_effect w true)) (get_or (copied 64 j regs) 1 0) (copied 64 j regs) c.args.cpu.now.flags m') (copy.done refl)
    ∙ copied_bytes w j 64 regs c.args.cpu.now.flags m e len (search rules) (omega arith) count (c.if-not-are_apart.ensures.from refl) (c.if-not-are_apart.ensures.to refl) (c.if-not-are_apart.ensures.apart refl) (copy.bytes refl) (copy.readable refl) (copy.writable refl)
