use Rattle.std.proofs.Common.{◌≡◌, ◌/◌, ◌<◌, ◌^◌, length, get_or, sym, ap, ◌∙◌, arith, rules, true}
use Rattle.byteorder.specs.Endian.{little_bytes}
use Rattle.rz_num.specs.Width.{low_bits}
use Rattle.rz_image.specs.Memory.{put_bytes}
use Rattle.rz_image.specs.Word.{byte_count}
use Rattle.rz_exec.specs.Form.{iterate}
use Rattle.rz_exec.specs.Strings.{stos_effect, each_time}
use Rattle.rz_exec.proofs.Copies.{span}
use Rattle.rz_exec.proofs.Stores.{copies, stored, stored_bytes, spans_8, pattern_bytes}
use Rattle.rz_exec.proofs.repeats.stos_many.Goals as goal

pub returns-clause-same : goal.returns-clause-same
returns-clause-same c =
    let regs = c.args.cpu.now.regs in
    let m = c.args.mem.now in
    let w = c.args.w in
    let j = 8 / c.byte_count-count.result in
    let len : length regs ≡ 16 = search rules in
    let count : get_or regs 1 0 < 2 ^ 64 = search rules in
    let e : span w j ≡ 8 = ap (λ n. span w (8 / n)) c.byte_count-count.ensures ∙ spans_8 w in
    let word = little_bytes (byte_count w) (low_bits w (get_or regs 0 0)) in
    let bytes : little_bytes 8 c.pattern.result ≡ copies j word =
    ap (little_bytes 8) c.pattern.ensures ∙ pattern_bytes w (get_or regs 0 0) ∙ ap (λ n. copies (8 / n) word) (sym c.byte_count-count.ensures) in
    ap (λ m'. iterate (each_time (stos_effect w true)) (get_or (stored 8 j regs) 1 0) (stored 8 j regs) c.args.cpu.now.flags m') (c.in-Ok.ensures.stored ∙ ap (put_bytes m (get_or regs 7 0)) bytes)
    ∙ stored_bytes w j 8 regs c.args.cpu.now.flags m e len (search rules) (omega arith) count (omega arith) c.in-Ok.ensures.allowed
