use Rattle.std.proofs.Common.{◌≡◌, ℕ, ◌+◌, ◌*◌, List, ◌++◌, drop, sym, ap, ◌∙◌, arith, append_assoc, append-nil}
use Rattle.std.proofs.lemmas.List.{drop_more, drop_all}
use Rattle.rz_elf.specs.Format.{stub_size, stub_bytes, all_stubs}
use Rattle.rz_rewrite.proofs.stubs.emit_stubs.Goals as goal

pub loop-a-init : goal.loop-a-init
loop-a-init c from =
    let first : from + stub_size * 0 ≡ from = omega arith in
    ap (λ (l : List ℕ). l ++ all_stubs (from + stub_size * 0) c.args.nodes.now) c.new-out.ensures
    ∙ ap (λ (n : ℕ). all_stubs n c.args.nodes.now) first

pub loop-a-preserved : goal.loop-a-preserved
loop-a-preserved c from =
    let i : ℕ = c.loop-a.a-index in
    let here : ℕ = from + stub_size * i in
    let later : List ℕ = drop (i + 1) c.args.nodes.now in
    let on : from + stub_size * (i + 1) ≡ here + stub_size = omega arith in
    let next = drop_more c.args.nodes.now i 0 (omega arith) in
    ap (λ (n : ℕ). c.emit_stub.new.out ++ all_stubs n later) on
    ∙ ap (λ (l : List ℕ). l ++ all_stubs (here + stub_size) later) (c.in_ok-emit_stub.ensures here)
    ∙ append_assoc c.loop-a.out (stub_bytes here _) (all_stubs (here + stub_size) later)
    ∙ ap (λ (l : List ℕ). c.loop-a.out ++ all_stubs here l) (sym next)
    ∙ c.loop-a.invariant from

pub returns : goal.returns
returns c from =
    let i : ℕ = c.loop-a.a-index in
    let all = drop_all i c.args.nodes.now c.loop-a-test.false in
    sym (append-nil c.loop-a.out) ∙ ap (λ (l : List ℕ). c.loop-a.out ++ all_stubs (from + stub_size * i) l) (sym all) ∙ c.loop-a.invariant from
