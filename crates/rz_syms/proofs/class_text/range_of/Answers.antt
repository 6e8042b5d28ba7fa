use Rattle.std.proofs.Common.{◌≡◌, ap, sym, ◌∙◌, true, false}
use Rattle.std.specs.Prelude.{bytes_eq, option_map}
use Rattle.rz_syms.specs.declared.function.Function.{Function}
use Rattle.rz_syms.proofs.ResolveLaws.{named_here, named_later}
use Rattle.rz_syms.proofs.class_text.range_of.Goals as goal

pub returns-then-eq : goal.returns-then-eq
returns-then-eq c =
    let f = c.function-item.result in
    let same : bytes_eq f.name c.args.name.now ≡ true = ap (λ n. bytes_eq n c.args.name.now) (sym c.as_slice.ensures.value) ∙ sym c.eq.ensures ∙ c.if-eq.true in
    ap (option_map (λ (g : Function). (g.lo, g.hi))) (named_here c.args.functions.now c.loop-function.function-index c.args.name.now f f c.loop-function-test.true c.function-item.is same c.loop-function.invariant)

pub loop-function-preserved : goal.loop-function-preserved
loop-function-preserved c =
    let f = c.function-item.result in
    let other : bytes_eq f.name c.args.name.now ≡ false = ap (λ n. bytes_eq n c.args.name.now) (sym c.as_slice.ensures.value) ∙ sym c.eq.ensures ∙ c.if-eq.false in
    named_later c.args.functions.now c.loop-function.function-index c.args.name.now f f c.loop-function-test.true c.function-item.is other c.loop-function.invariant
