use Rattle.std.proofs.Common.{◌≡◌, ℕ, suc, ◌+◌, ◌++◌, ap, ◌∙◌, refl, arith}
use Rattle.rz_gen.specs.Sequence.{next_number, number_at}
use Rattle.rz_gen.specs.Code.{function, function_adding}
use Rattle.rz_gen.proofs.Pieces.{pieces_none, pieces_more}
use Rattle.rz_gen.proofs.code.push_functions.Goals as goal

first : 12345 ≡ number_at 0
unfolding number_at
first = refl

following : (j x y : ℕ) → x ≡ number_at j → y ≡ next_number x → y ≡ number_at (suc j)
unfolding number_at
following j x y held next = next ∙ ap next_number held

pub loop-j-init : goal.loop-j-init
loop-j-init c = (pieces_none function c.args.out.now.items, first, omega arith)

pub loop-j-preserved : goal.loop-j-preserved
loop-j-preserved c =
    let j = c.loop-j._j in
    let one : suc j ≡ j + 1 = omega arith in
    let next = following j c.loop-j.x c.next_number-next.result c.loop-j.invariant.1 c.next_number-next.ensures.value in (
      pieces_more function j _ _ _ c.loop-j.invariant.0 (c.in_ok-push_function.ensures ∙ ap (λ x. c.loop-j.out.items ++ function_adding x) next),
      next ∙ ap number_at one,
      c.next_number-next.ensures.low,
    )
