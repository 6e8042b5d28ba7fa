use Rattle.std.proofs.Common.{sym, subst, ◌∙◌}
use Rattle.rz_syms.specs.Symbols.{AreApart}
use Rattle.rz_syms.proofs.TakenLaws.{IsHeld-none, IsHeld-more, IsHeld-passed, IsHeld-all}
use Rattle.rz_syms.proofs.read.functions_at.Goals as goal
use Rattle.rz_syms.proofs.read.functions_at.Goals.{then-place-end+in_ok-push_function, else-place-end}

pub loop-place-init : goal.loop-place-init
loop-place-init c = rw (c.new-functions.ensures.items) (IsHeld-none c.args.strings.now c.args.places.now)

pub loop-place-preserved : goal.loop-place-preserved
loop-place-preserved c =
    elim c.if-place-end.branch [
      | then-place-end+in_ok-push_function w ↦
          rw (w.functions-is, w.end-is) (IsHeld-more c.args.strings.now c.args.places.now c.loop-place.place-index _ c.loop-place.functions.items _ c.loop-place.end c.loop-place-test.true c.requires c.loop-place.invariant w.if-place-end.true w.in_ok-push_function.ensures)
      | else-place-end w ↦
          rw (w.functions-is, w.end-is) (IsHeld-passed c.args.strings.now c.args.places.now c.loop-place.place-index _ c.loop-place.functions.items c.loop-place.end c.loop-place-test.true c.requires c.loop-place.invariant w.if-place-end.false)
    ]

pub invariant_of-result : goal.invariant_of-result
invariant_of-result c = subst AreApart (sym c.from_vec.ensures) c.loop-place.invariant.taken.apart

pub returns : goal.returns
returns c = c.from_vec.ensures ∙ IsHeld-all c.args.strings.now c.args.places.now c.loop-place.place-index c.loop-place.functions.items c.loop-place.end c.loop-place-test.false c.loop-place.invariant
