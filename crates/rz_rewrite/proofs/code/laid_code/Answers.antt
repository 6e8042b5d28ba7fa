use Rattle.std.proofs.Common.{ap, ap₂, ◌∙◌, length, arith}
use Rattle.rz_isa.specs.Items.{item_count}
use Rattle.rz_rewrite.specs.Calls.Places.{places_from, routine_in}
use Rattle.rz_rewrite.proofs.TablesPart.{item_slots}
use Rattle.rz_rewrite.proofs.code.laid_code.Goals as goal

pub places_of-requires : goal.places_of-requires
places_of-requires g c =
    let few = item_slots c.args.frags.now in
    let each = c.in_ok-laid.ensures.places.each in
    let list = ap item_count c.as_slice.ensures in
    let places = ap length c.as_slice-2.ensures.value in
    omega (arith, few, each, list, places)

pub returns : goal.returns
returns g c = record {
  laid = c.in_ok-laid.laid;
  base = c.in_ok-laid.ensures.parts.0;
  stop = c.in_ok-laid.ensures.parts.1;
  plan = c.in_ok-laid.ensures.plan;
  places = c.in_ok-laid.ensures.places;
  least = c.in_ok-laid.ensures.least;
  bytes = c.in_ok-emit.ensures.value;
  spots = c.in_ok-places.ensures ∙ ap₂ (λ p l. places_from p 0 l) c.as_slice-2.ensures.value c.as_slice.ensures;
  routine = c.routine_place-routine.ensures ∙ ap₂ routine_in c.as_slice-4.ensures.value c.as_slice-3.ensures;
}
