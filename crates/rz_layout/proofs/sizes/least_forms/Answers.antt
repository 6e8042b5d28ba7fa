use Rattle.rz_layout.proofs.Settling.{least_first}
use Rattle.rz_layout.proofs.sizes.least_forms.Goals as goal

pub settle-requires-clause-least : goal.settle-requires-clause-least
settle-requires-clause-least c = rw (c.as_mut_slice.ensures.value, c.in_ok-forms.ensures) (least_first c.args.pieces.now)
