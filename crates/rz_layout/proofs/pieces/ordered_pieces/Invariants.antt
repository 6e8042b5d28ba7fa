use Rattle.std.proofs.Common.{◌≡◌, map, take}
use Rattle.rz_layout.specs.Calls.Ordered.{ordered_piece}
use Rattle.rz_layout.proofs.pieces.ordered_pieces.Given as goal

abbrev pub invariant-loop-slot : goal.invariant-loop-slot
invariant-loop-slot g l = l.pieces.items ≡ map (ordered_piece g.T.InsnTable.rows l.order) (take l.slot-index l.order.slots.items)
