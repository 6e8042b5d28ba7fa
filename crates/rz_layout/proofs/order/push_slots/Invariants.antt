use Rattle.std.proofs.Common.{◌≡◌, ◌++◌, map, take}
use Rattle.rz_layout.proofs.Ordered.{slot_of}
use Rattle.rz_layout.proofs.order.push_slots.Given as goal

abbrev pub invariant-loop-item : goal.invariant-loop-item
invariant-loop-item l = l.slots.items ≡ l.initial.slots.items ++ map (slot_of l.first l.stop) (take l.item-index l.items)
