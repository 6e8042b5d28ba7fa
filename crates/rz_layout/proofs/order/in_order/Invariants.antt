use Rattle.std.proofs.Common.{◌≡◌, ◌++◌, length, drop}
use Rattle.rz_isa.specs.Items.{slots_from}
use Rattle.rz_layout.specs.Layout.{nodes_of}
use Rattle.rz_layout.specs.Order.{starts_from}
use Rattle.rz_layout.proofs.order.in_order.Given as goal

abbrev pub invariant-loop-fragment : goal.invariant-loop-fragment
invariant-loop-fragment l =
    let list = l.frags.list in
    let rest = drop l.fragment-index list in
    record {
      slots : l.slots.items ++ slots_from (length l.slots.items) rest ≡ slots_from 0 list;
      nodes : l.nodes.items ++ nodes_of rest ≡ nodes_of list;
      starts : l.starts.items ++ starts_from (length l.slots.items) rest ≡ starts_from 0 list;
    }
