-- The items of fragments in one order, and the numbers of their labels.
use Rattle.std.specs.Prelude.{◌≡◌, ℕ, ◌+◌, ◌==◌, nat_le, List, [], ◌∷◌, ◌++◌, length, Option, Some, None, slice_index_or, if◌then◌else◌}
use Rattle.rz_isa.specs.declared.item_list.Label.{Label}
use Rattle.rz_isa.specs.declared.item_list.Label.TheVariants as label
use Rattle.rz_isa.specs.declared.item_list.Item.{Item}
use Rattle.rz_isa.specs.declared.item_list.Slot.{Slot}
use Rattle.rz_isa.specs.declared.fragment_list.Fragment.{Fragment}
use Rattle.rz_isa.specs.declared.fragment_list.Fragments.{Fragments}
use Rattle.rz_isa.specs.Items.{list_slots, slots, first_number, item_count}
use Rattle.rz_layout.specs.declared.order.Order.{Order}
use Rattle.rz_layout.specs.Layout.{nodes_of}

-- the place of a member in a list, from 0; of another, their number
abbrev pub index_of : List ℕ → ℕ → ℕ
index_of [] a = 0
index_of (b ∷ bs) a = if b == a then 0 else 1 + index_of bs a

-- the items of one more list
abbrev pub appended : List Slot → List Item → List Slot
appended before items = before ++ list_slots (length before) items

-- the number of each fragment's first item, where it has one
abbrev pub starts_from : ℕ → List Fragment → List (Option ℕ)
starts_from first [] = []
starts_from first (f ∷ rest) = first_number first f.items ∷ starts_from (first + length f.items) rest

-- the items of fragments in their order, with where their lists begin
pub record IsOrderOf (frags : Fragments) (order : Order) : Type 0 where
  pub slots : order.slots.items ≡ slots frags
  pub nodes : order.nodes.items ≡ nodes_of frags.list
  pub starts : order.starts.items ≡ starts_from 0 frags.list
  pub routine : order.routine ≡ first_number (item_count frags.list) frags.routine

-- the number of a label, by these
abbrev pub number_in : Order → Slot → Label → Option ℕ
number_in order s (label.Place a) = slice_index_or order.starts.items (index_of order.nodes.items a) None
number_in order s (label.Item k) = if nat_le (s.first + k) s.stop then Some (s.first + k) else None
number_in order s label.Routine = order.routine
number_in order s to = None
