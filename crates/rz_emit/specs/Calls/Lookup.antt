-- The address of a label, by an order of the items and lists of places.
use Rattle.std.specs.Prelude.{ℕ, List, slice_index_or}
use Rattle.std.specs.Option.{option_map}
use Rattle.rz_isa.specs.declared.item_list.Label.TheVariants as label
use Rattle.rz_isa.specs.declared.item_list.Slot.{Slot}
use Rattle.rz_isa.specs.declared.fragment_list.Fragments.{Fragments}
use Rattle.rz_isa.specs.Items.{Addresses, beside}
use Rattle.rz_layout.specs.declared.order.Order.{Order}
use Rattle.rz_layout.specs.Order.{number_in}

-- the place of an item, or the end of the code where the number is behind the last
abbrev pub place_in : List ℕ → ℕ → ℕ → ℕ
place_in places stop k = slice_index_or places k stop

abbrev pub address_in : Fragments → Order → List ℕ → ℕ → Slot → Addresses
address_in frags order places stop s (label.Stub a) = beside frags.stubs a
address_in frags order places stop s (label.Table a) = beside frags.tables a
address_in frags order places stop s to = option_map (place_in places stop) (number_in order s to)
