-- Lengths and places of items in an order.
use Rattle.std.specs.Prelude.{ℕ, ◌+◌, List, IsSome}
use Rattle.rz_isa.specs.declared.rows.Row.{Row}
use Rattle.rz_isa.specs.declared.rows.Form.{Form}
use Rattle.rz_isa.specs.declared.rows.Form.TheVariants.{Near}
use Rattle.rz_isa.specs.declared.item_list.Item.{Item}
use Rattle.rz_isa.specs.declared.item_list.Item.TheVariants as item
use Rattle.rz_isa.specs.declared.item_list.Slot.{Slot}
use Rattle.rz_isa.specs.Canonical.{chosen}
use Rattle.rz_isa.specs.Plan.{offset}

-- some row is chosen for an instruction that an item is
abbrev pub IsChosen : List Row → Item → Type 0
IsChosen rows (item.Whole x) = IsSome (chosen rows Near x)
IsChosen rows i = Unit {0}

-- the place of the item of a number, where items stand from an address on
abbrev pub slot_place : List Row → List Slot → ℕ → List Form → ℕ → ℕ
slot_place rows list base forms k = base + offset rows list forms k
