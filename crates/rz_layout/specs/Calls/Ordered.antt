-- The pieces of items in an order.
use Rattle.std.specs.Prelude.{ℕ, Bool, true, false, List, map, Option, Some, None, IsSome, is_some}
use Rattle.rz_flags.specs.declared.Cond.{Cond}
use Rattle.rz_isa.specs.declared.rows.Row.{Row}
use Rattle.rz_isa.specs.declared.rows.Form.TheVariants.{Near}
use Rattle.rz_isa.specs.declared.item_list.Label.{Label}
use Rattle.rz_isa.specs.declared.item_list.Item.{Item}
use Rattle.rz_isa.specs.declared.item_list.Item.TheVariants as item
use Rattle.rz_isa.specs.declared.item_list.Slot.{Slot}
use Rattle.rz_isa.specs.declared.fragment_list.Fragments.{Fragments}
use Rattle.rz_isa.specs.Canonical.{chosen}
use Rattle.rz_isa.specs.Items.{slots, label_number}
use Rattle.rz_isa.specs.Plan.{spelled_len, is_inner, near_len}
use Rattle.rz_layout.specs.declared.order.Order.{Order}
use Rattle.rz_layout.specs.declared.piece.Piece.{Piece}
use Rattle.rz_layout.specs.declared.piece.Piece.TheVariants.{Fixed, Jump}
use Rattle.rz_layout.specs.Order.{number_in}

abbrev pub number_or_first : Option ℕ → ℕ
number_or_first None = 0
number_or_first (Some n) = n

abbrev pub jump_piece : Option Cond → Bool → ℕ → Piece
jump_piece cond true to = Jump (is_some cond) to
jump_piece cond false to = Fixed (near_len cond)

-- the piece of an item, by the numbers of its labels
abbrev pub item_piece : List Row → (Label → Option ℕ) → Item → Piece
item_piece rows number (item.Whole x) = Fixed (spelled_len (chosen rows Near x))
item_piece rows number (item.Jump cond to) = jump_piece cond (is_inner to) (number_or_first (number to))
item_piece rows number (item.Jrcxz to) = Fixed 2
item_piece rows number (item.Store a to) = Fixed 12

-- by an order's numbers
abbrev pub ordered_piece : List Row → Order → Slot → Piece
ordered_piece rows order s = item_piece rows (number_in order s) s.item

abbrev pub ordered_pieces : List Row → Order → List Piece
ordered_pieces rows order = map (ordered_piece rows order) order.slots.items

-- by the numbers of the definition
abbrev pub slot_piece : List Row → Fragments → Slot → Piece
slot_piece rows frags s = item_piece rows (label_number frags s) s.item

abbrev pub pieces_of : List Row → Fragments → List Piece
pieces_of rows frags = map (slot_piece rows frags) (slots frags)

-- some row is chosen for an instruction that an item is
abbrev pub IsChosenItem : List Row → Item → Type 0
IsChosenItem rows (item.Whole x) = IsSome (chosen rows Near x)
IsChosenItem rows i = Unit {0}

abbrev pub IsChosen : List Row → Slot → Type 0
IsChosen rows s = IsChosenItem rows s.item
