-- The items of a new file in one order, and what their labels name.
use Rattle.std.specs.Prelude.{ℕ, pos, ◌+◌, ◌^◌, ◌==◌, nat_lt, nat_le, List, [], ◌∷◌, ◌++◌, length, map, Option, Some, None, if◌then◌else◌}
use Rattle.std.specs.Option.{option_map}
use Rattle.rz_num.specs.declared.width.Width.TheVariants.{W64}
use Rattle.rz_isa.specs.declared.instruction.Insn.{Insn}
use Rattle.rz_isa.specs.declared.instruction.Insn.TheVariants as insn
use Rattle.rz_isa.specs.declared.instruction.Mem.{Mem}
use Rattle.rz_isa.specs.declared.instruction.Place.TheVariants as place
use Rattle.rz_isa.specs.declared.instruction.Operand.TheVariants as operand
use Rattle.rz_isa.specs.declared.item_list.Label.{Label}
use Rattle.rz_isa.specs.declared.item_list.Label.TheVariants as label
use Rattle.rz_isa.specs.declared.item_list.Item.{Item}
use Rattle.rz_isa.specs.declared.item_list.Item.TheVariants as item
use Rattle.rz_isa.specs.declared.item_list.Slot.{Slot}
use Rattle.rz_isa.specs.declared.fragment_list.Fragment.{Fragment}
use Rattle.rz_isa.specs.declared.fragment_list.Fragments.{Fragments}

-- ---- the order: the items of each fragment, then those of the routine

abbrev pub list_slots : ℕ → List Item → List Slot
list_slots first items = map (λ i. record { item = i; first = first; stop = first + length items }) items

abbrev pub slots_from : ℕ → List Fragment → List Slot
slots_from first [] = []
slots_from first (f ∷ rest) = list_slots first f.items ++ slots_from (first + length f.items) rest

-- how many items fragments have
abbrev pub item_count : List Fragment → ℕ
item_count [] = 0
item_count (f ∷ rest) = length f.items + item_count rest

abbrev pub slots : Fragments → List Slot
slots frags = slots_from 0 frags.list ++ list_slots (item_count frags.list) frags.routine

-- ---- the number, in this order, of what a label names

-- of the first item of a list that begins at a number; a list without items has none
abbrev pub first_number : ℕ → List Item → Option ℕ
first_number first [] = None
first_number first (i ∷ rest) = Some first

-- of the first item of the fragment of an address
abbrev pub fragment_number : ℕ → List Fragment → ℕ → Option ℕ
fragment_number first [] a = None
fragment_number first (f ∷ rest) a =
    if f.at == a then first_number first f.items else fragment_number (first + length f.items) rest a

-- of a label in a list of items: the item behind the last one is named, too; stubs and tables are no items
abbrev pub label_number : Fragments → Slot → Label → Option ℕ
label_number frags s (label.Place a) = fragment_number 0 frags.list a
label_number frags s (label.Item k) = if nat_le (s.first + k) s.stop then Some (s.first + k) else None
label_number frags s label.Routine = first_number (item_count frags.list) frags.routine
label_number frags s to = None

-- ---- the address of a label, where the items have places; a label that names nothing has none

abbrev pub Places : Type 0
Places = ℕ → ℕ

abbrev pub Addresses : Type 0
Addresses = Label → Option ℕ

-- what stands beside an address in pairs
abbrev pub beside : List (ℕ × ℕ) → ℕ → Option ℕ
beside [] a = None
beside (p ∷ rest) a = if p.0 == a then Some p.1 else beside rest a

abbrev pub label_address : Fragments → Places → Slot → Addresses
label_address frags places s (label.Stub a) = beside frags.stubs a
label_address frags places s (label.Table a) = beside frags.tables a
label_address frags places s to = option_map places (label_number frags s to)

-- ---- the instruction that an item is, with its label's address

-- the memory at an absolute address below 2^31 (Intel SDM, volume 2, section 2.1.5, table 2-3)
abbrev pub absolute : ℕ → Mem
absolute a = record { base = None; index = None; scale = 1; disp = pos a }

abbrev pub store : ℕ → ℕ → Insn
store a n = insn.Mov W64 (place.Mem (absolute a)) (operand.Imm n)

abbrev pub resolved : Addresses → Item → Option Insn
resolved at (item.Whole x) = Some x
resolved at (item.Jump None to) = option_map (λ t. insn.Jmp t) (at to)
resolved at (item.Jump (Some cond) to) = option_map (λ t. insn.Jcc cond t) (at to)
resolved at (item.Jrcxz to) = option_map (λ t. insn.Jrcxz t) (at to)
resolved at (item.Store a to) = if nat_lt a (2 ^ 31) then option_map (store a) (at to) else None
