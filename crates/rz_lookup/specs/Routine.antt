-- The lookup routine, which all sites share: it looks a value up in a table, and goes where the table leads it (Intel SDM,
-- volume 2, "MOV", "CMP", "SHR", "LEA", "PUSHF/PUSHFD/PUSHFQ", "POPF/POPFD/POPFQ", "Jcc", "JMP").
use Rattle.std.specs.Prelude.{◌≡◌, ℕ, pos, ◌+◌, ◌^◌, ◌<◌, ◌≤◌, Bool, true, false, nat_lt, List, [], ◌∷◌, ◌++◌, length, Some, None, IsTrue}
use Rattle.std.specs.List.{list_all}
use Rattle.rz_num.specs.declared.width.Width.{Width}
use Rattle.rz_num.specs.declared.width.Width.TheVariants.{W32, W64}
use Rattle.rz_flags.specs.declared.ArithOp.TheVariants.{Cmp}
use Rattle.rz_flags.specs.declared.ShiftOp.TheVariants.{Shr}
use Rattle.rz_flags.specs.declared.Cond.{Cond}
use Rattle.rz_flags.specs.declared.Cond.TheVariants.{B, E, NE}
use Rattle.rz_isa.specs.declared.rows.Row.{Row}
use Rattle.rz_isa.specs.declared.instruction.Insn.{Insn}
use Rattle.rz_isa.specs.declared.instruction.Insn.TheVariants as insn
use Rattle.rz_isa.specs.declared.instruction.Mem.{Mem}
use Rattle.rz_isa.specs.declared.instruction.Place.TheVariants as place
use Rattle.rz_isa.specs.declared.instruction.Operand.{Operand}
use Rattle.rz_isa.specs.declared.instruction.Operand.TheVariants as operand
use Rattle.rz_isa.specs.declared.instruction.Count.TheVariants as count
use Rattle.rz_isa.specs.declared.item_list.Label.TheVariants as label
use Rattle.rz_isa.specs.declared.item_list.Item.{Item}
use Rattle.rz_isa.specs.declared.item_list.Item.TheVariants as item
use Rattle.rz_isa.specs.Emitted.{register, has_lookup}
use Rattle.rz_isa.specs.Items.{Addresses, absolute}
use Rattle.rz_isa.specs.Nodes.{Decoder}
use Rattle.rz_isa.specs.Sizes.{IsSized}
use Rattle.rz_image.specs.Memory.{Regions}
use Rattle.rz_machine.specs.Added.{Layout}
use Rattle.rz_machine.specs.Simulates.{HasScratch, ItemsFrom}
use Rattle.rz_machine.specs.Lookup.{IsLookup}

-- ---- instructions of the routine: RAX, RCX and RSP are registers 0, 1 and 4

abbrev pub based : (r disp : ℕ) → Mem
based r disp = record { base = Some r; index = None; scale = 1; disp = pos disp }

-- the memory at RSP, 8 times RAX and a displacement
abbrev pub paired : ℕ → Mem
paired disp = record { base = Some 4; index = Some 0; scale = 8; disp = pos disp }

abbrev pub store : (a r : ℕ) → Insn
store a r = insn.Mov W64 (place.Mem (absolute a)) (operand.Place (register r))

abbrev pub load : Width → (r : ℕ) → Mem → Insn
load w r m = insn.Mov w (register r) (operand.Place (place.Mem m))

abbrev pub load_number : (r n : ℕ) → Insn
load_number r n = insn.Mov W32 (register r) (operand.Imm n)

-- by one bit to the right
abbrev pub halve : ℕ → Insn
halve r = insn.Shift Shr W64 (register r) (count.Imm 1)

abbrev pub compare : ℕ → Operand → Insn
compare r x = insn.Arith Cmp W64 (register r) x

-- the low 32 bits of a register with memory
abbrev pub compare_low : ℕ → Mem → Insn
compare_low r m = insn.Arith Cmp W32 (register r) (operand.Place (place.Mem m))

abbrev pub advance : ℕ → Mem → Insn
advance r m = insn.Lea W64 r (place.Mem m)

abbrev pub branch : Cond → ℕ → Item
branch c k = item.Jump (Some c) (label.Item k)

abbrev pub jump_to : ℕ → Item
jump_to k = item.Jump None (label.Item k)

-- ---- the routine

-- RSP, the flags and RAX are kept at the scratch page; then RSP is the table's address, and RAX the number of pairs: one
-- pair is checked at once, none leads to the stub, and RAX is halved where there are more
abbrev pub enter : ℕ → List Item
enter scratch =
    item.Whole (store (scratch + 24) 4)
    ∷ item.Whole (load_number 4 (scratch + 40))
    ∷ item.Whole insn.PushFlags
    ∷ item.Whole (store (scratch + 40) 0)
    ∷ item.Whole (load W64 4 (absolute (scratch + 16)))
    ∷ item.Whole (load W64 0 (based 4 8))
    ∷ item.Whole (compare 0 (operand.Imm 1))
    ∷ branch E 16
    ∷ branch B 19
    ∷ item.Whole (halve 0)
    ∷ []

-- the pairs behind the half are kept
abbrev pub keep_upper : Item
keep_upper = item.Whole (advance 4 (paired 0))

-- two pairs or more are left, the first of them 16 bytes behind RSP; RAX is half their number, and CF is set where that
-- is odd. The half is kept that has the value, if any has; RAX is its number of pairs, and is halved
abbrev pub search : List Item
search =
    branch B 22
    ∷ item.Whole (compare_low 1 (paired 16))
    ∷ branch B 14
    ∷ keep_upper
    ∷ item.Whole (halve 0)
    ∷ branch NE 10
    ∷ []

-- one pair is left: it has the value, or none has
abbrev pub decide : ℕ → List Item
decide scratch =
    item.Whole (load W32 0 (based 4 16))
    ∷ item.Whole (compare 0 (operand.Place (register 1)))
    ∷ branch E 28
    ∷ item.Whole (load W64 0 (absolute (scratch + 16)))
    ∷ item.Whole (load W64 0 (based 0 0))
    ∷ jump_to 29
    ∷ []

-- of an odd number of pairs the greater half has one more
abbrev pub search_odd : List Item
search_odd =
    item.Whole (compare_low 1 (paired 16))
    ∷ branch B 14
    ∷ keep_upper
    ∷ item.Whole (advance 0 (based 0 1))
    ∷ item.Whole (halve 0)
    ∷ jump_to 10
    ∷ []

-- to the new place of the pair that is left, or to the place in RAX, with the registers and flags as they were, and the
-- original's RCX
abbrev pub leave : ℕ → List Item
leave scratch =
    item.Whole (load W32 0 (based 4 20))
    ∷ item.Whole (store (scratch + 48) 0)
    ∷ item.Whole (load_number 4 (scratch + 32))
    ∷ item.Whole insn.PopFlags
    ∷ item.Whole (load W64 0 (absolute (scratch + 40)))
    ∷ item.Whole (load W64 4 (absolute (scratch + 24)))
    ∷ item.Whole (load W64 1 (absolute scratch))
    ∷ item.Whole (insn.JmpInd (place.Mem (absolute (scratch + 48))))
    ∷ []

abbrev pub lookup_items : ℕ → List Item
lookup_items scratch = enter scratch ++ (search ++ (decide scratch ++ (search_odd ++ leave scratch)))

-- each label of an item names an item of a list of so many
abbrev pub names_own : ℕ → Item → Bool
names_own n (item.Whole x) = true
names_own n (item.Jump c (label.Item k)) = nat_lt k n
names_own n (item.Jrcxz (label.Item k)) = nat_lt k n
names_own n i = false

-- there are items, and they name no label but those of their own list
pub record IsClosed (items : List Item) : Type 0 where
  pub some : 0 < length items
  pub own : list_all (names_own (length items)) items ≡ true

-- ---- laws

-- the labels of a list's own items name their places
abbrev pub NamesItems : Addresses → (own : ℕ → ℕ) → Type 0
NamesItems at own = (k : ℕ) → at (label.Item k) ≡ Some (own k)

-- items look values up, wherever they stand and in whatever spelling
abbrev pub IsRoutine : Decoder → (scratch : ℕ) → List Item → Type 0
IsRoutine dec scratch items =
    (lay : Layout) (at : Addresses) (own : ℕ → ℕ) (wm : Regions) (p : ℕ) → NamesItems at own → ItemsFrom dec wm at own 0 p items
    → HasScratch scratch lay.added wm → IsLookup dec lay wm scratch p

-- items can be laid out and take at most 512 bytes, for a table of instructions with transfers that are looked up
abbrev pub IsSizedRoutine : List Row → List Item → Type 0
IsSizedRoutine rows items = IsTrue (has_lookup rows) → IsSized rows items 512

abbrev pub RoutineLooksUp : Decoder → Type 0
RoutineLooksUp dec = (scratch : ℕ) → IsRoutine dec scratch (lookup_items scratch)

abbrev pub RoutineIsSized : List Row → Type 0
RoutineIsSized rows = (scratch : ℕ) → scratch + 4096 ≤ 2 ^ 31 → IsSizedRoutine rows (lookup_items scratch)
