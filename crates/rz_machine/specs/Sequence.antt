-- The sequence of a kept instruction: the items that stand for it in a new file, with their last jump. A return, an indirect
-- call or an indirect jump checks where it leads, or looks it up; any other instruction goes on by its kept edges, else to its stub.
use Rattle.std.specs.Prelude.{ℕ, zero, suc, ℤ, pos, ◌+◌, ◌-ℤ◌, Bool, nat_le, if◌then◌else◌, List, [], ◌∷◌, ◌++◌, length, Some, None}
use Rattle.rz_num.specs.declared.width.Width.TheVariants.{W32, W64}
use Rattle.rz_image.specs.Memory.{wrap}
use Rattle.rz_isa.specs.declared.decoding.Decoded.{Decoded}
use Rattle.rz_isa.specs.declared.decoding.Decoded.TheVariants as decoded
use Rattle.rz_isa.specs.declared.instruction.Insn.{Insn}
use Rattle.rz_isa.specs.declared.instruction.Insn.TheVariants as insn
use Rattle.rz_isa.specs.declared.instruction.Place.{Place}
use Rattle.rz_isa.specs.declared.instruction.Place.TheVariants as place
use Rattle.rz_isa.specs.declared.instruction.Operand.TheVariants as operand
use Rattle.rz_isa.specs.declared.item_list.Label.{Label}
use Rattle.rz_isa.specs.declared.item_list.Label.TheVariants as label
use Rattle.rz_isa.specs.declared.item_list.Item.{Item}
use Rattle.rz_isa.specs.declared.item_list.Item.TheVariants as item
use Rattle.rz_isa.specs.Emitted.{register}
use Rattle.rz_isa.specs.Insn.{kind_of}
use Rattle.rz_isa.specs.Items.{absolute}
use Rattle.rz_isa.specs.Nodes.{Decoder, Code, is_site, spelled_at}
use Rattle.rz_machine.specs.declared.way.Transfer.TheVariants as transfer
use Rattle.rz_machine.specs.declared.way.Way.{Way}
use Rattle.rz_machine.specs.declared.way.Way.TheVariants.{Onward, Jumps, Branches, BranchesOnRcx, Transfers, Calls, Halts}
use Rattle.rz_machine.specs.Kept.{Edges, has_edge, targets_of}
use Rattle.rz_machine.specs.Way.{way_of}

-- ---- of an instruction that is no site

-- where a transfer from a to b leads: to the fragment of b where the edge is kept, else to the stub of a
abbrev pub to_label : (keeps : ℕ → Bool) → ℕ → ℕ → Label
to_label keeps a b = if keeps b then label.Place b else label.Stub a

-- a jump that always goes there
abbrev pub jump_to : (keeps : ℕ → Bool) → ℕ → ℕ → Item
jump_to keeps a b = item.Jump None (to_label keeps a b)

-- MOV of a number to a 32-bit register, and PUSH of one (Intel SDM, volume 2, "MOV" and "PUSH")
abbrev pub mov_number : ℕ → ℕ → Insn
mov_number r v = insn.Mov W32 (register r) (operand.Imm v)

abbrev pub push_number : ℕ → Insn
push_number v = insn.Push (operand.Imm v)

-- the sequence for the instruction x at a, before `next`: JRCXZ goes over the jump to the next address's label;
-- a call pushes the original's next address, and after a system call RCX is that address
abbrev pub items_by : Way → (keeps : ℕ → Bool) → ℕ → ℕ → Insn → List Item
items_by Onward keeps a next x = item.Whole x ∷ jump_to keeps a next ∷ []
items_by (Jumps target) keeps a next x = jump_to keeps a target ∷ []
items_by (Branches cond target) keeps a next x =
    item.Jump (Some cond) (to_label keeps a target) ∷ jump_to keeps a next ∷ []
items_by (BranchesOnRcx target) keeps a next x =
    item.Jrcxz (label.Item 2) ∷ jump_to keeps a next ∷ jump_to keeps a target ∷ []
items_by (Transfers (transfer.Call target)) keeps a next x =
    item.Whole (push_number next) ∷ jump_to keeps a target ∷ []
items_by (Transfers how) keeps a next x = []
items_by Calls keeps a next x = item.Whole x ∷ item.Whole (mov_number 1 next) ∷ jump_to keeps a next ∷ []
items_by (Halts how) keeps a next x = item.Whole x ∷ []

abbrev pub fragment_items : (keeps : ℕ → Bool) → ℕ → ℕ → Insn → List Item
fragment_items keeps a next x = items_by (way_of x) keeps a next x

-- ---- of a site: moves of RCX, which is register 1, and of RSP, which is register 4 (Intel SDM, volume 2, "MOV", "LEA" and "POP")

-- to the word at an address
abbrev pub save_at : ℕ → Item
save_at a = item.Whole (insn.Mov W64 (place.Mem (absolute a)) (operand.Place (register 1)))

abbrev pub load : Place → Item
load src = item.Whole (insn.Mov W64 (register 1) (operand.Place src))

abbrev pub load_at : ℕ → Item
load_at a = load (place.Mem (absolute a))

-- a number added to a register; no flag is touched
abbrev pub add_to : ℕ → ℤ → Item
add_to r n = item.Whole (insn.Lea W64 r (place.Mem (record { base = Some r; index = None; scale = 1; disp = n })))

abbrev pub jump : Label → Item
jump to = item.Jump None to

-- ---- first the value that the transfer goes to comes into RCX; RCX itself stands at the scratch page

-- the bytes that a return drops behind its address
abbrev pub drop : ℕ → List Item
drop zero = []
drop (suc n) = add_to 4 (pos (suc n)) ∷ []

-- of the instruction before `next`. A call pushes the original's next address, with the original's RCX, and its operand
-- is read before
abbrev pub load_value : (scratch next : ℕ) → Insn → List Item
load_value scratch next (insn.Ret bytes) = save_at scratch ∷ item.Whole (insn.Pop (register 1)) ∷ drop bytes
load_value scratch next (insn.JmpInd src) = save_at scratch ∷ load src ∷ []
load_value scratch next (insn.CallInd src) =
    save_at scratch ∷ load src ∷ save_at (scratch + 8) ∷ load_at scratch
    ∷ item.Whole (insn.Push (operand.Imm next)) ∷ load_at (scratch + 8) ∷ []
load_value scratch next x = []

-- ---- then the targets are subtracted in turn, and JRCXZ tests for zero (Intel SDM, volume 2, "Jcc")

-- of one target, where RCX is the value minus the one before; the items have numbers from `first` on
abbrev pub piece : (scratch first previous target : ℕ) → List Item
piece scratch first previous target =
    add_to 1 (pos previous -ℤ pos target) ∷ item.Jrcxz (label.Item (first + 3)) ∷ jump (label.Item (first + 5))
    ∷ load_at scratch ∷ jump (label.Place target) ∷ []

-- of all targets; any other value leads to the stub of the address `at`
abbrev pub check : (scratch at first previous : ℕ) → List ℕ → List Item
check scratch at first previous [] = load_at scratch ∷ jump (label.Stub at) ∷ []
check scratch at first previous (t ∷ rest) = piece scratch first previous t ++ check scratch at (first + 5) t rest

-- ---- or the routine looks the value up: the address of the site's table goes to the third word of the scratch page

abbrev pub look_up : (scratch at : ℕ) → List Item
look_up scratch at = item.Store (scratch + 16) (label.Table at) ∷ jump label.Routine ∷ []

-- up to 32 targets are tried in turn, which touches no flag; more are looked up
abbrev pub dispatch : (scratch at first : ℕ) → List ℕ → List Item
dispatch scratch at first targets =
    if nat_le (length targets) 32 then check scratch at first 0 targets else look_up scratch at

-- of the instruction x at an address, before `next`
abbrev pub site_items : (scratch : ℕ) → (targets : List ℕ) → (at next : ℕ) → Insn → List Item
site_items scratch targets at next x =
    let head = load_value scratch next x in head ++ dispatch scratch at (length head) targets

-- ---- of any kept instruction

-- of the instruction x at a, before n: a site checks its targets, with the scratch page of this address
abbrev pub items_of : (scratch : ℕ) → Edges → ℕ → ℕ → Insn → List Item
items_of scratch edges a n x =
    if is_site (kind_of x) then site_items scratch (targets_of edges a) a n x else fragment_items (has_edge edges a) a n x

-- of what the bytes at a spell; where they spell nothing the run would end
abbrev pub items_for : (scratch : ℕ) → Edges → ℕ → Decoded → List Item
items_for scratch edges a (decoded.Insn x len) = items_of scratch edges a (wrap (a + len)) x
items_for scratch edges a _ = item.Whole insn.Ud2 ∷ []

abbrev pub node_items : Decoder → Code → (scratch : ℕ) → Edges → ℕ → List Item
node_items dec code scratch edges a = items_for scratch edges a (spelled_at dec code a)
