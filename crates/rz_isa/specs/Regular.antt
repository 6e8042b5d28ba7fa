use Rattle.std.specs.Prelude.{ℕ, ◌/◌, ◌%◌, ◌==◌, Bool, true, false, nat_lt, ◌&&◌, ◌||◌, not, Option, Some, None, is_none, is_some}
use Rattle.rz_isa.specs.declared.rows.Row.{Row}
use Rattle.rz_isa.specs.declared.rows.RmRule.{RmRule}
use Rattle.rz_isa.specs.declared.rows.RmRule.TheVariants as rules
use Rattle.rz_isa.specs.declared.rows.Size.{Size}
use Rattle.rz_isa.specs.declared.rows.Size.TheVariants as sizes
use Rattle.rz_isa.specs.declared.rows.ImmKind.{ImmKind}
use Rattle.rz_isa.specs.declared.rows.ImmKind.TheVariants as imms
use Rattle.rz_isa.specs.declared.rows.Letter.{Letter}
use Rattle.rz_isa.specs.declared.rows.Letter.TheVariants as letters
use Rattle.rz_isa.specs.declared.rows.Op.{Op}
use Rattle.rz_isa.specs.declared.rows.Op.TheVariants as ops
use Rattle.rz_isa.specs.Spelling.{b_demand}

-- What else is asked of a row, so that its fields can be told from the instruction and the
-- other way round: its operands come from different fields, its opcodes stand in one block,
-- and the longest of its spellings without needless prefixes has at most 15 bytes.

-- the field that a letter takes
pub data Slot : Type 0 where
  nowhere : Slot
  in_rm : Slot
  in_reg : Slot
  in_imm : Slot

abbrev pub place_slot : Letter → Slot
place_slot letters.G = in_reg
place_slot letters.O = in_reg
place_slot letters.A = nowhere
place_slot _ = in_rm

abbrev pub operand_slot : Letter → Slot
operand_slot letters.Imm = in_imm
operand_slot l = place_slot l

abbrev pub reg_slot : Letter → Slot
reg_slot letters.A = nowhere
reg_slot _ = in_reg

abbrev pub count_slot : Letter → Slot
count_slot letters.One = nowhere
count_slot letters.Cl = nowhere
count_slot _ = in_imm

abbrev pub index_slot : Letter → Slot
index_slot letters.Imm = in_imm
index_slot l = reg_slot l

abbrev pub apart : Slot → Slot → Bool
apart in_rm in_rm = false
apart in_reg in_reg = false
apart in_imm in_imm = false
apart _ _ = true

-- the operands come from different fields
abbrev pub operands_apart : Op → Bool
operands_apart (ops.Arith o d s) = apart (place_slot d) (operand_slot s)
operands_apart (ops.Test d s) = apart (place_slot d) (operand_slot s)
operands_apart (ops.Mov d s) = apart (place_slot d) (operand_slot s)
operands_apart (ops.Lea d s) = apart (reg_slot d) (place_slot s)
operands_apart (ops.Extend o d s) = apart (reg_slot d) (place_slot s)
operands_apart (ops.Imul2 d s) = apart (reg_slot d) (place_slot s)
operands_apart (ops.Imul3 d s i) = apart (reg_slot d) (place_slot s)
operands_apart (ops.Shift o d c) = apart (place_slot d) (count_slot c)
operands_apart (ops.DoubleShift o d s c) = apart (place_slot d) (reg_slot s) && apart (place_slot d) (count_slot c) && apart (reg_slot s) (count_slot c)
operands_apart (ops.Cmov d s) = apart (reg_slot d) (place_slot s)
operands_apart (ops.Xchg d s) = apart (place_slot d) (reg_slot s)
operands_apart (ops.CmpXchg d s) = apart (place_slot d) (reg_slot s)
operands_apart (ops.Xadd d s) = apart (place_slot d) (reg_slot s)
operands_apart (ops.BitTest o d i) = apart (place_slot d) (index_slot i)
operands_apart (ops.Scan o d s) = apart (reg_slot d) (place_slot s)
operands_apart _ = true

abbrev pub is_byte_imm : Option ImmKind → Bool
is_byte_imm None = true
is_byte_imm (Some imms.Ib) = true
is_byte_imm _ = false

abbrev pub is_word_imm : Option ImmKind → Bool
is_word_imm None = true
is_word_imm (Some imms.Iw) = true
is_word_imm _ = false

-- counts and bit indexes have one byte, what Ret pops has two, a Nop none
abbrev pub imm_suits : Op → Option ImmKind → Bool
imm_suits (ops.Shift o d c) k = is_byte_imm k
imm_suits (ops.DoubleShift o d s c) k = is_byte_imm k
imm_suits (ops.BitTest o d i) k = is_byte_imm k
imm_suits ops.Ret k = is_word_imm k
imm_suits ops.Nop k = is_none k
imm_suits _ k = true

abbrev pub is_single : Size → Bool
is_single sizes.V = false
is_single sizes.D = false
is_single sizes.Y = false
is_single _ = true

-- an instruction that doesn't name its width has a class of one width; Nop names nothing at all
abbrev pub width_suits : Op → Size → Bool
width_suits (ops.Push s) c = is_single c
width_suits (ops.Pop d) c = is_single c
width_suits ops.Leave c = is_single c
width_suits ops.PushFlags c = is_single c
width_suits ops.PopFlags c = is_single c
width_suits (ops.Set d) c = is_single c
width_suits ops.Jcc c = is_single c
width_suits ops.Jrcxz c = is_single c
width_suits ops.Jmp c = is_single c
width_suits ops.Call c = is_single c
width_suits (ops.CallInd s) c = is_single c
width_suits (ops.JmpInd s) c = is_single c
width_suits ops.Ret c = is_single c
width_suits (ops.Flag o) c = is_single c
width_suits ops.Syscall c = is_single c
width_suits ops.Ud2 c = is_single c
width_suits ops.Hlt c = is_single c
width_suits ops.Int3 c = is_single c
width_suits _ c = true

-- the operations that name a register by its number alone, which AH, CH, DH and BH haven't
abbrev pub names_number : Op → Bool
names_number (ops.Lea d s) = true
names_number (ops.Extend o d s) = true
names_number (ops.Imul2 d s) = true
names_number (ops.Imul3 d s i) = true
names_number (ops.DoubleShift o d s c) = true
names_number (ops.Cmov d s) = true
names_number (ops.Bswap d) = true
names_number (ops.BitTest o d i) = true
names_number (ops.Scan o d s) = true
names_number _ = false

abbrev pub is_byte_class : Size → Bool
is_byte_class sizes.B = true
is_byte_class sizes.N = true
is_byte_class _ = false

-- a displacement from the next address, or a whole immediate of any width
abbrev pub stands_alone : Option ImmKind → Bool
stands_alone (Some imms.J8) = true
stands_alone (Some imms.J32) = true
stands_alone (Some imms.Iv) = true
stands_alone _ = false

abbrev pub is_exchange : Op → Bool
is_exchange (ops.Xchg letters.O letters.A) = true
is_exchange _ = false

-- 1, 8 or 16 opcodes from a multiple on; 8 only with the register in the opcode
abbrev pub is_block : Row → Bool
is_block r = nat_lt r.opcode 256 && (r.span == 1 || (r.span == 16 && r.opcode % 16 == 0) || (r.span == 8 && r.opcode % 8 == 0 && is_none r.rm))

abbrev pub digit_small : Option ℕ → Bool
digit_small None = true
digit_small (Some d) = nat_lt d 8

-- a whole ModRM byte names a register, and has no digit beside it
abbrev pub rule_small : Option RmRule → Option ℕ → Bool
rule_small (Some (rules.Fixed b)) digit = nat_lt b 256 && b / 64 == 3 && is_none digit
rule_small _ digit = true

abbrev pub is_regular : Row → Bool
is_regular r =
    operands_apart r.op && imm_suits r.op r.imm && width_suits r.op r.size && not (stands_alone r.imm && is_some r.rm) && is_block r && digit_small r.digit && rule_small r.rm r.digit
    && not (is_some (b_demand r.op r.map 0x90) && is_some r.rm) && (not (is_exchange r.op) || r.span == 8) && not (names_number r.op && is_byte_class r.size)
