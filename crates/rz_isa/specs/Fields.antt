use Rattle.std.specs.Prelude.{ℕ, ◌+◌, ◌-◌, ◌*◌, ◌/◌, ◌%◌, ◌^◌, ◌==◌, Bool, nat_lt, ◌&&◌, is_some, Option, Some, None, List, [], ◌∷◌, if◌then◌else◌}
use Rattle.rz_num.specs.declared.width.Width.{Width}
use Rattle.rz_num.specs.declared.width.Width.TheVariants.{W8, W16, W32}
use Rattle.rz_flags.specs.Cond.{cond_of}
use Rattle.rz_isa.specs.declared.rows.Row.{Row}
use Rattle.rz_isa.specs.declared.rows.F3Rule.{F3Rule}
use Rattle.rz_isa.specs.declared.rows.F3Rule.TheVariants as f3s
use Rattle.rz_isa.specs.declared.rows.RmRule.{RmRule}
use Rattle.rz_isa.specs.declared.rows.RmRule.TheVariants as rules
use Rattle.rz_isa.specs.declared.rows.ImmKind.{ImmKind}
use Rattle.rz_isa.specs.declared.rows.ImmKind.TheVariants as imms
use Rattle.rz_isa.specs.declared.rows.Letter.{Letter}
use Rattle.rz_isa.specs.declared.rows.Letter.TheVariants as letters
use Rattle.rz_isa.specs.declared.rows.Op.{Op}
use Rattle.rz_isa.specs.declared.rows.Op.TheVariants as ops
use Rattle.rz_isa.specs.declared.instruction.Insn.{Insn}
use Rattle.rz_isa.specs.declared.instruction.Insn.TheVariants as insns
use Rattle.rz_isa.specs.declared.instruction.Reg.{Reg}
use Rattle.rz_isa.specs.declared.instruction.Reg.TheVariants as regs
use Rattle.rz_isa.specs.declared.instruction.Mem.{Mem}
use Rattle.rz_isa.specs.declared.instruction.Place.{Place}
use Rattle.rz_isa.specs.declared.instruction.Place.TheVariants as places
use Rattle.rz_isa.specs.declared.instruction.Operand.{Operand}
use Rattle.rz_isa.specs.declared.instruction.Operand.TheVariants as operands
use Rattle.rz_isa.specs.declared.instruction.Count.{Count}
use Rattle.rz_isa.specs.declared.instruction.Count.TheVariants as counts
use Rattle.rz_isa.specs.declared.instruction.BitIndex.{BitIndex}
use Rattle.rz_isa.specs.declared.instruction.BitIndex.TheVariants as indexes
use Rattle.rz_isa.specs.declared.instruction.Rep.{Rep}
use Rattle.rz_isa.specs.declared.instruction.Rep.TheVariants as reps
use Rattle.rz_isa.specs.declared.spelled.Fields.{Fields}
use Rattle.rz_isa.specs.Number.{number, signed, extended_to, displaced_by}
use Rattle.rz_isa.specs.Spelling.{Parts, bit_r, bit_x, bit_b, second, times, width_at}

-- ---- registers and memory (Intel SDM, volume 2, sections 2.1.5, 2.2.1.2 and 2.2.1.6)

-- a byte register: without REX 4 to 7 are AH, CH, DH and BH
abbrev pub byte_reg : Option ℕ → ℕ → Reg
byte_reg None n = if nat_lt n 4 then regs.R n else regs.High (n - 4)
byte_reg (Some rex) n = regs.R n

abbrev pub reg_of : Width → Option ℕ → ℕ → Reg
reg_of W8 rex n = byte_reg rex n
reg_of _ rex n = regs.R n

-- index 100 without REX.X is none
abbrev pub index_of : ℕ → Option ℕ
index_of n = if n == 4 then None else Some n

-- base 101 with mod 00 is none, whatever REX.B says
abbrev pub base_of : ℕ → ℕ → ℕ → Option ℕ
base_of mode low b = if mode == 0 && low == 5 then None else Some (low + 8 * b)

abbrev pub sib_mem : ℕ → ℕ → Option ℕ → List ℕ → Mem
sib_mem mode sib rex disp = let index = index_of (sib / 8 % 8 + 8 * bit_x rex) in record {
  base = base_of mode (sib % 8) (bit_b rex);
  index = index;
  scale = if is_some index then 2 ^ (sib / 64) else 1;
  disp = signed disp;
}

abbrev pub base_mem : ℕ → Option ℕ → List ℕ → Mem
base_mem low rex disp = record { base = Some (low + 8 * bit_b rex); index = None; scale = 1; disp = signed disp }

abbrev pub behind_one : List ℕ → List ℕ
behind_one [] = []
behind_one (b ∷ bs) = bs

-- what ModRM, SIB and displacement name at a width, the next instruction's address given
abbrev pub place_of : Width → Option ℕ → ℕ → List ℕ → Place
place_of w rex next [] = places.Reg (regs.R 0)
place_of w rex next (m ∷ rest) =
    if m / 64 == 3 then places.Reg (reg_of w rex (m % 8 + 8 * bit_b rex))
    else if m % 8 == 4 then places.Mem (sib_mem (m / 64) (second (m ∷ rest)) rex (behind_one rest))
    else if m / 64 == 0 && m % 8 == 5 then places.At (displaced_by next rest)
    else places.Mem (base_mem (m % 8) rex rest)

-- a row whose ModRM byte is fixed has no operand in it
abbrev pub rm_place : Option RmRule → Width → Option ℕ → ℕ → List ℕ → Place
rm_place (Some (rules.Fixed b)) w rex next rm = places.Reg (regs.R 0)
rm_place _ w rex next rm = place_of w rex next rm

-- ---- the fields of a spelling

-- Extend reads its source at the width that the letter says
abbrev pub letter_width : Letter → Width → Width
letter_width letters.E8 w = W8
letter_width letters.E16 w = W16
letter_width letters.E32 w = W32
letter_width _ w = w

abbrev pub rm_width : Op → Width → Width
rm_width (ops.Extend signed d s) w = letter_width s w
rm_width _ w = w

abbrev pub reg_field : List ℕ → ℕ
reg_field [] = 0
reg_field (m ∷ rest) = m / 8 % 8

-- the number in the reg field, or where there is no ModRM in the opcode; 0 where the row has neither
abbrev pub reg_number : Option RmRule → Option ℕ → ℕ → Parts → ℕ
reg_number None digit span p = if span == 8 then p.opcode % 8 + 8 * bit_b p.rex else 0
reg_number (Some (rules.Fixed b)) digit span p = 0
reg_number (Some rule) (Some d) span p = 0
reg_number (Some rule) None span p = reg_field p.rm + 8 * bit_r p.rex

-- the immediate cut to the width, or the target of a displacement
abbrev pub imm_of : Option ImmKind → Width → ℕ → List ℕ → ℕ
imm_of None w next bs = 0
imm_of (Some imms.Ibs) w next bs = extended_to w bs
imm_of (Some imms.Iz) w next bs = extended_to w bs
imm_of (Some imms.J8) w next bs = displaced_by next bs
imm_of (Some imms.J32) w next bs = displaced_by next bs
imm_of _ w next bs = number bs

-- the byte of the repeat prefix among the prefixes, 0 where none stands
abbrev pub repeat_in : List ℕ → ℕ
repeat_in ps = if nat_lt 0 (times 0xf3 ps) then 0xf3 else if nat_lt 0 (times 0xf2 ps) then 0xf2 else 0

abbrev pub rep_of : F3Rule → ℕ → ℕ
rep_of f3s.Repeats b = if b == 0xf3 then b else 0
rep_of f3s.RepeatsBoth b = b
rep_of _ b = 0

abbrev pub fields : Row → Parts → ℕ → Fields
fields row p next = let w = width_at row p in record {
  w = w;
  reg = reg_of w p.rex (reg_number row.rm row.digit row.span p);
  rm = rm_place row.rm (rm_width row.op w) p.rex next p.rm;
  cond = if row.span == 16 then p.opcode % 16 else 0;
  imm = imm_of row.imm w next p.imm;
  rep = rep_of row.f3 (repeat_in p.prefixes);
}

-- ---- the instruction of an operation and the fields

-- the place that a letter names
abbrev pub place_at : Letter → Fields → Place
place_at letters.G f = places.Reg f.reg
place_at letters.O f = places.Reg f.reg
place_at letters.A f = places.Reg (regs.R 0)
place_at _ f = f.rm

abbrev pub operand_at : Letter → Fields → Operand
operand_at letters.Imm f = operands.Imm f.imm
operand_at l f = operands.Place (place_at l f)

abbrev pub reg_at : Letter → Fields → Reg
reg_at letters.A f = regs.R 0
reg_at _ f = f.reg

abbrev pub number_of : Reg → ℕ
number_of (regs.R n) = n
number_of (regs.High n) = n

abbrev pub number_at : Letter → Fields → ℕ
number_at l f = number_of (reg_at l f)

abbrev pub count_at : Letter → Fields → Count
count_at letters.One f = counts.Imm 1
count_at letters.Cl f = counts.Cl
count_at _ f = counts.Imm (f.imm % 2 ^ 8)

abbrev pub index_at : Letter → Fields → BitIndex
index_at letters.Imm f = indexes.Imm (f.imm % 2 ^ 8)
index_at l f = indexes.Reg (number_at l f)

-- F3 repeats while what is compared is equal, F2 while it is not
abbrev pub repeat_of : ℕ → Rep
repeat_of n = if n == 0xf3 then reps.WhileEqual else if n == 0xf2 then reps.WhileNot else reps.No

abbrev pub is_rep : ℕ → Bool
is_rep n = n == 0xf3

abbrev pub build_op : Op → Fields → Insn
build_op (ops.Arith o d s) f = insns.Arith o f.w (place_at d f) (operand_at s f)
build_op (ops.Test d s) f = insns.Test f.w (place_at d f) (operand_at s f)
build_op (ops.Mov d s) f = insns.Mov f.w (place_at d f) (operand_at s f)
build_op (ops.Lea d s) f = insns.Lea f.w (number_at d f) (place_at s f)
build_op (ops.Extend signed d s) f = insns.Extend signed f.w (letter_width s f.w) (number_at d f) (place_at s f)
build_op (ops.Push s) f = insns.Push (operand_at s f)
build_op (ops.Pop d) f = insns.Pop (place_at d f)
build_op ops.Leave f = insns.Leave
build_op ops.PushFlags f = insns.PushFlags
build_op ops.PopFlags f = insns.PopFlags
build_op (ops.Unary o d) f = insns.Unary o f.w (place_at d f)
build_op (ops.Wide o s) f = insns.Wide o f.w (place_at s f)
build_op (ops.Imul2 d s) f = insns.Imul2 f.w (number_at d f) (place_at s f)
build_op (ops.Imul3 d s i) f = insns.Imul3 f.w (number_at d f) (place_at s f) f.imm
build_op (ops.Shift o d c) f = insns.Shift o f.w (place_at d f) (count_at c f)
build_op (ops.DoubleShift left d s c) f = insns.DoubleShift left f.w (place_at d f) (number_at s f) (count_at c f)
build_op (ops.Cmov d s) f = insns.Cmov (cond_of (f.cond % 16)) f.w (number_at d f) (place_at s f)
build_op (ops.Set d) f = insns.Set (cond_of (f.cond % 16)) (place_at d f)
build_op ops.Jcc f = insns.Jcc (cond_of (f.cond % 16)) f.imm
build_op ops.Jrcxz f = insns.Jrcxz f.imm
build_op ops.Jmp f = insns.Jmp f.imm
build_op ops.Call f = insns.Call f.imm
build_op (ops.CallInd s) f = insns.CallInd (place_at s f)
build_op (ops.JmpInd s) f = insns.JmpInd (place_at s f)
build_op ops.Ret f = insns.Ret (f.imm % 2 ^ 16)
build_op ops.Convert f = insns.Convert f.w
build_op ops.SignFill f = insns.SignFill f.w
build_op (ops.Xchg d s) f = insns.Xchg f.w (place_at d f) (reg_at s f)
build_op (ops.CmpXchg d s) f = insns.CmpXchg f.w (place_at d f) (reg_at s f)
build_op (ops.Xadd d s) f = insns.Xadd f.w (place_at d f) (reg_at s f)
build_op ops.Nop f = insns.Nop
build_op (ops.Bswap d) f = insns.Bswap f.w (number_at d f)
build_op (ops.BitTest o d i) f = insns.BitTest o f.w (place_at d f) (index_at i f)
build_op (ops.Scan o d s) f = insns.Scan o f.w (number_at d f) (place_at s f)
build_op ops.Movs f = insns.Movs f.w (is_rep f.rep)
build_op ops.Stos f = insns.Stos f.w (is_rep f.rep)
build_op ops.Cmps f = insns.Cmps f.w (repeat_of f.rep)
build_op ops.Scas f = insns.Scas f.w (repeat_of f.rep)
build_op (ops.Flag o) f = insns.Flag o
build_op ops.Syscall f = insns.Syscall
build_op ops.Ud2 f = insns.Ud2
build_op ops.Hlt f = insns.Hlt
build_op ops.Int3 f = insns.Int3
