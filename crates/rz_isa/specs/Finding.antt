use Rattle.std.specs.Prelude.{ℕ, pos, ◌==◌, Bool, true, false, ◌&&◌, Option, Some, None, if◌then◌else◌}
use Rattle.std.specs.Option.{option_and_then}
use Rattle.rz_num.specs.declared.width.Width.{Width}
use Rattle.rz_num.specs.declared.width.Width.TheVariants.{W8, W16, W32, W64}
use Rattle.rz_flags.specs.declared.ArithOp.{ArithOp}
use Rattle.rz_flags.specs.declared.ArithOp.TheVariants as ariths
use Rattle.rz_flags.specs.declared.UnaryOp.{UnaryOp}
use Rattle.rz_flags.specs.declared.UnaryOp.TheVariants as unaries
use Rattle.rz_flags.specs.declared.WideOp.{WideOp}
use Rattle.rz_flags.specs.declared.WideOp.TheVariants as wides
use Rattle.rz_flags.specs.declared.ShiftOp.{ShiftOp}
use Rattle.rz_flags.specs.declared.ShiftOp.TheVariants as shifts
use Rattle.rz_flags.specs.declared.BitOp.{BitOp}
use Rattle.rz_flags.specs.declared.BitOp.TheVariants as bits
use Rattle.rz_flags.specs.declared.ScanOp.{ScanOp}
use Rattle.rz_flags.specs.declared.ScanOp.TheVariants as scans
use Rattle.rz_flags.specs.declared.FlagOp.{FlagOp}
use Rattle.rz_flags.specs.declared.FlagOp.TheVariants as changes
use Rattle.rz_flags.specs.Cond.{number_of as number_of_cond}
use Rattle.rz_isa.specs.declared.rows.Row.{Row}
use Rattle.rz_isa.specs.declared.rows.RmRule.{RmRule}
use Rattle.rz_isa.specs.declared.rows.RmRule.TheVariants as rules
use Rattle.rz_isa.specs.declared.rows.Size.{Size}
use Rattle.rz_isa.specs.declared.rows.Size.TheVariants as sizes
use Rattle.rz_isa.specs.declared.rows.Letter.{Letter}
use Rattle.rz_isa.specs.declared.rows.Letter.TheVariants as letters
use Rattle.rz_isa.specs.declared.rows.Op.{Op}
use Rattle.rz_isa.specs.declared.rows.Op.TheVariants as ops
use Rattle.rz_isa.specs.declared.instruction.Insn.{Insn}
use Rattle.rz_isa.specs.declared.instruction.Insn.TheVariants as insns
use Rattle.rz_isa.specs.declared.instruction.Reg.{Reg}
use Rattle.rz_isa.specs.declared.instruction.Reg.TheVariants as regs
use Rattle.rz_isa.specs.declared.instruction.Place.{Place}
use Rattle.rz_isa.specs.declared.instruction.Place.TheVariants as places
use Rattle.rz_isa.specs.declared.instruction.Operand.{Operand}
use Rattle.rz_isa.specs.declared.instruction.Operand.TheVariants as operands
use Rattle.rz_isa.specs.declared.instruction.Count.{Count}
use Rattle.rz_isa.specs.declared.instruction.Count.TheVariants as counts
use Rattle.rz_isa.specs.declared.instruction.BitIndex.{BitIndex}
use Rattle.rz_isa.specs.declared.instruction.BitIndex.TheVariants as indexes
use Rattle.rz_isa.specs.declared.instruction.Rep.{Rep}
use Rattle.rz_isa.specs.declared.instruction.Rep.TheVariants as reps
use Rattle.rz_isa.specs.declared.spelled.Fields.{Fields}
use Rattle.rz_isa.specs.Fields.{letter_width}
use Rattle.rz_isa.specs.Having.{can_have, is_first}

-- ---- fields for an instruction: those that the operation names, and the least for the rest

abbrev pub least_width : Size → Width
least_width sizes.B = W8
least_width sizes.V = W32
least_width sizes.D = W32
least_width sizes.Y = W32
least_width sizes.Q = W64
least_width sizes.WQ = W64
least_width sizes.N = W8

abbrev pub least_place : Option RmRule → Place
least_place (Some rules.MemoryOnly) = places.Mem (record { base = Some 0; index = None; scale = 1; disp = pos 0 })
least_place _ = places.Reg (regs.R 0)

abbrev pub least : Row → Fields
least row = record { w = least_width row.size; reg = regs.R 0; rm = least_place row.rm; cond = 0; imm = 0; rep = 0 }

-- ---- the fields with what a letter names; none where the letter can't name it

abbrev pub with_place : Letter → Place → Fields → Option Fields
with_place letters.G (places.Reg r) f = Some (record f { reg = r })
with_place letters.G _ f = None
with_place letters.O (places.Reg r) f = Some (record f { reg = r })
with_place letters.O _ f = None
with_place letters.A (places.Reg r) f = if is_first r then Some f else None
with_place letters.A _ f = None
with_place _ p f = Some (record f { rm = p })

abbrev pub with_operand : Letter → Operand → Fields → Option Fields
with_operand letters.Imm (operands.Imm n) f = Some (record f { imm = n })
with_operand letters.Imm _ f = None
with_operand l (operands.Place p) f = with_place l p f
with_operand _ _ f = None

abbrev pub with_reg : Letter → Reg → Fields → Option Fields
with_reg letters.A r f = if is_first r then Some f else None
with_reg _ r f = Some (record f { reg = r })

abbrev pub with_number : Letter → ℕ → Fields → Option Fields
with_number l n f = with_reg l (regs.R n) f

abbrev pub with_count : Letter → Count → Fields → Option Fields
with_count letters.One (counts.Imm n) f = if n == 1 then Some f else None
with_count letters.One _ f = None
with_count letters.Cl counts.Cl f = Some f
with_count letters.Cl _ f = None
with_count _ (counts.Imm n) f = Some (record f { imm = n })
with_count _ _ f = None

abbrev pub with_index : Letter → BitIndex → Fields → Option Fields
with_index letters.Imm (indexes.Imm n) f = Some (record f { imm = n })
with_index letters.Imm _ f = None
with_index l (indexes.Reg n) f = with_number l n f
with_index _ _ f = None

-- ---- equal operations

abbrev pub same_width : Width → Width → Bool
same_width W8 W8 = true
same_width W16 W16 = true
same_width W32 W32 = true
same_width W64 W64 = true
same_width _ _ = false

abbrev pub same_truth : Bool → Bool → Bool
same_truth true true = true
same_truth false false = true
same_truth _ _ = false

abbrev pub same_arith : ArithOp → ArithOp → Bool
same_arith ariths.Add ariths.Add = true
same_arith ariths.Or ariths.Or = true
same_arith ariths.Adc ariths.Adc = true
same_arith ariths.Sbb ariths.Sbb = true
same_arith ariths.And ariths.And = true
same_arith ariths.Sub ariths.Sub = true
same_arith ariths.Xor ariths.Xor = true
same_arith ariths.Cmp ariths.Cmp = true
same_arith _ _ = false

abbrev pub same_unary : UnaryOp → UnaryOp → Bool
same_unary unaries.Inc unaries.Inc = true
same_unary unaries.Dec unaries.Dec = true
same_unary unaries.Not unaries.Not = true
same_unary unaries.Neg unaries.Neg = true
same_unary _ _ = false

abbrev pub same_wide : WideOp → WideOp → Bool
same_wide wides.Mul wides.Mul = true
same_wide wides.Imul wides.Imul = true
same_wide wides.Div wides.Div = true
same_wide wides.Idiv wides.Idiv = true
same_wide _ _ = false

abbrev pub same_shift : ShiftOp → ShiftOp → Bool
same_shift shifts.Rol shifts.Rol = true
same_shift shifts.Ror shifts.Ror = true
same_shift shifts.Shl shifts.Shl = true
same_shift shifts.Shr shifts.Shr = true
same_shift shifts.Sar shifts.Sar = true
same_shift shifts.Rcl shifts.Rcl = true
same_shift shifts.Rcr shifts.Rcr = true
same_shift _ _ = false

abbrev pub same_bit : BitOp → BitOp → Bool
same_bit bits.Test bits.Test = true
same_bit bits.Set bits.Set = true
same_bit bits.Reset bits.Reset = true
same_bit bits.Complement bits.Complement = true
same_bit _ _ = false

abbrev pub same_scan : ScanOp → ScanOp → Bool
same_scan scans.Bsf scans.Bsf = true
same_scan scans.Bsr scans.Bsr = true
same_scan scans.Tzcnt scans.Tzcnt = true
same_scan scans.Lzcnt scans.Lzcnt = true
same_scan scans.Popcnt scans.Popcnt = true
same_scan _ _ = false

abbrev pub same_change : FlagOp → FlagOp → Bool
same_change changes.Clc changes.Clc = true
same_change changes.Stc changes.Stc = true
same_change changes.Cmc changes.Cmc = true
same_change changes.Cld changes.Cld = true
same_change changes.Std changes.Std = true
same_change _ _ = false

-- ---- by the operation

abbrev pub repeat_byte : Rep → ℕ
repeat_byte reps.No = 0
repeat_byte reps.WhileEqual = 0xf3
repeat_byte reps.WhileNot = 0xf2

abbrev pub rep_byte : Bool → ℕ
rep_byte rep = if rep then 0xf3 else 0

abbrev pub found_in : Op → Insn → Fields → Option Fields
found_in (ops.Arith o d s) (insns.Arith p w dst src) f = if same_arith o p then option_and_then (with_operand s src) (with_place d dst (record f { w = w })) else None
found_in (ops.Test d s) (insns.Test w dst src) f = option_and_then (with_operand s src) (with_place d dst (record f { w = w }))
found_in (ops.Mov d s) (insns.Mov w dst src) f = option_and_then (with_operand s src) (with_place d dst (record f { w = w }))
found_in (ops.Lea d s) (insns.Lea w dst src) f = option_and_then (with_place s src) (with_number d dst (record f { w = w }))
found_in (ops.Extend o d s) (insns.Extend p to from dst src) f =
    if same_truth o p && same_width from (letter_width s to) then option_and_then (with_place s src) (with_number d dst (record f { w = to })) else None
found_in (ops.Push s) (insns.Push src) f = with_operand s src f
found_in (ops.Pop d) (insns.Pop dst) f = with_place d dst f
found_in ops.Leave insns.Leave f = Some f
found_in ops.PushFlags insns.PushFlags f = Some f
found_in ops.PopFlags insns.PopFlags f = Some f
found_in (ops.Unary o d) (insns.Unary p w dst) f = if same_unary o p then with_place d dst (record f { w = w }) else None
found_in (ops.Wide o s) (insns.Wide p w src) f = if same_wide o p then with_place s src (record f { w = w }) else None
found_in (ops.Imul2 d s) (insns.Imul2 w dst src) f = option_and_then (with_place s src) (with_number d dst (record f { w = w }))
found_in (ops.Imul3 d s i) (insns.Imul3 w dst src imm) f = option_and_then (with_place s src) (with_number d dst (record f { w = w; imm = imm }))
found_in (ops.Shift o d c) (insns.Shift p w dst count) f = if same_shift o p then option_and_then (with_count c count) (with_place d dst (record f { w = w })) else None
found_in (ops.DoubleShift o d s c) (insns.DoubleShift p w dst src count) f =
    if same_truth o p then option_and_then (with_count c count) (option_and_then (with_number s src) (with_place d dst (record f { w = w }))) else None
found_in (ops.Cmov d s) (insns.Cmov c w dst src) f = option_and_then (with_place s src) (with_number d dst (record f { w = w; cond = number_of_cond c }))
found_in (ops.Set d) (insns.Set c dst) f = with_place d dst (record f { cond = number_of_cond c })
found_in ops.Jcc (insns.Jcc c target) f = Some (record f { cond = number_of_cond c; imm = target })
found_in ops.Jrcxz (insns.Jrcxz target) f = Some (record f { imm = target })
found_in ops.Jmp (insns.Jmp target) f = Some (record f { imm = target })
found_in ops.Call (insns.Call target) f = Some (record f { imm = target })
found_in (ops.CallInd s) (insns.CallInd src) f = with_place s src f
found_in (ops.JmpInd s) (insns.JmpInd src) f = with_place s src f
found_in ops.Ret (insns.Ret pop) f = Some (record f { imm = pop })
found_in ops.Convert (insns.Convert w) f = Some (record f { w = w })
found_in ops.SignFill (insns.SignFill w) f = Some (record f { w = w })
found_in (ops.Xchg d s) (insns.Xchg w dst src) f = option_and_then (with_reg s src) (with_place d dst (record f { w = w }))
found_in (ops.CmpXchg d s) (insns.CmpXchg w dst src) f = option_and_then (with_reg s src) (with_place d dst (record f { w = w }))
found_in (ops.Xadd d s) (insns.Xadd w dst src) f = option_and_then (with_reg s src) (with_place d dst (record f { w = w }))
found_in ops.Nop insns.Nop f = Some f
found_in (ops.Bswap d) (insns.Bswap w reg) f = with_number d reg (record f { w = w })
found_in (ops.BitTest o d i) (insns.BitTest p w dst index) f = if same_bit o p then option_and_then (with_index i index) (with_place d dst (record f { w = w })) else None
found_in (ops.Scan o d s) (insns.Scan p w dst src) f = if same_scan o p then option_and_then (with_place s src) (with_number d dst (record f { w = w })) else None
found_in ops.Movs (insns.Movs w rep) f = Some (record f { w = w; rep = rep_byte rep })
found_in ops.Stos (insns.Stos w rep) f = Some (record f { w = w; rep = rep_byte rep })
found_in ops.Cmps (insns.Cmps w rep) f = Some (record f { w = w; rep = repeat_byte rep })
found_in ops.Scas (insns.Scas w rep) f = Some (record f { w = w; rep = repeat_byte rep })
found_in (ops.Flag o) (insns.Flag p) f = if same_change o p then Some f else None
found_in ops.Syscall insns.Syscall f = Some f
found_in ops.Ud2 insns.Ud2 f = Some f
found_in ops.Hlt insns.Hlt f = Some f
found_in ops.Int3 insns.Int3 f = Some f
found_in _ _ f = None

abbrev pub if_can : Row → Fields → Option Fields
if_can row f = if can_have row f then Some f else None

-- fields that the row can have and that build the instruction
abbrev pub found : Row → Insn → Option Fields
found row x = option_and_then (if_can row) (found_in row.op x (least row))
