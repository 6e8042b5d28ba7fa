use Rattle.std.specs.Prelude.{ℕ}
use Rattle.rz_flags.specs.declared.ArithOp.{ArithOp}
use Rattle.rz_flags.specs.declared.ArithOp.TheVariants as ariths
use Rattle.rz_isa.specs.declared.classes.Class.{Class}
use Rattle.rz_isa.specs.declared.classes.Class.TheVariants as classes
use Rattle.rz_isa.specs.declared.rows.Op.{Op}
use Rattle.rz_isa.specs.declared.rows.Op.TheVariants as ops
use Rattle.rz_isa.specs.declared.instruction.Insn.{Insn}
use Rattle.rz_isa.specs.declared.instruction.Insn.TheVariants as insns

-- The class of an operation, in which rows and instructions agree that can belong together.

abbrev pub arith_class : ArithOp → Class
arith_class ariths.Add = classes.Add
arith_class ariths.Or = classes.Or
arith_class ariths.Adc = classes.Adc
arith_class ariths.Sbb = classes.Sbb
arith_class ariths.And = classes.And
arith_class ariths.Sub = classes.Sub
arith_class ariths.Xor = classes.Xor
arith_class ariths.Cmp = classes.Cmp

abbrev pub op_class : Op → Class
op_class (ops.Arith o d s) = arith_class o
op_class (ops.Test a b) = classes.Test
op_class (ops.Mov a b) = classes.Mov
op_class (ops.Lea a b) = classes.Lea
op_class (ops.Extend a b c) = classes.Extend
op_class (ops.Push a) = classes.Push
op_class (ops.Pop a) = classes.Pop
op_class ops.Leave = classes.Leave
op_class ops.PushFlags = classes.PushFlags
op_class ops.PopFlags = classes.PopFlags
op_class (ops.Unary a b) = classes.Unary
op_class (ops.Wide a b) = classes.Wide
op_class (ops.Imul2 a b) = classes.Imul2
op_class (ops.Imul3 a b c) = classes.Imul3
op_class (ops.Shift a b c) = classes.Shift
op_class (ops.DoubleShift a b c d) = classes.DoubleShift
op_class (ops.Cmov a b) = classes.Cmov
op_class (ops.Set a) = classes.Set
op_class ops.Jcc = classes.Jcc
op_class ops.Jrcxz = classes.Jrcxz
op_class ops.Jmp = classes.Jmp
op_class ops.Call = classes.Call
op_class (ops.CallInd a) = classes.CallInd
op_class (ops.JmpInd a) = classes.JmpInd
op_class ops.Ret = classes.Ret
op_class ops.Convert = classes.Convert
op_class ops.SignFill = classes.SignFill
op_class (ops.Xchg a b) = classes.Xchg
op_class (ops.CmpXchg a b) = classes.CmpXchg
op_class (ops.Xadd a b) = classes.Xadd
op_class ops.Nop = classes.Nop
op_class (ops.Bswap a) = classes.Bswap
op_class (ops.BitTest a b c) = classes.BitTest
op_class (ops.Scan a b c) = classes.Scan
op_class ops.Movs = classes.Movs
op_class ops.Stos = classes.Stos
op_class ops.Cmps = classes.Cmps
op_class ops.Scas = classes.Scas
op_class (ops.Flag a) = classes.Flag
op_class ops.Syscall = classes.Syscall
op_class ops.Ud2 = classes.Ud2
op_class ops.Hlt = classes.Hlt
op_class ops.Int3 = classes.Int3

abbrev pub class_of : Insn → Class
class_of (insns.Arith o w d s) = arith_class o
class_of (insns.Test a b c) = classes.Test
class_of (insns.Mov a b c) = classes.Mov
class_of (insns.Lea a b c) = classes.Lea
class_of (insns.Extend a b c d e) = classes.Extend
class_of (insns.Push a) = classes.Push
class_of (insns.Pop a) = classes.Pop
class_of insns.Leave = classes.Leave
class_of insns.PushFlags = classes.PushFlags
class_of insns.PopFlags = classes.PopFlags
class_of (insns.Unary a b c) = classes.Unary
class_of (insns.Wide a b c) = classes.Wide
class_of (insns.Imul2 a b c) = classes.Imul2
class_of (insns.Imul3 a b c d) = classes.Imul3
class_of (insns.Shift a b c d) = classes.Shift
class_of (insns.DoubleShift a b c d e) = classes.DoubleShift
class_of (insns.Cmov a b c d) = classes.Cmov
class_of (insns.Set a b) = classes.Set
class_of (insns.Jcc a b) = classes.Jcc
class_of (insns.Jrcxz a) = classes.Jrcxz
class_of (insns.Jmp a) = classes.Jmp
class_of (insns.Call a) = classes.Call
class_of (insns.CallInd a) = classes.CallInd
class_of (insns.JmpInd a) = classes.JmpInd
class_of (insns.Ret a) = classes.Ret
class_of (insns.Convert a) = classes.Convert
class_of (insns.SignFill a) = classes.SignFill
class_of (insns.Xchg a b c) = classes.Xchg
class_of (insns.CmpXchg a b c) = classes.CmpXchg
class_of (insns.Xadd a b c) = classes.Xadd
class_of insns.Nop = classes.Nop
class_of (insns.Bswap a b) = classes.Bswap
class_of (insns.BitTest a b c d) = classes.BitTest
class_of (insns.Scan a b c d) = classes.Scan
class_of (insns.Movs a b) = classes.Movs
class_of (insns.Stos a b) = classes.Stos
class_of (insns.Cmps a b) = classes.Cmps
class_of (insns.Scas a b) = classes.Scas
class_of (insns.Flag a) = classes.Flag
class_of insns.Syscall = classes.Syscall
class_of insns.Ud2 = classes.Ud2
class_of insns.Hlt = classes.Hlt
class_of insns.Int3 = classes.Int3

-- the place of a class among all
abbrev pub class_place : Class → ℕ
class_place classes.Add = 0
class_place classes.Or = 1
class_place classes.Adc = 2
class_place classes.Sbb = 3
class_place classes.And = 4
class_place classes.Sub = 5
class_place classes.Xor = 6
class_place classes.Cmp = 7
class_place classes.Test = 8
class_place classes.Mov = 9
class_place classes.Lea = 10
class_place classes.Extend = 11
class_place classes.Push = 12
class_place classes.Pop = 13
class_place classes.Leave = 14
class_place classes.PushFlags = 15
class_place classes.PopFlags = 16
class_place classes.Unary = 17
class_place classes.Wide = 18
class_place classes.Imul2 = 19
class_place classes.Imul3 = 20
class_place classes.Shift = 21
class_place classes.DoubleShift = 22
class_place classes.Cmov = 23
class_place classes.Set = 24
class_place classes.Jcc = 25
class_place classes.Jrcxz = 26
class_place classes.Jmp = 27
class_place classes.Call = 28
class_place classes.CallInd = 29
class_place classes.JmpInd = 30
class_place classes.Ret = 31
class_place classes.Convert = 32
class_place classes.SignFill = 33
class_place classes.Xchg = 34
class_place classes.CmpXchg = 35
class_place classes.Xadd = 36
class_place classes.Nop = 37
class_place classes.Bswap = 38
class_place classes.BitTest = 39
class_place classes.Scan = 40
class_place classes.Movs = 41
class_place classes.Stos = 42
class_place classes.Cmps = 43
class_place classes.Scas = 44
class_place classes.Flag = 45
class_place classes.Syscall = 46
class_place classes.Ud2 = 47
class_place classes.Hlt = 48
class_place classes.Int3 = 49
