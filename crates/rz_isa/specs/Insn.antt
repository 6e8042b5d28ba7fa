use Rattle.std.specs.Prelude.{ℕ, Option, Some, None}
use Rattle.rz_isa.specs.declared.instruction.Insn.{Insn}
use Rattle.rz_isa.specs.declared.instruction.Insn.TheVariants as insns
use Rattle.rz_isa.specs.declared.instruction.Kind.{Kind}
use Rattle.rz_isa.specs.declared.instruction.Kind.TheVariants as kinds
use Rattle.rz_isa.specs.declared.instruction.Place.{Place}
use Rattle.rz_isa.specs.declared.instruction.Place.TheVariants as places
use Rattle.rz_isa.specs.declared.instruction.Operand.{Operand}
use Rattle.rz_isa.specs.declared.instruction.Operand.TheVariants as operands

-- how an instruction leaves
abbrev pub kind_of : Insn → Kind
kind_of (insns.Jcc c t) = kinds.Jcc
kind_of (insns.Jrcxz t) = kinds.Jrcxz
kind_of (insns.Jmp t) = kinds.Jmp
kind_of (insns.Call t) = kinds.Call
kind_of (insns.CallInd s) = kinds.CallInd
kind_of (insns.JmpInd s) = kinds.JmpInd
kind_of (insns.Ret n) = kinds.Ret
kind_of insns.Syscall = kinds.Syscall
kind_of insns.Ud2 = kinds.Halt
kind_of insns.Hlt = kinds.Halt
kind_of insns.Int3 = kinds.Halt
kind_of _ = kinds.Plain

-- the address of a direct transfer
abbrev pub target_of : Insn → Option ℕ
target_of (insns.Jcc c t) = Some t
target_of (insns.Jrcxz t) = Some t
target_of (insns.Jmp t) = Some t
target_of (insns.Call t) = Some t
target_of _ = None

-- the address that is named relative to RIP
abbrev pub rip_of : Place → Option ℕ
rip_of (places.At a) = Some a
rip_of _ = None

abbrev pub rip_of_operand : Operand → Option ℕ
rip_of_operand (operands.Place p) = rip_of p
rip_of_operand _ = None

abbrev pub first_some : Option ℕ → Option ℕ → Option ℕ
first_some (Some a) other = Some a
first_some None other = other

-- no row spells an instruction with two such operands
abbrev pub rip_target_of : Insn → Option ℕ
rip_target_of (insns.Arith o w d s) = first_some (rip_of d) (rip_of_operand s)
rip_target_of (insns.Test w d s) = first_some (rip_of d) (rip_of_operand s)
rip_target_of (insns.Mov w d s) = first_some (rip_of d) (rip_of_operand s)
rip_target_of (insns.Push s) = rip_of_operand s
rip_target_of (insns.Lea w d s) = rip_of s
rip_target_of (insns.Extend e t f d s) = rip_of s
rip_target_of (insns.Pop d) = rip_of d
rip_target_of (insns.Unary o w d) = rip_of d
rip_target_of (insns.Wide o w s) = rip_of s
rip_target_of (insns.Imul2 w d s) = rip_of s
rip_target_of (insns.Imul3 w d s i) = rip_of s
rip_target_of (insns.Shift o w d c) = rip_of d
rip_target_of (insns.DoubleShift l w d s c) = rip_of d
rip_target_of (insns.Cmov c w d s) = rip_of s
rip_target_of (insns.Set c d) = rip_of d
rip_target_of (insns.CallInd s) = rip_of s
rip_target_of (insns.JmpInd s) = rip_of s
rip_target_of (insns.Xchg w d s) = rip_of d
rip_target_of (insns.CmpXchg w d s) = rip_of d
rip_target_of (insns.Xadd w d s) = rip_of d
rip_target_of (insns.BitTest o w d i) = rip_of d
rip_target_of (insns.Scan o w d s) = rip_of s
rip_target_of _ = None
