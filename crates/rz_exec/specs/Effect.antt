-- What each plain instruction does, and that an instruction's register numbers name registers.
use Rattle.std.specs.Prelude.{ℕ, Bool, true, ◌&&◌, nat_lt, IsTrue, List, Option, Some, None}
use Rattle.rz_flags.specs.declared.Flags.{Flags}
use Rattle.rz_isa.specs.declared.instruction.Reg.{Reg}
use Rattle.rz_isa.specs.declared.instruction.Reg.TheVariants.{R, High}
use Rattle.rz_isa.specs.declared.instruction.Mem.{Mem}
use Rattle.rz_isa.specs.declared.instruction.Place.{Place}
use Rattle.rz_isa.specs.declared.instruction.Place.TheVariants as places
use Rattle.rz_isa.specs.declared.instruction.Operand.{Operand}
use Rattle.rz_isa.specs.declared.instruction.Operand.TheVariants as operands
use Rattle.rz_isa.specs.declared.instruction.BitIndex.{BitIndex}
use Rattle.rz_isa.specs.declared.instruction.BitIndex.TheVariants as indexes
use Rattle.rz_isa.specs.declared.instruction.Insn.{Insn}
use Rattle.rz_isa.specs.declared.instruction.Insn.TheVariants as insns
use Rattle.rz_exec.specs.Form.{PlainEffect, Once}
use Rattle.rz_exec.specs.Operands.{to_regs}
use Rattle.rz_exec.specs.Moves.{mov_effect, lea_effect, extend_effect, convert_effect, sign_fill_effect}
use Rattle.rz_exec.specs.Arithmetic.{arith_effect, test_effect, unary_effect}
use Rattle.rz_exec.specs.Stack.{push_effect, pop_effect, leave_effect, push_flags_effect, pop_flags_effect}
use Rattle.rz_exec.specs.Products.{wide_effect, imul2_effect, imul3_effect}
use Rattle.rz_exec.specs.Shifts.{shift_effect, double_effect}
use Rattle.rz_exec.specs.Conditions.{cmov_effect, set_effect}
use Rattle.rz_exec.specs.Exchanges.{xchg_effect, cmpxchg_effect, xadd_effect, bswap_effect}
use Rattle.rz_exec.specs.Bits.{bit_test_effect, scan_effect}
use Rattle.rz_exec.specs.Strings.{movs_effect, stos_effect, elements}
use Rattle.rz_exec.specs.Comparisons.{cmps_effect, scas_effect, comparisons}
use Rattle.rz_exec.specs.FlagChanges.{flag_effect}

-- what a plain instruction does from registers and flags. It sees no RIP, so that one that moves keeps its effect:
-- `At` holds an absolute address. All others change nothing
unfoldable pub plain_effect : Insn → List ℕ → Flags → PlainEffect
plain_effect (insns.Arith op w dst src) regs flags = Once (arith_effect op w dst src regs flags)
plain_effect (insns.Test w dst src) regs flags = Once (test_effect w dst src regs flags)
plain_effect (insns.Mov w dst src) regs flags = Once (mov_effect w dst src regs flags)
plain_effect (insns.Lea w dst src) regs flags = Once (lea_effect w dst src regs flags)
plain_effect (insns.Extend signed to from dst src) regs flags = Once (extend_effect signed to from dst src regs flags)
plain_effect (insns.Push src) regs flags = Once (push_effect src regs flags)
plain_effect (insns.Pop dst) regs flags = Once (pop_effect dst regs flags)
plain_effect insns.Leave regs flags = Once (leave_effect regs flags)
plain_effect insns.PushFlags regs flags = Once (push_flags_effect regs flags)
plain_effect insns.PopFlags regs flags = Once (pop_flags_effect regs flags)
plain_effect (insns.Unary op w dst) regs flags = Once (unary_effect op w dst regs flags)
plain_effect (insns.Wide op w src) regs flags = Once (wide_effect op w src regs flags)
plain_effect (insns.Imul2 w dst src) regs flags = Once (imul2_effect w dst src regs flags)
plain_effect (insns.Imul3 w dst src imm) regs flags = Once (imul3_effect w dst src imm regs flags)
plain_effect (insns.Shift op w dst count) regs flags = Once (shift_effect op w dst count regs flags)
plain_effect (insns.DoubleShift left w dst src count) regs flags = Once (double_effect left w dst src count regs flags)
plain_effect (insns.Cmov cond w dst src) regs flags = Once (cmov_effect cond w dst src regs flags)
plain_effect (insns.Set cond dst) regs flags = Once (set_effect cond dst regs flags)
plain_effect (insns.Convert w) regs flags = Once (convert_effect w regs flags)
plain_effect (insns.SignFill w) regs flags = Once (sign_fill_effect w regs flags)
plain_effect (insns.Xchg w dst src) regs flags = Once (xchg_effect w dst src regs flags)
plain_effect (insns.CmpXchg w dst src) regs flags = Once (cmpxchg_effect w dst src regs flags)
plain_effect (insns.Xadd w dst src) regs flags = Once (xadd_effect w dst src regs flags)
plain_effect (insns.Bswap w reg) regs flags = Once (bswap_effect w reg regs flags)
plain_effect (insns.BitTest op w dst index) regs flags = Once (bit_test_effect op w dst index regs flags)
plain_effect (insns.Scan op w dst src) regs flags = Once (scan_effect op w dst src regs flags)
plain_effect (insns.Movs w rep) regs flags = elements (movs_effect w) rep regs flags
plain_effect (insns.Stos w rep) regs flags = elements (stos_effect w) rep regs flags
plain_effect (insns.Cmps w rep) regs flags = comparisons (cmps_effect w) rep regs flags
plain_effect (insns.Scas w rep) regs flags = comparisons (scas_effect w) rep regs flags
plain_effect (insns.Flag op) regs flags = Once (flag_effect op regs flags)
plain_effect x regs flags = Once (to_regs regs flags)

-- ---- names of registers (volume 1, section 3.4.1)

abbrev pub is_reg : ℕ → Bool
is_reg n = nat_lt n 16

-- the second bytes are AH, CH, DH and BH
abbrev pub is_named_reg : Reg → Bool
is_named_reg (R n) = is_reg n
is_named_reg (High n) = nat_lt n 4

abbrev pub is_reg_or_none : Option ℕ → Bool
is_reg_or_none None = true
is_reg_or_none (Some n) = is_reg n

abbrev pub is_named_mem : Mem → Bool
is_named_mem m = is_reg_or_none m.base && is_reg_or_none m.index

abbrev pub is_named_place : Place → Bool
is_named_place (places.Reg r) = is_named_reg r
is_named_place (places.Mem m) = is_named_mem m
is_named_place (places.At a) = true

abbrev pub is_named_operand : Operand → Bool
is_named_operand (operands.Place p) = is_named_place p
is_named_operand (operands.Imm i) = true

abbrev pub is_named_index : BitIndex → Bool
is_named_index (indexes.Reg n) = is_reg n
is_named_index (indexes.Imm n) = true

-- each register number of an instruction is below 16, and that of each second byte below 4
abbrev pub is_named : Insn → Bool
is_named (insns.Arith op w dst src) = is_named_place dst && is_named_operand src
is_named (insns.Test w dst src) = is_named_place dst && is_named_operand src
is_named (insns.Mov w dst src) = is_named_place dst && is_named_operand src
is_named (insns.Lea w dst src) = is_reg dst && is_named_place src
is_named (insns.Extend signed to from dst src) = is_reg dst && is_named_place src
is_named (insns.Push src) = is_named_operand src
is_named (insns.Pop dst) = is_named_place dst
is_named (insns.Unary op w dst) = is_named_place dst
is_named (insns.Wide op w src) = is_named_place src
is_named (insns.Imul2 w dst src) = is_reg dst && is_named_place src
is_named (insns.Imul3 w dst src imm) = is_reg dst && is_named_place src
is_named (insns.Shift op w dst count) = is_named_place dst
is_named (insns.DoubleShift left w dst src count) = is_named_place dst && is_reg src
is_named (insns.Cmov cond w dst src) = is_reg dst && is_named_place src
is_named (insns.Set cond dst) = is_named_place dst
is_named (insns.CallInd src) = is_named_place src
is_named (insns.JmpInd src) = is_named_place src
is_named (insns.Xchg w dst src) = is_named_place dst && is_named_reg src
is_named (insns.CmpXchg w dst src) = is_named_place dst && is_named_reg src
is_named (insns.Xadd w dst src) = is_named_place dst && is_named_reg src
is_named (insns.Bswap w reg) = is_reg reg
is_named (insns.BitTest op w dst index) = is_named_place dst && is_named_index index
is_named (insns.Scan op w dst src) = is_reg dst && is_named_place src
is_named x = true

abbrev pub IsNamed : Insn → Type 0
IsNamed x = IsTrue (is_named x)
