-- Strings compared, and their repeats (Intel SDM, volume 1, section 7.3.9, "String Operations"; volume 2, "CMPS/CMPSB/CMPSW/
-- CMPSD/CMPSQ", "SCAS/SCASB/SCASW/SCASD", "REP/REPE/REPZ/REPNE/REPNZ"). A repeat that faults keeps its whole iterations, flags
-- included, which is razor's own.
use Rattle.std.specs.Prelude.{ℕ, Bool, true, false, not, List, get_or, Some, None, Ok}
use Rattle.rz_num.specs.declared.width.Width.{Width}
use Rattle.rz_flags.specs.declared.Flags.{Flags}
use Rattle.rz_flags.specs.declared.ArithOp.TheVariants.{Cmp}
use Rattle.rz_alu.specs.Arith.{arith}
use Rattle.rz_isa.specs.declared.instruction.Rep.{Rep}
use Rattle.rz_isa.specs.declared.instruction.Rep.TheVariants.{No, WhileEqual, WhileNot}
use Rattle.rz_exec.specs.Form.{Effect, Repeat, PlainEffect, Once, Repeats}
use Rattle.rz_exec.specs.Registers.{get_reg}
use Rattle.rz_exec.specs.Operands.{word_at}
use Rattle.rz_exec.specs.Strings.{moved, counted}

-- registers 6 and 7 are RSI and RDI

-- the flags after CMP of two values
abbrev pub compared : Width → ℕ → ℕ → Flags → Flags
compared w a b flags = (arith Cmp w a b flags).flags

-- the element at RSI is compared with that at RDI
abbrev pub cmps_effect : Width → Bool → List ℕ → Flags → Effect
cmps_effect w rep regs flags = record {
  accesses = record { first = word_at w (Some (get_or regs 6 0)); second = word_at w (Some (get_or regs 7 0)); write = None };
  gives = λ a b. Ok (record { regs = counted rep (moved w flags 7 (moved w flags 6 regs)); flags = compared w a b flags; word = 0 });
}

-- the accumulator is compared with the element at RDI
abbrev pub scas_effect : Width → Bool → List ℕ → Flags → Effect
scas_effect w rep regs flags = record {
  accesses = record { first = word_at w (Some (get_or regs 7 0)); second = None; write = None };
  gives = λ a b. Ok (record { regs = counted rep (moved w flags 7 regs); flags = compared w (get_reg w regs 0) a flags; word = 0 });
}

-- whether the flags that an iteration leaves let another follow
abbrev pub goes_on : Rep → Flags → Bool
goes_on No flags = true
goes_on WhileEqual flags = flags.zf
goes_on WhileNot flags = not flags.zf

-- an effect repeated, which ZF ends
abbrev pub while_zero : Rep → (List ℕ → Flags → Effect) → Repeat
while_zero rep each = record { each = each; follows = goes_on rep }

-- one comparison, or as many as RCX and ZF say
abbrev pub comparisons : (Bool → List ℕ → Flags → Effect) → Rep → List ℕ → Flags → PlainEffect
comparisons each No regs flags = Once (each false regs flags)
comparisons each WhileEqual regs flags = Repeats (while_zero WhileEqual (each true))
comparisons each WhileNot regs flags = Repeats (while_zero WhileNot (each true))
