-- Rotates, shifts and double shifts (Intel SDM, volume 2, "RCL/RCR/ROL/ROR", "SAL/SAR/SHL/SHR", "SHLD", "SHRD").
-- A shift by a masked count of 0 writes its destination with the same value, which is razor's own.
use Rattle.std.specs.Prelude.{ℕ, Bool, true, List, get_or}
use Rattle.rz_num.specs.declared.width.Width.{Width}
use Rattle.rz_num.specs.declared.width.Width.TheVariants.{W8}
use Rattle.rz_flags.specs.declared.Flags.{Flags}
use Rattle.rz_flags.specs.declared.ShiftOp.{ShiftOp}
use Rattle.rz_alu.specs.Shifts.{shift, double_shift}
use Rattle.rz_isa.specs.declared.instruction.Place.{Place}
use Rattle.rz_isa.specs.declared.instruction.Count.{Count}
use Rattle.rz_isa.specs.declared.instruction.Count.TheVariants as counts
use Rattle.rz_exec.specs.Form.{Effect}
use Rattle.rz_exec.specs.Registers.{get_reg}
use Rattle.rz_exec.specs.Operands.{word_of, value_of, on_word}
use Rattle.rz_exec.specs.Arithmetic.{new_answer}

-- register 1 is RCX
abbrev pub count_in : List ℕ → Count → ℕ
count_in regs (counts.Imm n) = n
count_in regs counts.Cl = get_reg W8 regs 1

abbrev pub shift_effect : ShiftOp → Width → Place → Count → List ℕ → Flags → Effect
shift_effect op w dst count regs flags =
    on_word (word_of w regs dst) (λ a. new_answer true w dst regs (shift op w (value_of w regs dst a) (count_in regs count) flags))

abbrev pub double_effect : Bool → Width → Place → ℕ → Count → List ℕ → Flags → Effect
double_effect left w dst src count regs flags =
    on_word (word_of w regs dst) (λ a. new_answer true w dst regs (double_shift left w (value_of w regs dst a) (get_or regs src 0) (count_in regs count) flags))
