-- Arithmetic and logic with two operands at a width: the value and the flags
-- (Intel SDM, volume 2, "ADD", "OR", "ADC", "SBB", "AND", "SUB", "XOR", "CMP").
use Rattle.std.specs.Prelude.{ℕ, Bool, false, bit_and, bit_or, bit_xor}
use Rattle.rz_num.specs.declared.width.Width.{Width}
use Rattle.rz_num.specs.Width.{low_bits}
use Rattle.rz_num.specs.Carry.{sum_at, sum_carries, difference_at, difference_borrows}
use Rattle.rz_flags.specs.declared.Flags.{Flags}
use Rattle.rz_flags.specs.declared.ArithOp.{ArithOp}
use Rattle.rz_flags.specs.declared.ArithOp.TheVariants.{Add, Or, Adc, Sbb, And, Sub, Xor, Cmp}
use Rattle.rz_alu.specs.Answer.{Answer}
use Rattle.rz_alu.specs.Sums.{sum_overflows, sum_carries_low, difference_overflows, difference_borrows_low}
use Rattle.rz_alu.specs.Status.{flags_of}

abbrev pub addition : Width → ℕ → ℕ → Bool → Flags → Answer
addition w a b carry old =
    let s = sum_at w a b carry in
    record { value = s; flags = flags_of w s (sum_carries w a b carry) (sum_overflows w a b carry) (sum_carries_low a b carry) old }

abbrev pub subtraction : Width → ℕ → ℕ → Bool → Flags → Answer
subtraction w a b borrow old =
    let d = difference_at w a b borrow in
    record { value = d; flags = flags_of w d (difference_borrows a b borrow) (difference_overflows w a b borrow) (difference_borrows_low a b borrow) old }

-- logic clears CF, OF and AF (the value of AF is razor's own: the SDM leaves it open)
abbrev pub logic : Width → ℕ → Flags → Answer
logic w v old = record { value = v; flags = flags_of w v false false false old }

-- of operands below the size of the width; the value of CMP is the difference, which it doesn't write
abbrev pub arith_of : ArithOp → Width → ℕ → ℕ → Flags → Answer
arith_of Add w a b old = addition w a b false old
arith_of Or w a b old = logic w (bit_or a b) old
arith_of Adc w a b old = addition w a b old.cf old
arith_of Sbb w a b old = subtraction w a b old.cf old
arith_of And w a b old = logic w (bit_and a b) old
arith_of Sub w a b old = subtraction w a b false old
arith_of Xor w a b old = logic w (bit_xor a b) old
arith_of Cmp w a b old = subtraction w a b false old

-- of any operands: they are cut to the width
abbrev pub arith : ArithOp → Width → ℕ → ℕ → Flags → Answer
arith op w a b old = arith_of op w (low_bits w a) (low_bits w b) old
