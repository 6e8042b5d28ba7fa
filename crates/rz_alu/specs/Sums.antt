-- Signed overflow of sums and differences at a width, and their carry out of bit 3, of numbers below the width's size
-- (Intel SDM, volume 2, "ADC" and "SBB"; volume 1, section 3.4.3.1, "Status Flags").
use Rattle.std.specs.Prelude.{ℕ, ◌+◌, ◌-◌, ◌*◌, ◌%◌, Bool, ◌||◌, if◌then◌else◌, nat_lt, nat_le}
use Rattle.rz_num.specs.declared.width.Width.{Width}
use Rattle.rz_num.specs.Width.{half}
use Rattle.rz_num.specs.Carry.{bit}

-- a number read in two's complement, plus half, so that it is a natural number
abbrev pub above_least : Width → ℕ → ℕ
above_least w a = if nat_lt a (half w) then a + half w else a - half w

-- the sum of the signed numbers is below the least or above the greatest
abbrev pub sum_overflows : Width → ℕ → ℕ → Bool → Bool
sum_overflows w a b carry =
    nat_lt (above_least w a + above_least w b + bit carry) (half w) || nat_le (3 * half w) (above_least w a + above_least w b + bit carry)

-- the carry out of bit 3
abbrev pub sum_carries_low : ℕ → ℕ → Bool → Bool
sum_carries_low a b carry = nat_le 16 (a % 16 + b % 16 + bit carry)

-- the difference of the signed numbers is below the least or above the greatest
abbrev pub difference_overflows : Width → ℕ → ℕ → Bool → Bool
difference_overflows w a b borrow =
    nat_lt (above_least w a + half w) (above_least w b + bit borrow) || nat_le (above_least w b + bit borrow + half w) (above_least w a)

-- the borrow into bit 3
abbrev pub difference_borrows_low : ℕ → ℕ → Bool → Bool
difference_borrows_low a b borrow = nat_lt (a % 16) (b % 16 + bit borrow)
