-- Sums and differences at a width with a carry or borrow in and out, of numbers below the width's size
-- (Intel SDM, volume 2, "ADC" and "SBB"; volume 1, section 3.4.3.1, "Status Flags").
use Rattle.std.specs.Prelude.{ℕ, ◌+◌, ◌-◌, ◌%◌, Bool, true, false, nat_lt, nat_le}
use Rattle.rz_num.specs.declared.width.Width.{Width}
use Rattle.rz_num.specs.Width.{size}

abbrev pub bit : Bool → ℕ
bit true = 1
bit false = 0

abbrev pub sum_at : Width → ℕ → ℕ → Bool → ℕ
sum_at w a b carry = (a + b + bit carry) % size w

-- the carry out
abbrev pub sum_carries : Width → ℕ → ℕ → Bool → Bool
sum_carries w a b carry = nat_le (size w) (a + b + bit carry)

abbrev pub difference_at : Width → ℕ → ℕ → Bool → ℕ
difference_at w a b borrow = (a + (size w - b - bit borrow)) % size w

-- the borrow out
abbrev pub difference_borrows : ℕ → ℕ → Bool → Bool
difference_borrows a b borrow = nat_lt a (b + bit borrow)
