-- Signed numbers in two's complement, as a sign and a magnitude (Intel SDM, volume 1, section 4.2.1.2). The number's
-- sign bit is worth half.
use Rattle.std.specs.Prelude.{ℕ, ◌-◌, ◌*◌, ◌%◌, Bool, not, nat_lt, nat_le, if◌then◌else◌}
use Rattle.std.specs.Bool.{beq}

abbrev pub is_negative : ℕ → ℕ → Bool
is_negative half n = nat_le half n

-- whether two signs differ
abbrev pub differ : Bool → Bool → Bool
differ a b = not (beq a b)

abbrev pub magnitude : ℕ → ℕ → ℕ
magnitude half n = if is_negative half n then 2 * half - n else n

-- whether there is a number of this sign and magnitude
abbrev pub fits_signed : ℕ → Bool → ℕ → Bool
fits_signed half negative m = if negative then nat_le m half else nat_lt m half

-- the number of a sign and a magnitude
abbrev pub signed_number : ℕ → Bool → ℕ → ℕ
signed_number half negative m = if negative then (2 * half - m) % (2 * half) else m
