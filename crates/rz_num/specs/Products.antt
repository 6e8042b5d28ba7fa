-- Products of two widths, and quotients of a number of two widths (Intel SDM, volume 2, "MUL", "IMUL", "DIV", "IDIV").
-- All operands are below the size of their width.
use Rattle.std.specs.Prelude.{ℕ, ◌+◌, ◌*◌, ◌/◌, ◌%◌, Bool, true, false, not, ◌||◌, ◌==◌, nat_le, if◌then◌else◌, Option, Some, None}
use Rattle.rz_num.specs.declared.width.Width.{Width}
use Rattle.rz_num.specs.Width.{size, half}
use Rattle.rz_num.specs.Signs.{is_negative, differ, magnitude, fits_signed, signed_number}

-- the worth of the sign bit of a number of two widths
abbrev pub pair_half : Width → ℕ
pair_half w = size w * half w

-- the number of two widths with this high and low half
abbrev pub pair : Width → ℕ → ℕ → ℕ
pair w high low = high * size w + low

abbrev pub signed_product : Width → ℕ → ℕ → ℕ
signed_product w a b =
    signed_number (pair_half w) (differ (is_negative (half w) a) (is_negative (half w) b)) (magnitude (half w) a * magnitude (half w) b)

-- the product, as a number of two widths
abbrev pub product : Width → Bool → ℕ → ℕ → ℕ
product w true a b = signed_product w a b
product w false a b = a * b

-- the quotient and the remainder of a number of two widths; none where the divisor is 0 or the quotient doesn't fit
abbrev pub unsigned_division : Width → ℕ → ℕ → Option (ℕ × ℕ)
unsigned_division w n by = if by == 0 || nat_le (size w) (n / by) then None else Some (n / by, n % by)

-- the quotient is rounded toward zero, and the remainder has the dividend's sign
abbrev pub signed_division : Width → ℕ → ℕ → Option (ℕ × ℕ)
signed_division w n by =
    let negative = is_negative (pair_half w) n in
    let opposite = differ negative (is_negative (half w) by) in
    let whole = magnitude (pair_half w) n / magnitude (half w) by in
    let rest = magnitude (pair_half w) n % magnitude (half w) by in
    if by == 0 || not (fits_signed (half w) opposite whole) then None
    else Some (signed_number (half w) opposite whole, signed_number (half w) negative rest)

abbrev pub division : Width → Bool → ℕ → ℕ → Option (ℕ × ℕ)
division w true n by = signed_division w n by
division w false n by = unsigned_division w n by
