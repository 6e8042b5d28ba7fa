-- The flags after a product (Intel SDM, volume 2, "MUL", "IMUL").
use Rattle.std.specs.Prelude.{ℕ, ◌-◌, ◌*◌, ◌/◌, ◌%◌, Bool, true, false, not, ◌==◌, nat_lt, if◌then◌else◌}
use Rattle.rz_num.specs.declared.width.Width.{Width}
use Rattle.rz_num.specs.Width.{size, half}
use Rattle.rz_num.specs.Signs.{is_negative, differ, magnitude, fits_signed}
use Rattle.rz_flags.specs.declared.Flags.{Flags}
use Rattle.rz_alu.specs.Status.{with_carry_overflow, top_bit}

-- the high half of a number of two widths that extends its low half, by zeros or by its sign
abbrev pub extension : Width → Bool → ℕ → ℕ
extension w true low = if top_bit w low then size w - 1 else 0
extension w false low = 0

-- CF and OF are set where the high half says more than the low; the others are left, which is razor's own
abbrev pub product_flags : Width → Bool → ℕ → Flags → Flags
product_flags w signed p old =
    let more = not (p / size w == extension w signed (p % size w)) in
    with_carry_overflow more more old

-- whether the product of two numbers below the size of the width fits it
abbrev pub product_fits : Width → Bool → ℕ → ℕ → Bool
product_fits w true a b =
    fits_signed (half w) (differ (is_negative (half w) a) (is_negative (half w) b)) (magnitude (half w) a * magnitude (half w) b)
product_fits w false a b = nat_lt (a * b) (size w)
