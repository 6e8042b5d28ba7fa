-- Operand widths, in bits (Intel SDM volume 1, 4.1), and two's complement (4.2.1.2).
use Rattle.std.specs.Prelude.{ℕ, ◌+◌, ◌-◌, ◌*◌, ◌^◌, ◌%◌, nat_lt, if◌then◌else◌}
use Rattle.rz_num.specs.declared.width.Width.{Width}
use Rattle.rz_num.specs.declared.width.Width.TheVariants.{W8, W16, W32, W64}

-- how many bits the width has
abbrev pub bits : Width → ℕ
bits W8 = 8
bits W16 = 16
bits W32 = 32
bits W64 = 64

-- one above the greatest number of the width
abbrev pub size : Width → ℕ
size W8 = 2 ^ 8
size W16 = 2 ^ 16
size W32 = 2 ^ 32
size W64 = 2 ^ 64

-- the worth of the sign bit
abbrev pub half : Width → ℕ
half W8 = 2 ^ 7
half W16 = 2 ^ 15
half W32 = 2 ^ 31
half W64 = 2 ^ 63

-- a number cut to the width
abbrev pub low_bits : Width → ℕ → ℕ
low_bits w x = x % size w

-- a number whose sign bit is worth half, that bit repeated up to 64 bits
abbrev pub extend : ℕ → ℕ → ℕ
extend half x = if nat_lt x half then x else x + (2 ^ 64 - 2 * half)

-- a number cut to the width and sign extended to 64 bits
abbrev pub sign_extended : Width → ℕ → ℕ
sign_extended w x = extend (half w) (low_bits w x)
