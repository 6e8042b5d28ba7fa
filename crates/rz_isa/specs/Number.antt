use Rattle.std.specs.Prelude.{ℕ, ℤ, pos, ◌+◌, ◌*◌, ◌-◌, ◌%◌, ◌^◌, ◌-ℤ◌, Bool, nat_lt, List, [], ◌∷◌, if◌then◌else◌}
use Rattle.rz_num.specs.declared.width.Width.{Width}
use Rattle.rz_num.specs.Width.{low_bits}

-- Numbers in the bytes of an instruction (Intel SDM, volume 2, sections 2.1.4 and 2.2.1.3 to 2.2.1.6).

-- the number of little-endian bytes
abbrev pub number : List ℕ → ℕ
number [] = 0
number (b ∷ bs) = b + 256 * number bs

-- how many numbers so many bytes have
abbrev pub numbers : List ℕ → ℕ
numbers [] = 1
numbers (b ∷ bs) = 256 * numbers bs

-- the top bit is clear
abbrev pub is_positive : List ℕ → Bool
is_positive bs = nat_lt (2 * number bs) (numbers bs)

-- read as a signed number
abbrev pub signed : List ℕ → ℤ
signed bs = if is_positive bs then pos (number bs) else pos (number bs) -ℤ pos (numbers bs)

-- sign-extended to 64 bits
abbrev pub extended : List ℕ → ℕ
extended bs = if is_positive bs then number bs else number bs + (2 ^ 64 - numbers bs)

-- sign-extended and cut to the width
abbrev pub extended_to : Width → List ℕ → ℕ
extended_to w bs = low_bits w (extended bs)

-- an address and a displacement from it
abbrev pub displaced_by : ℕ → List ℕ → ℕ
displaced_by at bs = (at + extended bs) % 2 ^ 64
