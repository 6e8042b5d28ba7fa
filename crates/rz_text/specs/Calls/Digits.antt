-- Numbers that digits make.
use Rattle.std.specs.Prelude.{ℕ, ◌<◌, ◌^◌, List, length}
use Rattle.std.specs.Str.Parse.{digits_value}

-- there are digits, and their number has 64 bits
abbrev pub HasValue : ℕ → List ℕ → Type 0
HasValue radix digits = (0 < length digits) × (digits_value radix digits < 2 ^ 64)
