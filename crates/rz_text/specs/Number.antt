-- Numbers in words. 48 is `0`, 120 is `x`.
use Rattle.std.specs.Prelude.{ℕ, ◌^◌, ◌==◌, ◌&&◌, not, nat_lt, Bool, if◌then◌else◌, List, length, drop, position, Option, Some, None, Result, Ok, Err}
use Rattle.std.specs.List.{enumerate_from}
use Rattle.std.specs.Char.{digit_value}
use Rattle.std.specs.Str.Parse.{digits_value}

-- the bytes that a decimal number has at a place: 1 to 20 digits
abbrev pub decimal_has : ℕ → ℕ → Bool
decimal_has place byte = nat_lt place 20 && nat_lt (digit_value byte) 10

-- the bytes that a hexadecimal number has at a place: `0x`, then 1 to 16 digits of either case
abbrev pub hexadecimal_has : ℕ → ℕ → Bool
hexadecimal_has place byte =
    if place == 0 then byte == 48
    else if place == 1 then byte == 120
    else nat_lt place 18 && nat_lt (digit_value byte) 16

-- the place of the first byte that isn't a number's there, or None where each is
abbrev pub wrong_place : (ℕ → ℕ → Bool) → List ℕ → Option ℕ
wrong_place has word = position (λ x. not (has x.0 x.1)) (enumerate_from 0 word)

-- the number that the digits behind the first bytes make, or the length where there are none or it is above 2^64 - 1
abbrev pub value_behind : ℕ → ℕ → List ℕ → Result ℕ ℕ
value_behind first radix word =
    if nat_lt first (length word) && nat_lt (digits_value radix (drop first word)) (2 ^ 64)
    then Ok (digits_value radix (drop first word))
    else Err (length word)

-- a refusal at a place, where there is one
abbrev pub refused_at : Option ℕ → Result ℕ ℕ → Result ℕ ℕ
refused_at (Some place) value = Err place
refused_at None value = value

unfoldable pub decimal : List ℕ → Result ℕ ℕ
decimal word = refused_at (wrong_place decimal_has word) (value_behind 0 10 word)

unfoldable pub hexadecimal : List ℕ → Result ℕ ℕ
hexadecimal word = refused_at (wrong_place hexadecimal_has word) (value_behind 2 16 word)
