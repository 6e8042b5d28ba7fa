-- Words of which each byte is a number's at its place.
use Rattle.std.proofs.Common.{◌≡◌, ℕ, zero, suc, ◌^◌, ◌+◌, ◌<◌, ◌≤◌, ◌&&◌, ◌==◌, not, Bool, true, false, List, [], ◌∷◌, length, get_or, drop, nat_lt, None, Ok, refl, zero-add, length-drop, get_or-drop, arith}
use Rattle.std.specs.Str.Parse.{AllDigits, without_leading_plus}
use Rattle.std.specs.Str.{IsAscii}
use Rattle.std.specs.Char.{digit_value}
use Rattle.std.specs.List.{enumerate_from}
use Rattle.std.proofs.lemmas.List.FromFn.{length-enumerate_from, get_or-enumerate_from}
use Rattle.std.proofs.lemmas.Str.Ascii.{IsAscii-nil, IsAscii-cons}
use Rattle.std.proofs.lemmas.Str.Parse.{without_leading_plus_none}
use borrow.Author.Tests.{ltb-true}
use Rattle.std.specs.Fmt.{digits}
use Rattle.std.proofs.lemmas.Fmt.{decimal_is_IsNumeral, length-decimal-le}
use Rattle.std.proofs.lemmas.Bool.{and_parts, lt-ltb}
use Rattle.rz_text.specs.Number.{decimal_has, hexadecimal_has, decimal, wrong_place}
use Rattle.rz_text.specs.Laws.Places.{position-absent, position-none}

not_false : (b : Bool) → not b ≡ false → b ≡ true
not_false true h = refl
not_false false h = cc

-- where no place is wrong, each byte is a number's at its place
has-each : (has : ℕ → ℕ → Bool) (word : List ℕ) → wrong_place has word ≡ None → (k : ℕ) → k < length word → has k (get_or word k 0) ≡ true
has-each has word h k below =
    let len = length-enumerate_from 0 word in
    let at = get_or-enumerate_from 0 word k (0, 0) below in
    let none = position-none (λ (x : ℕ × ℕ). not (has x.0 x.1)) (enumerate_from 0 word) (0, 0) h k (omega (arith, len)) in
    let start = zero-add k in
    not_false (has k (get_or word k 0)) (rw (at, start) at none)

-- digits by their places
AllDigits-each : (radix : ℕ) (digits : List ℕ) → ((k : ℕ) → k < length digits → digit_value (get_or digits k 0) < radix) → AllDigits radix digits
AllDigits-each radix [] each = tt
AllDigits-each radix (c ∷ cs) each = (each 0 (omega arith), AllDigits-each radix cs (λ k below. each (suc k) (omega arith)))

pub decimal_digits : (word : List ℕ) → wrong_place decimal_has word ≡ None → AllDigits 10 word
decimal_digits word h = AllDigits-each 10 word (λ k below. let has = has-each decimal_has word h k below in grind (arith, has))

-- behind `0x` a hexadecimal number has digits
digit_behind : (place byte : ℕ) → 2 ≤ place → hexadecimal_has place byte ≡ true → digit_value byte < 16
digit_behind place byte behind h =
    let zeroth : (place == 0) ≡ false = grind arith in
    let first : (place == 1) ≡ false = grind arith in
    let both : (nat_lt place 18 && nat_lt (digit_value byte) 16) ≡ true = rw (zeroth, first) at h in
    ltb-true (digit_value byte) 16 (and_parts (nat_lt place 18) (nat_lt (digit_value byte) 16) both).1

pub hexadecimal_digits : (word : List ℕ) → wrong_place hexadecimal_has word ≡ None → AllDigits 16 (drop 2 word)
hexadecimal_digits word h = AllDigits-each 16 (drop 2 word) (λ k below.
    let len = length-drop 2 word in
    let at = get_or-drop 2 word k 0 in
    let has = has-each hexadecimal_has word h (2 + k) (omega (arith, len)) in
    rw at (digit_behind (2 + k) (get_or word (2 + k) 0) (omega arith) has))

-- digits are characters, and none is a sign
pub IsAscii-digits : (radix : ℕ) (digits : List ℕ) → radix ≤ 36 → AllDigits radix digits → IsAscii digits
IsAscii-digits radix [] h all = IsAscii-nil
IsAscii-digits radix (c ∷ cs) h all = IsAscii-cons c cs (let first = all.0 in grind arith) (IsAscii-digits radix cs h all.1)

pub without_leading_plus-digits : (radix : ℕ) (digits : List ℕ) → radix ≤ 36 → AllDigits radix digits → without_leading_plus digits ≡ digits
without_leading_plus-digits radix [] h all = refl
without_leading_plus-digits radix (c ∷ cs) h all = without_leading_plus_none (c ∷ cs) (λ plus. let first = all.0 in grind arith)

-- ---- printed numbers

each_digit : (radix : ℕ) (digits : List ℕ) → AllDigits radix digits → (k : ℕ) → k < length digits → digit_value (get_or digits k 0) < radix
each_digit radix [] all k below = absurd (omega arith)
each_digit radix (c ∷ cs) all zero below = all.0
each_digit radix (c ∷ cs) all (suc k) below = each_digit radix cs all.1 k (omega arith)

decimal_has-digit : (k c : ℕ) → k < 20 → digit_value c < 10 → not (decimal_has k c) ≡ false
decimal_has-digit k c place digit =
    let first : nat_lt k 20 ≡ true = grind arith in
    let second : nat_lt (digit_value c) 10 ≡ true = lt-ltb (digit_value c) 10 digit in
    rw (first, second) refl

-- a printed number is read as itself
pub decimal-printed : (n : ℕ) → n < 2 ^ 64 → decimal (digits 10 false n) ≡ Ok n
unfolding decimal
decimal-printed n fits =
    let word = digits 10 false n in
    let numeral = decimal_is_IsNumeral n fits in
    let short = length-decimal-le 20 n (omega arith) (omega arith) fits in
    let len = length-enumerate_from 0 word in
    let right : wrong_place decimal_has word ≡ None = position-absent (λ (x : ℕ × ℕ). not (decimal_has x.0 x.1)) (enumerate_from 0 word) (0, 0)
    (λ k below.
    let inside : k < length word = omega (arith, len) in
    let at = get_or-enumerate_from 0 word k (0, 0) inside in
    let start = zero-add k in
    rw (at, start) (decimal_has-digit k (get_or word k 0) (omega (arith, short, inside)) (each_digit 10 word numeral.0.1 k inside))) in
    let some : nat_lt 0 (length word) ≡ true = lt-ltb 0 (length word) numeral.0.0 in
    let small : nat_lt n (2 ^ 64) ≡ true = lt-ltb n (2 ^ 64) fits in
    rw (right, numeral.1, some, small) refl
