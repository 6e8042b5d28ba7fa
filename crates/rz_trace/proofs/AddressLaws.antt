-- Printed addresses are read as themselves.
use Rattle.std.proofs.Common.{◌≡◌, ℕ, zero, suc, ◌/◌, ◌%◌, ◌+◌, ◌^◌, ◌<◌, ◌≤◌, ◌==◌, ◌&&◌, not, true, false, List, [], ◌∷◌, length, get_or, nat_lt, Some, None, Ok, inl, inr, refl, zero-add, arith}
use Rattle.std.specs.Prelude.{slice_index}
use Rattle.std.specs.List.{AllByRecursion, enumerate_from, list_all}
use Rattle.std.specs.Fmt.{digits, digit_glyph, digits_onto}
use Rattle.std.specs.Char.{digit_value}
use Rattle.std.proofs.lemmas.Bool.{cases_lt, lt-ltb}
use Rattle.std.proofs.lemmas.Fmt.{digits_is_IsNumeral}
use Rattle.std.proofs.lemmas.List.FromFn.{length-enumerate_from, get_or-enumerate_from}
use Rattle.rz_text.specs.Number.{hexadecimal, hexadecimal_has, wrong_place}
use Rattle.rz_text.specs.Laws.Places.{position-absent}
use Rattle.rz_trace.specs.Grammar.{address_of, is_small}
use Rattle.rz_trace.specs.Printed.{address_word}

-- a lower-case digit
pub record IsLower (c : ℕ) : Type 0 where
  pub small : is_small c ≡ true
  pub digit : digit_value c < 16
  pub visible : 32 < c

glyph_lower : (d : ℕ) → d < 16 → IsLower (digit_glyph false d)
glyph_lower d h = elim (cases_lt d 10) [
  | inl low ↦
      let test : nat_lt d 10 ≡ true = lt-ltb d 10 low in
      rw test (record { small = grind arith; digit = grind arith; visible = omega arith })
  | inr high ↦
      let test : nat_lt d 10 ≡ false = grind arith in
      rw test (record { small = grind arith; digit = grind arith; visible = omega arith })
]

glyph_zero : (d : ℕ) → d < 16 → digit_glyph false d ≡ 48 → d ≡ 0
glyph_zero d h e = grind arith

-- a number of at most so many digits and one
abbrev Room : ℕ → ℕ → Type 0
Room zero n = n < 16
Room (suc j) n = Room j (n / 16)

-- digits in lower case, so many at most, and without a leading zero
pub record IsPlain (most : ℕ) (ds : List ℕ) : Type 0 where
  pub lower : AllByRecursion IsLower ds
  pub few : length ds ≤ most
  pub first : slice_index ds 0 ≡ 48 → length ds ≡ 1

one_digit : (most n : ℕ) (acc : List ℕ) → n < 16 → length acc + 1 ≤ most → AllByRecursion IsLower acc → (n ≡ 0 → length acc ≡ 0)
    → IsPlain most (digit_glyph false (n % 16) ∷ acc)
one_digit most n acc small room lower none =
    let same : n % 16 ≡ n = omega arith in
    rw same (record {
      lower = (glyph_lower n small, lower);
      few = omega arith;
      first = λ e. let empty = none (glyph_zero n small e) in omega arith;
    })

plain_onto : (k j n most : ℕ) (acc : List ℕ) → Room j n → j < k → length acc + (j + 1) ≤ most → AllByRecursion IsLower acc → (n ≡ 0 → length acc ≡ 0)
    → IsPlain most (digits_onto k 16 false n acc)
plain_onto zero j n most acc room below few lower none = absurd (omega arith)
plain_onto (suc k) zero n most acc room below few lower none =
    let test : (n / 16 == 0) ≡ true = grind arith in
    rw test (one_digit most n acc room (omega arith) lower none)
plain_onto (suc k) (suc j) n most acc room below few lower none = elim (cases_lt 0 (n / 16)) [
  | inl more ↦
      let test : (n / 16 == 0) ≡ false = grind arith in
      rw test (plain_onto k j (n / 16) most (digit_glyph false (n % 16) ∷ acc) room (omega arith) (omega arith) (glyph_lower (n % 16) (omega arith), lower) (λ e. absurd (omega arith)))
  | inr last ↦
      let test : (n / 16 == 0) ≡ true = grind arith in
      rw test (one_digit most n acc (omega arith) (omega arith) lower none)
]

pub digits_plain : (n : ℕ) → n < 2 ^ 64 → IsPlain 16 (digits 16 false n)
unfolding digits
digits_plain n fits = plain_onto 64 15 n 16 [] (omega arith) (omega arith) (omega arith) tt (λ e. refl)

lower_at : (ds : List ℕ) (k : ℕ) → AllByRecursion IsLower ds → k < length ds → digit_value (get_or ds k 0) < 16
lower_at [] k h below = absurd (omega arith)
lower_at (c ∷ cs) zero h below = h.0.digit
lower_at (c ∷ cs) (suc k) h below = lower_at cs k h.1 (omega arith)

has_digit : (k c : ℕ) → k < 16 → digit_value c < 16 → not (hexadecimal_has (suc (suc k)) c) ≡ false
has_digit k c place digit =
    let zeroth : (suc (suc k) == 0) ≡ false = grind arith in
    let next : (suc (suc k) == 1) ≡ false = grind arith in
    let first : nat_lt (suc (suc k)) 18 ≡ true = grind arith in
    let second : nat_lt (digit_value c) 16 ≡ true = lt-ltb (digit_value c) 16 digit in
    rw (zeroth, next, first, second) refl

has_at : (ds : List ℕ) (k : ℕ) → IsPlain 16 ds → k < length (48 ∷ 120 ∷ ds) → not (hexadecimal_has k (get_or (48 ∷ 120 ∷ ds) k 0)) ≡ false
has_at ds zero plain below = refl
has_at ds (suc zero) plain below = refl
has_at ds (suc (suc k)) plain below =
    let few = plain.few in
    has_digit k (get_or ds k 0) (omega arith) (lower_at ds k plain.lower (omega arith))

hexadecimal-printed : (n : ℕ) → n < 2 ^ 64 → hexadecimal (address_word n) ≡ Ok n
unfolding hexadecimal
hexadecimal-printed n fits =
    let ds = digits 16 false n in
    let word = 48 ∷ 120 ∷ ds in
    let plain = digits_plain n fits in
    let numeral = digits_is_IsNumeral 16 false (omega arith) (omega arith) n (omega arith) in
    let len = length-enumerate_from 0 word in
    let right : wrong_place hexadecimal_has word ≡ None = position-absent (λ (x : ℕ × ℕ). not (hexadecimal_has x.0 x.1)) (enumerate_from 0 word) (0, 0)
    (λ k below.
    let inside : k < length word = omega (arith, len) in
    let at = get_or-enumerate_from 0 word k (0, 0) inside in
    let start = zero-add k in
    rw (at, start) (has_at ds k plain inside)) in
    let positive = numeral.0.0 in
    let some : nat_lt 2 (length word) ≡ true = lt-ltb 2 (length word) (omega (arith, positive)) in
    let small : nat_lt n (2 ^ 64) ≡ true = lt-ltb n (2 ^ 64) fits in
    rw (right, numeral.1, some, small) refl

all_small : (ds : List ℕ) → AllByRecursion IsLower ds → list_all is_small ds ≡ true
all_small [] h = refl
all_small (c ∷ cs) h = rw (h.0.small) (all_small cs h.1)

no_leading_zero : (ds : List ℕ) → (slice_index ds 0 ≡ 48 → length ds ≡ 1) → (nat_lt 3 (suc (suc (length ds))) && slice_index ds 0 == 48) ≡ false
no_leading_zero ds h = elim (cases_lt 1 (length ds)) [
  | inl long ↦
      let other : (slice_index ds 0 == 48) ≡ false = grind (arith, h) in
      rw other (grind arith)
  | inr short ↦
      let test : nat_lt 3 (suc (suc (length ds))) ≡ false = grind arith in
      rw test refl
]

pub address_of-printed : (n : ℕ) → n < 2 ^ 64 → address_of (address_word n) ≡ Some n
address_of-printed n fits =
    let plain = digits_plain n fits in
    let small = all_small (digits 16 false n) plain.lower in
    let lead = no_leading_zero (digits 16 false n) plain.first in
    let read = hexadecimal-printed n fits in
    rw (small, lead, read) refl
