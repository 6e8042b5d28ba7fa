use Rattle.std.proofs.Common.{ℕ, zero, suc, pos, ◌≡◌, ◌+◌, ◌-◌, ◌*◌, ◌%◌, ◌^◌, ◌<◌, ◌≤◌, ◌-ℤ◌, refl, ap, sym, ◌∙◌, subst, arith, List, [], ◌∷◌, length, true, inl, inr}
use Rattle.std.specs.Prelude.{nat_lt, if◌then◌else◌}
use Rattle.std.proofs.lemmas.Bool.{cases_Bool}
use Rattle.std.proofs.lemmas.Bool.Decides.{nat_tests}
use Rattle.std.proofs.Math.Nat.{pow-succ'}
use Rattle.rz_isa.specs.Laws.Types.{Width, W8, W16, W32, W64}
use Rattle.rz_num.specs.Width.{size}
use Rattle.rz_num.specs.Bytes.{are_bytes}
use Rattle.rz_isa.specs.Number.{number, numbers, is_positive, signed, extended}
use Rattle.rz_isa.specs.Spelling.{full_len}
use Rattle.rz_isa.specs.Having.{is_disp, is_extended}

-- ---- the number of bytes is below the number of such numbers

pub number_less : (bs : List ℕ) → are_bytes bs ≡ true → number bs < numbers bs
number_less [] h = omega arith
number_less (b ∷ bs) h =
    let lt : b < 256 = grind (arith, nat_tests) in
    let rest = number_less bs (grind arith) in
    omega arith

pub numbers_of : (bs : List ℕ) (n : ℕ) → length bs ≡ n → numbers bs ≡ 256 ^ n
numbers_of [] zero e = refl
numbers_of [] (suc n) e = absurd (omega arith)
numbers_of (b ∷ bs) zero e = absurd (omega arith)
numbers_of (b ∷ bs) (suc n) e = ap (λ k. 256 * k) (numbers_of bs n (omega arith)) ∙ sym (pow-succ' 256 n)

pub numbers_small : (bs : List ℕ) → length bs ≤ 4 → numbers bs ≤ 2 ^ 32
numbers_small [] h = omega arith
numbers_small (a ∷ []) h = omega arith
numbers_small (a ∷ b ∷ []) h = omega arith
numbers_small (a ∷ b ∷ c ∷ []) h = omega arith
numbers_small (a ∷ b ∷ c ∷ d ∷ []) h = omega arith
numbers_small (a ∷ b ∷ c ∷ d ∷ e ∷ bs) h = absurd (omega arith)

pub numbers_full : (w : Width) (bs : List ℕ) → length bs ≡ full_len w → numbers bs ≡ size w
numbers_full W8 bs e = numbers_of bs 1 e
numbers_full W16 bs e = numbers_of bs 2 e
numbers_full W32 bs e = numbers_of bs 4 e
numbers_full W64 bs e = numbers_of bs 8 e

-- ---- a signed number of at most four bytes has 32 bits

signed_disp : (n m : ℕ) → n < m → m ≤ 2 ^ 32 → is_disp (if nat_lt (2 * n) m then pos n else pos n -ℤ pos m) ≡ true
signed_disp n m h1 h2 = grind (arith, nat_tests)

pub signed_is_disp : (bs : List ℕ) → are_bytes bs ≡ true → length bs ≤ 4 → is_disp (signed bs) ≡ true
signed_is_disp bs h short = signed_disp (number bs) (numbers bs) (number_less bs h) (numbers_small bs short)

-- ---- sign-extended numbers

pub extended_low : (half top n k : ℕ) → n ≡ k → k < half → is_extended half top n ≡ true
extended_low half top n k e lt = grind (arith, nat_tests)

pub extended_high : (half top n k : ℕ) → n ≡ k → top - half ≤ k → k < top → is_extended half top n ≡ true
extended_high half top n k e le lt = grind (arith, nat_tests)

pub extended_byte : (bs : List ℕ) (w : Width) → are_bytes bs ≡ true → length bs ≡ 1 → is_extended (2 ^ 7) (size w) (extended bs % size w) ≡ true
extended_byte bs w h one =
    let m = numbers_of bs 1 one in
    let lt = number_less bs h in
    elim (cases_Bool (is_positive bs)) [
      | inl y ↦ subst (λ k. is_extended (2 ^ 7) (size w) ((if k then number bs else number bs + (2 ^ 64 - numbers bs)) % size w) ≡ true) (sym y) (low w (number bs) (grind (arith, nat_tests)))
      | inr n ↦
          subst (λ k. is_extended (2 ^ 7) (size w) ((if k then number bs else number bs + (2 ^ 64 - numbers bs)) % size w) ≡ true) (sym n)
          (subst (λ k. is_extended (2 ^ 7) (size w) ((number bs + (2 ^ 64 - k)) % size w) ≡ true) (sym m) (high w (number bs) (grind (arith, nat_tests)) (omega arith)))
    ]
  where
    low : (w : Width) (n : ℕ) → n < 2 ^ 7 → is_extended (2 ^ 7) (size w) (n % size w) ≡ true
    low W8 n lt = extended_low (2 ^ 7) (2 ^ 8) (n % 2 ^ 8) n (omega arith) lt
    low W16 n lt = extended_low (2 ^ 7) (2 ^ 16) (n % 2 ^ 16) n (omega arith) lt
    low W32 n lt = extended_low (2 ^ 7) (2 ^ 32) (n % 2 ^ 32) n (omega arith) lt
    low W64 n lt = extended_low (2 ^ 7) (2 ^ 64) (n % 2 ^ 64) n (omega arith) lt

    high : (w : Width) (n : ℕ) → 2 ^ 7 ≤ n → n < 2 ^ 8 → is_extended (2 ^ 7) (size w) ((n + (2 ^ 64 - 2 ^ 8)) % size w) ≡ true
    high W8 n le lt = extended_high (2 ^ 7) (2 ^ 8) ((n + (2 ^ 64 - 2 ^ 8)) % 2 ^ 8) (n + (2 ^ 8 - 2 ^ 8)) (omega arith) (omega arith) (omega arith)
    high W16 n le lt = extended_high (2 ^ 7) (2 ^ 16) ((n + (2 ^ 64 - 2 ^ 8)) % 2 ^ 16) (n + (2 ^ 16 - 2 ^ 8)) (omega arith) (omega arith) (omega arith)
    high W32 n le lt = extended_high (2 ^ 7) (2 ^ 32) ((n + (2 ^ 64 - 2 ^ 8)) % 2 ^ 32) (n + (2 ^ 32 - 2 ^ 8)) (omega arith) (omega arith) (omega arith)
    high W64 n le lt = extended_high (2 ^ 7) (2 ^ 64) ((n + (2 ^ 64 - 2 ^ 8)) % 2 ^ 64) (n + (2 ^ 64 - 2 ^ 8)) (omega arith) (omega arith) (omega arith)

pub extended_four : (bs : List ℕ) → are_bytes bs ≡ true → length bs ≡ 4 → is_extended (2 ^ 31) (2 ^ 64) (extended bs % 2 ^ 64) ≡ true
extended_four bs h four =
    let m = numbers_of bs 4 four in
    let lt = number_less bs h in
    elim (cases_Bool (is_positive bs)) [
      | inl y ↦ subst (λ k. is_extended (2 ^ 31) (2 ^ 64) ((if k then number bs else number bs + (2 ^ 64 - numbers bs)) % 2 ^ 64) ≡ true) (sym y) (low (number bs) (grind (arith, nat_tests)))
      | inr n ↦
          subst (λ k. is_extended (2 ^ 31) (2 ^ 64) ((if k then number bs else number bs + (2 ^ 64 - numbers bs)) % 2 ^ 64) ≡ true) (sym n)
          (subst (λ k. is_extended (2 ^ 31) (2 ^ 64) ((number bs + (2 ^ 64 - k)) % 2 ^ 64) ≡ true) (sym m) (high (number bs) (grind (arith, nat_tests)) (omega arith)))
    ]
  where
    low : (n : ℕ) → n < 2 ^ 31 → is_extended (2 ^ 31) (2 ^ 64) (n % 2 ^ 64) ≡ true
    low n lt = extended_low (2 ^ 31) (2 ^ 64) (n % 2 ^ 64) n (omega arith) lt

    high : (n : ℕ) → 2 ^ 31 ≤ n → n < 2 ^ 32 → is_extended (2 ^ 31) (2 ^ 64) ((n + (2 ^ 64 - 2 ^ 32)) % 2 ^ 64) ≡ true
    high n le lt = extended_high (2 ^ 31) (2 ^ 64) ((n + (2 ^ 64 - 2 ^ 32)) % 2 ^ 64) (n + (2 ^ 64 - 2 ^ 32)) (omega arith) (omega arith) (omega arith)
