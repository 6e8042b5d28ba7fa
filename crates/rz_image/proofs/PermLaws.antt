-- A permission is one bit.
use Rattle.std.proofs.Common.{◌≡◌, ℕ, zero, suc, ◌*◌, ◌/◌, ◌%◌, ◌==◌, refl, ap, ◌∙◌, arith}
use Rattle.std.specs.Int.RustNames.{bit_and}
use Rattle.std.specs.Int.{bit_at}
use Rattle.std.proofs.lemmas.Nat.Bits.{and_pow}
use Rattle.std.proofs.lemmas.Bool.Decides.{nat_tests}

-- a bit at its worth is there where it is 1
worth_one : (bit : ℕ) → (bit * 1 == 1) ≡ (bit == 1)
worth_one zero = refl
worth_one (suc zero) = refl
worth_one (suc (suc bit)) = grind (arith, nat_tests)

worth_two : (bit : ℕ) → (bit * 2 == 2) ≡ (bit == 1)
worth_two zero = refl
worth_two (suc zero) = refl
worth_two (suc (suc bit)) = grind (arith, nat_tests)

worth_four : (bit : ℕ) → (bit * 4 == 4) ≡ (bit == 1)
worth_four zero = refl
worth_four (suc zero) = refl
worth_four (suc (suc bit)) = grind (arith, nat_tests)

pub has_execute : (p : ℕ) → (bit_and p 1 == 1) ≡ (p / 1 % 2 == 1)
has_execute p = ap (λ n. n == 1) (and_pow p 0) ∙ worth_one (bit_at p 0)

pub has_write : (p : ℕ) → (bit_and p 2 == 2) ≡ (p / 2 % 2 == 1)
has_write p = ap (λ n. n == 2) (and_pow p 1) ∙ worth_two (bit_at p 1)

pub has_read : (p : ℕ) → (bit_and p 4 == 4) ≡ (p / 4 % 2 == 1)
has_read p = ap (λ n. n == 4) (and_pow p 2) ∙ worth_four (bit_at p 2)
