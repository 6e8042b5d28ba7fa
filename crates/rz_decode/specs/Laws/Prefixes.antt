use Rattle.std.proofs.Common.{◌≡◌, List, [], ◌∷◌, ◌++◌, drop, length, refl, ap, sym, ◌∙◌, arith, Bool, inl, inr}
use Rattle.std.specs.Prelude.{if◌then◌else◌}
use Rattle.std.specs.List.{take_while}
use Rattle.std.proofs.lemmas.Bool.{cases_Bool}
use Rattle.std.proofs.lemmas.List.Sums.{take_while-cons}
use Rattle.std.proofs.lemmas.Grind.{common_steps}
use Rattle.rz_isa.specs.Reading.{skip_while}

-- Elements that a test lets pass, and what stands behind them.

-- what is behind the elements that pass
pub drop_passed : {X : Type 0} (p : X → Bool) (xs : List X) → drop (length (take_while p xs)) xs ≡ skip_while p xs
drop_passed p [] = refl
drop_passed p (x ∷ xs) = grind (arith, common_steps, take_while-cons p x xs, drop_passed p xs)

-- where one stands behind them, it does whatever follows
pub stopped : {X : Type 0} (p : X → Bool) (xs rest : List X) (t : X) (ts : List X) → skip_while p xs ≡ t ∷ ts →
    (take_while p (xs ++ rest) ≡ take_while p xs) × (skip_while p (xs ++ rest) ≡ t ∷ (ts ++ rest))
stopped p [] rest t ts e = absurd (cc)
stopped p (x ∷ xs) rest t ts e = elim (cases_Bool (p x)) [
  | inl y ↦
      (let i = stopped p xs rest t ts (sym (ap (λ k. if k then skip_while p xs else x ∷ xs) y) ∙ e) in
      (grind (arith, take_while-cons p x (xs ++ rest), take_while-cons p x xs), ap (λ k. if k then skip_while p (xs ++ rest) else x ∷ (xs ++ rest)) y ∙ i.1))
  | inr n ↦
      (let s : x ∷ xs ≡ t ∷ ts = sym (ap (λ k. if k then skip_while p xs else x ∷ xs) n) ∙ e in
      (grind (arith, take_while-cons p x (xs ++ rest), take_while-cons p x xs), ap (λ k. if k then skip_while p (xs ++ rest) else x ∷ (xs ++ rest)) n ∙ ap (λ k. k ++ rest) s))
]

pub passed_front : {X : Type 0} (p : X → Bool) (xs rest : List X) → (zs : List X) × (take_while p (xs ++ rest) ≡ take_while p xs ++ zs)
passed_front p [] rest = (take_while p rest, refl)
passed_front p (x ∷ xs) rest = elim (cases_Bool (p x)) [
  | inl y ↦ (let i = passed_front p xs rest in (i.0, grind (arith, take_while-cons p x (xs ++ rest), take_while-cons p x xs, i.1)))
  | inr n ↦ ([], grind (arith, take_while-cons p x (xs ++ rest), take_while-cons p x xs))
]
