-- First places in lists.
use Rattle.std.proofs.Common.{◌≡◌, ℕ, ◌+◌, ◌<◌, ◌≤◌, ◌==◌, Bool, true, false, cond, not, List, [], ◌∷◌, ◌++◌, length-append, refl, length, get_or, Some, None, inl, inr, sym, ◌∙◌, arith}
use Rattle.std.specs.Prelude.{position}
use Rattle.std.specs.List.{position_or_len}
use Rattle.std.proofs.lemmas.List.Sums.{fails_before_first, position_or_len_is, prefix_len-le-length}
use Rattle.std.proofs.lemmas.List.Folds.{position_or_len_push}
use Rattle.std.proofs.lemmas.Bool.{cases_lt, false≢true}
use Rattle.std.specs.Option.{IsSome}

pub position-some : {X : Type 0} (p : X → Bool) (xs : List X) (i : ℕ) → position p xs ≡ Some i → (position_or_len p xs ≡ i) × (i < length xs)
position-some p xs i h = grind arith

position-none-len : {X : Type 0} (p : X → Bool) (xs : List X) → position p xs ≡ None → length xs ≤ position_or_len p xs
position-none-len p xs h = grind arith

-- where no element passes, each fails
pub position-none : {X : Type 0} (p : X → Bool) (xs : List X) (d : X) → position p xs ≡ None → (k : ℕ) → k < length xs → p (get_or xs k d) ≡ false
position-none p xs d h k below = let all = position-none-len p xs h in fails_before_first p xs k d (omega arith)

-- where an element passes, there is a first one
pub position-found : {X : Type 0} (p : X → Bool) (xs : List X) (i : ℕ) (d : X) → i < length xs → p (get_or xs i d) ≡ true → IsSome (position p xs)
position-found p xs i d below passes =
    let first : position_or_len p xs ≤ i = elim (cases_lt i (position_or_len p xs)) [
      | inl before ↦ absurd (false≢true (sym (fails_before_first p xs i d before) ∙ passes))
      | inr at ↦ at
    ] in
    let within : position_or_len p xs < length xs = omega arith in
    grind (arith, within)

-- where each element fails, there is none
pub position-absent : {X : Type 0} (p : X → Bool) (xs : List X) (d : X) → ((k : ℕ) → k < length xs → p (get_or xs k d) ≡ false) → position p xs ≡ None
position-absent p xs d fails =
    let all = position_or_len_is p xs (length xs) d (omega arith) fails (λ past. absurd (omega arith)) in
    grind (arith, all)

-- one more element, which passes where none did
pub position-push_first : {X : Type 0} (p : X → Bool) (xs : List X) (y : X) → position p xs ≡ None → p y ≡ true → position p (xs ++ y ∷ []) ≡ Some (length xs)
position-push_first p xs y none passes =
    let all : length xs ≤ position_or_len p xs = position-none-len p xs none in
    let most = prefix_len-le-length (λ x. not (p x)) xs in
    let whole : position_or_len p xs ≡ length xs = omega arith in
    let test : (position_or_len p xs == length xs) ≡ true = grind arith in
    let pushed : position_or_len p (xs ++ y ∷ []) ≡ length xs + 0 = rw (position_or_len_push p xs y, test, passes) refl in
    let len : length (xs ++ y ∷ []) ≡ length xs + 1 = simp length-append in
    grind (arith, pushed, len)

-- one more element, which fails
pub position-push_fails : {X : Type 0} (p : X → Bool) (xs : List X) (y : X) → p y ≡ false → position p (xs ++ y ∷ []) ≡ position p xs
position-push_fails p xs y fails =
    let most = prefix_len-le-length (λ x. not (p x)) xs in
    let len : length (xs ++ y ∷ []) ≡ length xs + 1 = simp length-append in
    let pushed : position_or_len p (xs ++ y ∷ []) ≡ cond (position_or_len p xs == length xs) (length xs + 1) (position_or_len p xs) =
    rw (position_or_len_push p xs y, fails) refl in
    elim (cases_lt (position_or_len p xs) (length xs)) [
      | inl inside ↦
          let test : (position_or_len p xs == length xs) ≡ false = grind arith in
          let same : position_or_len p (xs ++ y ∷ []) ≡ position_or_len p xs = rw test at pushed in
          grind (arith, same, len)
      | inr outside ↦
          let test : (position_or_len p xs == length xs) ≡ true = grind arith in
          let past : position_or_len p (xs ++ y ∷ []) ≡ length xs + 1 = rw test at pushed in
          grind (arith, past, len)
    ]
