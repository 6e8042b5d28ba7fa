-- Conjunctions and disjunctions of tests, and lists that have what passes one.
use Rattle.std.proofs.Common.{◌≡◌, ℕ, Bool, true, false, ◌||◌, ◌&&◌, ◌⊎◌, inl, inr, ⊎_elim, List, [], ◌∷◌, refl, ap, sym, ◌∙◌, nat_eq, eq-eqb}
use Rattle.std.specs.List.{list_any}
use Rattle.std.proofs.lemmas.Bool.{eqb-true}
use Rattle.rz_aset.specs.Sets.{has}
use Rattle.rz_paths.specs.Sets.{In}

pub or_cases : (x y : Bool) → (x || y) ≡ true → (x ≡ true) ⊎ (y ≡ true)
or_cases true y h = inl refl
or_cases false y h = inr h

pub or_left : (x y : Bool) → x ≡ true → (x || y) ≡ true
or_left true y h = refl
or_left false y h = cc

pub or_right : (x y : Bool) → y ≡ true → (x || y) ≡ true
or_right true y h = refl
or_right false y h = h

pub and_left : (x y : Bool) → (x && y) ≡ true → x ≡ true
and_left true y h = refl
and_left false y h = h

pub and_right : (x y : Bool) → (x && y) ≡ true → y ≡ true
and_right true y h = h
and_right false y h = cc

pub and_both : (x y : Bool) → x ≡ true → y ≡ true → (x && y) ≡ true
and_both true y h k = k
and_both false y h k = h

pub or_false : (x : Bool) → (x || false) ≡ x
or_false true = refl
or_false false = refl

pub and_yes : (x y : Bool) → y ≡ true → (x && y) ≡ x
and_yes true y h = h
and_yes false y h = refl

pub and_no : (x y : Bool) → y ≡ false → (x && y) ≡ false
and_no true y h = h
and_no false y h = refl

-- tests that hold together are equal
pub same_test : (x y : Bool) → (x ≡ true → y ≡ true) → (y ≡ true → x ≡ true) → x ≡ y
same_test true y f g = sym (f refl)
same_test false true f g = g refl
same_test false false f g = refl

pub eqb_turned : (a b : ℕ) → nat_eq a b ≡ nat_eq b a
eqb_turned a b = same_test (nat_eq a b) (nat_eq b a) (λ h. eq-eqb b a (sym (eqb-true a b h))) (λ h. eq-eqb a b (sym (eqb-true b a h)))

pub never : {X : Type 0} → false ≡ true → X
never e = absurd (no e)
  where
    no : false ≡ true → ⊥
    no e = cc

-- what a list with one more address in front has is that address or in the rest
pub In-cons : (x : ℕ) (xs : List ℕ) (a : ℕ) → In (x ∷ xs) a → (a ≡ x) ⊎ In xs a
In-cons x xs a h = ⊎_elim (λ e. inl (sym (eqb-true x a e))) (λ r. inr r) (or_cases (nat_eq x a) (has xs a) h)

pub In-head : (x : ℕ) (xs : List ℕ) → In (x ∷ xs) x
In-head x xs = or_left (nat_eq x x) (has xs x) (eq-eqb x x refl)

pub any_some : (p : ℕ → Bool) (xs : List ℕ) → list_any p xs ≡ true → (c : ℕ) × In xs c × (p c ≡ true)
any_some p [] h = never h
any_some p (x ∷ xs) h = ⊎_elim
    (λ e. (x, In-head x xs, e))
    (λ r. let more = any_some p xs r in (more.0, or_right (nat_eq x more.0) (has xs more.0) more.1, more.2))
    (or_cases (p x) (list_any p xs) h)

pub some_any : (p : ℕ → Bool) (xs : List ℕ) (c : ℕ) → In xs c → p c ≡ true → list_any p xs ≡ true
some_any p [] c i h = i
some_any p (x ∷ xs) c i h = ⊎_elim
    (λ e. or_left (p x) (list_any p xs) (ap p (sym e) ∙ h))
    (λ r. or_right (p x) (list_any p xs) (some_any p xs c r h))
    (In-cons x xs c i)
