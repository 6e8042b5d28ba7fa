-- Members of sets of addresses, as more are added.
use Rattle.std.proofs.Common.{◌≡◌, ◌⊎◌, ◌<◌, ℕ, zero, suc, Bool, true, false, ◌||◌, ◌==◌, if◌then◌else◌, Some, List, [], ◌∷◌, ◌++◌, All, inl, inr, ⊎_elim, refl, sym, ap, ◌∙◌, subst, arith, length, get_or, slice_get, nat_eq, nat_lt, None, IfSome, eq-eqb, true≢false}
use Rattle.std.proofs.lemmas.Bool.{cases_lt, eqb-true, ltb-true}
use Rattle.std.specs.List.{position, position_or_len}
use Rattle.std.proofs.lemmas.List.Sums.{passes_at_first}
use Rattle.std.proofs.lemmas.List.Folds.{list_any-append}
use Rattle.std.proofs.lemmas.List.Elements.{All-head, All-tail}
use Rattle.std.proofs.lemmas.Map.Keys.{any_passes_from_place, apart_from_distinct}
use Rattle.std.proofs.lemmas.Option.{none-some, slice_get-get_or, slice_get_within, get_or_from_slice_get}
use Rattle.std.specs.List.{IsDistinct}
use Rattle.rz_aset.specs.Sets.{has, with_address, with_addresses}

or_cases : (p q : Bool) → (p || q) ≡ true → (p ≡ true) ⊎ (q ≡ true)
or_cases true q e = inl refl
or_cases false q e = inr e

-- what stands at a place is a member, and each member stands at a place
pub has_at : (xs : List ℕ) (k a : ℕ) → slice_get xs k ≡ Some a → has xs a ≡ true
has_at xs k a e = any_passes_from_place (λ y. y == a) xs k a e (eq-eqb a a refl)

pub place_of : (xs : List ℕ) (a : ℕ) → has xs a ≡ true → (k : ℕ) × (slice_get xs k ≡ Some a)
place_of [] a e = absurd (true≢false (sym e))
place_of (x ∷ xs) a e =
    ⊎_elim
    (λ here. (zero, ap Some (eqb-true x a here)))
    (λ later. let r = place_of xs a later in (suc r.0, r.1))
    (or_cases (x == a) (has xs a) e)

-- the place that a search finds has the address
pub found_at : (xs : List ℕ) (a : ℕ) → IfSome (position (nat_eq a) xs) (λ i. slice_get xs i ≡ Some a)
found_at xs a = go (nat_lt first (length xs)) refl
  where
    first : ℕ
    first = position_or_len (nat_eq a) xs

    go : (v : Bool) → nat_lt first (length xs) ≡ v → IfSome (if v then Some first else None) (λ i. slice_get xs i ≡ Some a)
    go true e =
        let lt : first < length xs = ltb-true first (length xs) e in
        slice_get-get_or xs first 0 lt ∙ ap Some (sym (eqb-true a (get_or xs first 0) (passes_at_first (nat_eq a) xs 0 lt)))
    go false e = tt

-- what holds of all holds of each member
pub All_at : (P : ℕ → Type 0) (xs : List ℕ) (a : ℕ) → All P xs → has xs a ≡ true → P a
All_at P [] a h e = absurd (true≢false (sym e))
All_at P (x ∷ xs) a h e =
    ⊎_elim
    (λ here. subst P (eqb-true x a here) (All-head P x xs h))
    (λ later. All_at P xs a (All-tail P x xs h) later)
    (or_cases (x == a) (has xs a) e)

pub All_of : (P : ℕ → Type 0) (xs : List ℕ) → ((a : ℕ) → has xs a ≡ true → P a) → All P xs
All_of P xs h k d lt = h (get_or xs k d) (has_at xs k (get_or xs k d) (slice_get-get_or xs k d lt))

-- no two places have one address
pub same_place : (xs : List ℕ) (i j a : ℕ) → IsDistinct nat_eq xs → slice_get xs i ≡ Some a → slice_get xs j ≡ Some a → i ≡ j
same_place xs i j a d e f =
    ⊎_elim
    (λ lt. absurd (meet i j e f lt))
    (λ le. ⊎_elim (λ lt. absurd (meet j i f e lt)) (λ ge. omega arith) (cases_lt j i))
    (cases_lt i j)
  where
    meet : (i j : ℕ) → slice_get xs i ≡ Some a → slice_get xs j ≡ Some a → i < j → ⊥
    meet i j e f lt =
        let apart = apart_from_distinct nat_eq xs i j 0 d lt (slice_get_within xs j a f) in
        let same : get_or xs i 0 ≡ get_or xs j 0 = get_or_from_slice_get xs i a 0 e ∙ sym (get_or_from_slice_get xs j a 0 f) in
        true≢false (sym (eq-eqb (get_or xs i 0) (get_or xs j 0) same) ∙ apart)

-- one address more
module _ (xs : List ℕ) (x : ℕ) where
  pub has-with_address : has (with_address xs x) x ≡ true
  has-with_address = go (has xs x) refl
    where
      go : (v : Bool) → has xs x ≡ v → has (if v then xs else xs ++ x ∷ []) x ≡ true
      go true e = e
      go false e = rw (list_any-append (λ y. y == x) xs (x ∷ []), e, eq-eqb x x refl) refl

  pub with_address-keeps : (b : ℕ) → has xs b ≡ true → has (with_address xs x) b ≡ true
  with_address-keeps b h = go (has xs x)
    where
      go : (v : Bool) → has (if v then xs else xs ++ x ∷ []) b ≡ true
      go true = h
      go false = rw (list_any-append (λ y. y == b) xs (x ∷ []), h) refl

  pub with_address-only : (b : ℕ) → has (with_address xs x) b ≡ true → (has xs b ≡ true) ⊎ (b ≡ x)
  with_address-only b = go (has xs x)
    where
      go : (v : Bool) → has (if v then xs else xs ++ x ∷ []) b ≡ true → (has xs b ≡ true) ⊎ (b ≡ x)
      go true h = inl h
      go false h =
          ⊎_elim inl
          (λ new. ⊎_elim (λ e. inr (sym (eqb-true x b e))) (λ none. absurd (true≢false (sym none))) (or_cases (x == b) false new))
          (or_cases (has xs b) (x == b || false) (rw (list_any-append (λ y. y == b) xs (x ∷ [])) at h))

  pub with_address-at : (k a : ℕ) → slice_get xs k ≡ Some a → slice_get (with_address xs x) k ≡ Some a
  with_address-at k a h = go (has xs x)
    where
      front : (ys : List ℕ) (k : ℕ) → slice_get ys k ≡ Some a → slice_get (ys ++ x ∷ []) k ≡ Some a
      front [] k e = absurd (none-some a e)
      front (y ∷ ys) zero e = e
      front (y ∷ ys) (suc k) e = front ys k e

      go : (v : Bool) → slice_get (if v then xs else xs ++ x ∷ []) k ≡ Some a
      go true = h
      go false = front xs k h

-- the addresses of a list more
pub with_addresses-keeps : (xs ys : List ℕ) (b : ℕ) → has xs b ≡ true → has (with_addresses xs ys) b ≡ true
with_addresses-keeps xs [] b h = h
with_addresses-keeps xs (y ∷ ys) b h = with_addresses-keeps (with_address xs y) ys b (with_address-keeps xs y b h)

pub has-with_addresses : (xs ys : List ℕ) (b : ℕ) → has ys b ≡ true → has (with_addresses xs ys) b ≡ true
has-with_addresses xs [] b h = absurd (true≢false (sym h))
has-with_addresses xs (y ∷ ys) b h =
    ⊎_elim
    (λ e. with_addresses-keeps (with_address xs y) ys b (subst (λ c. has (with_address xs y) c ≡ true) (eqb-true y b e) (has-with_address xs y)))
    (λ later. has-with_addresses (with_address xs y) ys b later)
    (or_cases (y == b) (has ys b) h)

pub with_addresses-only : (xs ys : List ℕ) (b : ℕ) → has (with_addresses xs ys) b ≡ true → (has xs b ≡ true) ⊎ (has ys b ≡ true)
with_addresses-only xs [] b h = inl h
with_addresses-only xs (y ∷ ys) b h =
    ⊎_elim
    (λ old. ⊎_elim inl (λ e. inr (rw (eq-eqb y b (sym e)) refl)) (with_address-only xs y b old))
    (λ new. inr (elim (y == b) as (λ v. (v || has ys b) ≡ true) [ true ↦ refl | false ↦ new ]))
    (with_addresses-only (with_address xs y) ys b h)

pub with_addresses-at : (xs ys : List ℕ) (k a : ℕ) → slice_get xs k ≡ Some a → slice_get (with_addresses xs ys) k ≡ Some a
with_addresses-at xs [] k a h = h
with_addresses-at xs (y ∷ ys) k a h = with_addresses-at (with_address xs y) ys k a (with_address-at xs y k a h)
