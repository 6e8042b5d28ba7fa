-- The region of an address among regions that ascend.
use Rattle.std.proofs.Common.{◌≡◌, ℕ, zero, suc, ◌+◌, ◌-◌, ◌^◌, ◌<◌, ◌≤◌, ◌⊎◌, inl, inr, ⊎_elim, true, false, leb, [], ◌∷◌, length, get_or, refl, ap, ◌∙◌, arith, leb-true}
use Rattle.std.specs.List.{AllWithin}
use Rattle.std.specs.List.Sorted.{IsNonDecreasingBy}
use Rattle.std.proofs.lemmas.Bool.{cond-true, cond-false, cases_lt}
use Rattle.std.proofs.lemmas.Bool.Decides.{nat_tests}
use Rattle.rz_image.specs.declared.region.Region.{Region}
use Rattle.rz_image.specs.Memory.{Regions, RegionsFit, AscendFrom, Ascend, contains, cell_in, cell_at, no_cell}
use Rattle.rz_image.specs.Laws.Cells.{apart}

-- what is said of each region
pub fits_at : (m : Regions) (low i : ℕ) (d : Region) → AscendFrom low m → i < length m → (low ≤ (get_or m i d).base) × ((get_or m i d).base + length (get_or m i d).bytes < 2 ^ 64) × ((get_or m i d).opened ≤ length (get_or m i d).bytes)
fits_at [] low i d h lt = absurd (omega arith)
fits_at (r ∷ rs) low zero d h lt = (h.0, h.1, h.2)
fits_at (r ∷ rs) low (suc i) d h lt =
    let rest = fits_at rs (r.base + length r.bytes) i d h.3 (omega arith) in
    let low = h.0 in
    (omega (arith, rest.0, low), rest.1, rest.2)

-- regions that ascend lie below 2^64
pub regions_fit : (m : Regions) (low : ℕ) → AscendFrom low m → RegionsFit m
regions_fit [] low h = tt
regions_fit (r ∷ rs) low h = (h.1, regions_fit rs (r.base + length r.bytes) h.3)

-- a region ends where a later one begins, or before
ends_before : (m : Regions) (low i j : ℕ) (d : Region) → AscendFrom low m → i < j → j < length m → (get_or m i d).base + length (get_or m i d).bytes ≤ (get_or m j d).base
ends_before [] low i j d h lt le = absurd (omega arith)
ends_before (r ∷ rs) low i zero d h lt le = absurd (omega arith)
ends_before (r ∷ rs) low zero (suc j) d h lt le = (fits_at rs (r.base + length r.bytes) j d h.3 (omega arith)).0
ends_before (r ∷ rs) low (suc i) (suc j) d h lt le = ends_before rs (r.base + length r.bytes) i j d h.3 (omega arith) (omega arith)

pub rising : (m : Regions) → Ascend m → IsNonDecreasingBy (λ r. r.base) m
rising m h i j d le lt = go (cases i j le)
  where
    cases : (i j : ℕ) → i ≤ j → (i < j) ⊎ (i ≡ j)
    cases zero zero le = inr refl
    cases zero (suc j) le = inl (omega arith)
    cases (suc i) zero le = absurd (omega arith)
    cases (suc i) (suc j) le = ⊎_elim (λ l. inl (omega (arith, l))) (λ e. inr (ap suc e)) (cases i j (omega arith))

    go : (i < j) ⊎ (i ≡ j) → (get_or m i d).base ≤ (get_or m j d).base
    go (inl l) = let e = ends_before m 0 i j d h l lt in omega (arith, e)
    go (inr e) = rw e (omega arith)

-- the cell of an address that a region has
pub cell_found : (m : Regions) (low i a : ℕ) (d : Region) → AscendFrom low m → i < length m → contains (get_or m i d) a ≡ true → cell_at m a ≡ cell_in (get_or m i d) (a - (get_or m i d).base)
unfolding cell_at
cell_found [] low i a d h lt e = absurd (omega arith)
cell_found (r ∷ rs) low zero a d h lt e = cond-true (contains r a) _ _ e
cell_found (r ∷ rs) low (suc i) a d h lt e =
    let above = (fits_at rs (r.base + length r.bytes) i d h.3 (omega arith)).0 in
    let from : (get_or rs i d).base ≤ a = grind (arith, nat_tests, e) in
    cond-false (contains r a) _ _ (apart r a (inr (omega (arith, above, from)))) ∙ cell_found rs (r.base + length r.bytes) i a d h.3 (omega arith) e

-- an address that no region has
pub cell_missing : (m : Regions) (a : ℕ) → ((i : ℕ) (d : Region) → i < length m → contains (get_or m i d) a ≡ false) → cell_at m a ≡ no_cell
unfolding cell_at
cell_missing [] a h = refl
cell_missing (r ∷ rs) a h = cond-false (contains r a) _ _ (h 0 r (omega arith)) ∙ cell_missing rs a (λ i d lt. h (suc i) d (omega arith))

module _ (m : Regions) (a after : ℕ) (ascend : Ascend m) (inside : after ≤ length m) (below : AllWithin (λ r. leb r.base a ≡ true) m 0 after) (above : AllWithin (λ r. leb r.base a ≡ false) m after (length m)) where
  beyond : (i : ℕ) (d : Region) → i < length m → after ≤ i → contains (get_or m i d) a ≡ false
  beyond i d lt le = let e = above i d le lt in rw e refl

  before : (i : ℕ) (d : Region) → suc i < after → contains (get_or m i d) a ≡ false
  before i d lt =
      let end = ends_before m 0 i (after - 1) d ascend (omega arith) (omega arith) in
      let low = leb-true (get_or m (after - 1) d).base a (below (after - 1) d (omega arith) (omega arith)) in
      apart (get_or m i d) a (inr (omega (arith, end, low)))

  -- no region begins at the address or before
  pub none_begins : after ≡ 0 → cell_at m a ≡ no_cell
  none_begins e = cell_missing m a (λ i d lt. beyond i d lt (omega arith))

  -- the last one that does ends before
  pub none_has : ((d : Region) → contains (get_or m (after - 1) d) a ≡ false) → cell_at m a ≡ no_cell
  none_has last = cell_missing m a each
    where
      place : (i : ℕ) → (after ≤ i) ⊎ ((suc i < after) ⊎ (i ≡ after - 1))
      place i = ⊎_elim (λ l. ⊎_elim (λ k. inr (inl k)) (λ k. inr (inr (omega (arith, k, l)))) (cases_lt (suc i) after)) (λ g. inl g) (cases_lt i after)

      each : (i : ℕ) (d : Region) → i < length m → contains (get_or m i d) a ≡ false
      each i d lt = ⊎_elim (beyond i d lt) (⊎_elim (before i d) (λ e. rw e (last d))) (place i)
