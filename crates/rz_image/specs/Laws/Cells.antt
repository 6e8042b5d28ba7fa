-- Cells of lists of regions, and what is fetched from them.
use Rattle.std.proofs.Common.{◌≡◌, ℕ, zero, suc, ◌+◌, ◌-◌, ◌<◌, ◌≤◌, ◌⊎◌, inl, inr, Bool, true, false, ◌&&◌, if◌then◌else◌, nat_lt, nat_le, List, [], ◌∷◌, length, get_or, Some, None, refl, ap, ap₂, ◌∙◌, arith, le-leb, lt-ltb, le-ltb, leb-true}
use Rattle.std.specs.List.{AllByRecursion}
use Rattle.std.proofs.lemmas.Bool.{and_parts}
use Rattle.rz_image.specs.declared.region.Region.{Region}
use Rattle.rz_image.specs.Memory.{Cell, Regions, no_cell, contains, cell_in, cell_at, code_of, fetched, fetch, NoSelfWritten}
use Rattle.rz_image.specs.Perm.{writes, executes}

-- a test that fails
and_false : (b : Bool) → (b && false) ≡ false
and_false true = refl
and_false false = refl

-- a region away from an address
pub apart : (r : Region) (a : ℕ) → (a < r.base) ⊎ (r.base + length r.bytes ≤ a) → contains r a ≡ false
apart r a (inl h) = ap (λ b. b && nat_lt a (r.base + length r.bytes)) (not_le r.base a h)
  where
    not_le : (x y : ℕ) → y < x → nat_le x y ≡ false
    not_le x y h = grind (arith, leb-true)
apart r a (inr h) = ap (λ b. nat_le r.base a && b) (le-ltb a (r.base + length r.bytes) h) ∙ and_false (nat_le r.base a)

-- a region round an address
pub inside : (r : Region) (a : ℕ) → r.base ≤ a → a < r.base + length r.bytes → contains r a ≡ true
inside r a h k = ap₂ ◌&&◌ (le-leb r.base a h) (lt-ltb a (r.base + length r.bytes) k)

-- a property of cells that each region has is one of all cells
pub cells : (P : ℕ → Cell → Type 0) → ((a : ℕ) → P a no_cell) → (m : Regions) → AllByRecursion (λ r. (a : ℕ) → contains r a ≡ true → P a (cell_in r (a - r.base))) m → (a : ℕ) → P a (cell_at m a)
unfolding cell_at
cells P none [] h a = none a
cells P none (r ∷ rs) h a = go (contains r a) refl (cells P none rs h.1 a)
  where
    go : (c : Bool) → contains r a ≡ c → P a (cell_at rs a) → P a (if c then cell_in r (a - r.base) else cell_at rs a)
    go true e ih = h.0 a e
    go false e ih = ih

-- a property that follows from another
pub all_map : (P Q : Region → Type 0) → ((r : Region) → P r → Q r) → (m : Regions) → AllByRecursion P m → AllByRecursion Q m
all_map P Q f [] h = tt
all_map P Q f (r ∷ rs) h = (f r h.0, all_map P Q f rs h.1)

-- a region that is not both written and executed
abbrev pub IsFixed : Region → Type 0
IsFixed r = writes r.perm ≡ true → executes r.perm ≡ false

-- no byte is both written and executed where no region is
pub none_self_written : (m : Regions) → AllByRecursion IsFixed m → NoSelfWritten m
none_self_written m h = record { at = cells P (λ a w. refl) m (all_map IsFixed _ fixed m h) }
  where
    P : ℕ → Cell → Type 0
    P a c = c.write ≡ true → c.execute ≡ false

    fixed : (r : Region) → IsFixed r → (a : ℕ) → contains r a ≡ true → P a (cell_in r (a - r.base))
    fixed r f a i w =
        let k = a - r.base in
        let parts = and_parts (nat_lt k r.opened) (writes r.perm) w in
        ap (λ b. nat_lt k r.opened && b) (f parts.1) ∙ and_false (nat_lt k r.opened)

-- a byte among bytes, or zero past them
pub get_byte : (bs : List ℕ) (k : ℕ) → AllByRecursion (λ b. b < 256) bs → get_or bs k 0 < 256
get_byte [] k h = omega arith
get_byte (b ∷ bs) zero h = h.0
get_byte (b ∷ bs) (suc k) h = get_byte bs k h.1

-- what is fetched are bytes where all cells hold bytes
pub fetch_bytes : (m : Regions) → ((a : ℕ) → (cell_at m a).byte < 256) → (a n : ℕ) → AllByRecursion (λ b. b < 256) (fetch m a n)
unfolding fetch
fetch_bytes m h a zero = tt
fetch_bytes m h a (suc n) = go (cell_at m a) (h a) (fetch_bytes m h (a + 1) n)
  where
    go : (c : Cell) → c.byte < 256 → AllByRecursion (λ b. b < 256) (fetch m (a + 1) n) → AllByRecursion (λ b. b < 256) (fetched (code_of c) (fetch m (a + 1) n))
    go c low ih = by_execute c.execute
      where
        by_execute : (e : Bool) → AllByRecursion (λ b. b < 256) (fetched (if e then Some c.byte else None) (fetch m (a + 1) n))
        by_execute true = (low, ih)
        by_execute false = tt

-- where something is fetched, the first of it may be executed
pub fetch_first : (m : Regions) (a n : ℕ) → 0 < length (fetch m a n) → (cell_at m a).execute ≡ true
unfolding fetch
fetch_first m a zero some = absurd (omega arith)
fetch_first m a (suc n) some = go (cell_at m a).execute some
  where
    go : (e : Bool) → 0 < length (fetched (if e then Some (cell_at m a).byte else None) (fetch m (a + 1) n)) → e ≡ true
    go true some = refl
    go false some = absurd (omega arith)

-- what is fetched lies below a bound of all that may be executed
pub fetch_low : (m : Regions) (top : ℕ) → ((a : ℕ) → (cell_at m a).execute ≡ true → a < top) → (a n k : ℕ) → 0 < k → k ≤ length (fetch m a n) → a + k ≤ top
unfolding fetch
fetch_low m top h a zero k some le = absurd (omega arith)
fetch_low m top h a (suc n) k some le = go (cell_at m a).execute refl le (λ j. fetch_low m top h (a + 1) n j)
  where
    more : List ℕ
    more = fetch m (a + 1) n

    go : (e : Bool) → (cell_at m a).execute ≡ e → k ≤ length (fetched (if e then Some (cell_at m a).byte else None) more) → ((j : ℕ) → 0 < j → j ≤ length more → a + 1 + j ≤ top) → a + k ≤ top
    go false e le ih = absurd (omega arith)
    go true e le ih = last k some le
      where
        here : a < top
        here = h a e

        last : (k : ℕ) → 0 < k → k ≤ suc (length more) → a + k ≤ top
        last zero some le = absurd (omega arith)
        last (suc zero) some le = omega (arith, here)
        last (suc (suc j)) some le = let i = ih (suc j) (omega arith) (omega arith) in omega (arith, i)
