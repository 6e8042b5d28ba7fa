-- Laws of memory, cell by cell.
use Rattle.std.proofs.Common.{◌≡◌, ◌≢◌, ℕ, suc, ◌+◌, ◌-◌, ◌<◌, ◌≤◌, ⊎_elim, Bool, true, false, ◌&&◌, if◌then◌else◌, nat_lt, nat_le, List, [], ◌∷◌, length, set, refl, sym, ap, ◌∙◌, subst, arith, length-set, get_or-set_same, get_or-set_other, ltb-true, leb-true}
use Rattle.std.proofs.lemmas.Bool.{cases_eq, and_parts, cond-true, cond-false}
use Rattle.rz_image.specs.declared.region.Region.{Region}
use Rattle.rz_image.specs.Perm.{writes}
use Rattle.rz_image.specs.Memory.{Cell, Regions, contains, cell_in, cell_at, put_in, put_byte, wrap, put_bytes, Range, IsOutside, IsClear, SameCell, Alike}

-- a cell with another byte, where writing is allowed
abbrev pub set_byte : ℕ → Cell → Cell
set_byte b c = if c.write then record c { byte = b } else c

abbrev changed : Bool → Region → ℕ → ℕ → Region
changed w r k b = if w then record r { bytes = set r.bytes k b } else r

-- a changed region has the same addresses
contains_changed : (w : Bool) (r : Region) (k b a : ℕ) → contains (changed w r k b) a ≡ contains r a
contains_changed true r k b a = ap (λ n. nat_le r.base a && nat_lt a (r.base + n)) (length-set r.bytes k b)
contains_changed false r k b a = refl

-- its cell at the place has the new byte, where writing is allowed
cell_changed_same : (w : Bool) (r : Region) (a b : ℕ) → a - r.base < length r.bytes → cell_in (changed w r (a - r.base) b) (a - (changed w r (a - r.base) b).base) ≡ (if w then record (cell_in r (a - r.base)) { byte = b } else cell_in r (a - r.base))
cell_changed_same true r a b h = let k = a - r.base in ap (λ x. let c : Cell = record (cell_in r k) { byte = x } in c) (get_or-set_same r.bytes k b 0 h)
cell_changed_same false r a b h = refl

-- its other cells are as before
cell_changed_other : (w : Bool) (r : Region) (k b c : ℕ) → c - r.base ≢ k → cell_in (changed w r k b) (c - (changed w r k b).base) ≡ cell_in r (c - r.base)
cell_changed_other true r k b c h = let j = c - r.base in ap (λ x. let c : Cell = record (cell_in r j) { byte = x } in c) (get_or-set_other r.bytes k j b 0 h)
cell_changed_other false r k b c h = refl

-- the addresses of a region
pub within : (r : Region) (a : ℕ) → contains r a ≡ true → (r.base ≤ a) × (a < r.base + length r.bytes)
within r a e =
    let p = and_parts (nat_le r.base a) (nat_lt a (r.base + length r.bytes)) e in
    (leb-true r.base a p.0, ltb-true a (r.base + length r.bytes) p.1)

-- the cell at the address of a put
pub cell_at-put_same : (m : Regions) (a b : ℕ) → cell_at (put_byte m a b) a ≡ set_byte b (cell_at m a)
unfolding cell_at put_byte
cell_at-put_same [] a b = refl
cell_at-put_same (r ∷ rs) a b = go (cell_at-put_same rs a b) (contains r a) refl
  where
    k : ℕ
    k = a - r.base

    w : Bool
    w = nat_lt k r.opened && writes r.perm

    go : cell_at (put_byte rs a b) a ≡ set_byte b (cell_at rs a) → (c : Bool) → contains r a ≡ c → cell_at (if c then put_in r k b ∷ rs else (r ∷ put_byte rs a b)) a ≡ set_byte b (if c then cell_in r k else cell_at rs a)
    go ih true e =
        let h = within r a e in
        let lt : k < length r.bytes = omega arith in
        cond-true (contains (changed w r k b) a) _ _ (contains_changed w r k b a ∙ e) ∙ cell_changed_same w r a b lt
    go ih false e = cond-false (contains r a) _ _ e ∙ ih

-- the cells at other addresses
pub cell_at-put_other : (m : Regions) (a b c : ℕ) → c ≢ a → cell_at (put_byte m a b) c ≡ cell_at m c
unfolding cell_at put_byte
cell_at-put_other [] a b c h = refl
cell_at-put_other (r ∷ rs) a b c h = go (cell_at-put_other rs a b c h) (contains r a) refl
  where
    k : ℕ
    k = a - r.base

    w : Bool
    w = nat_lt k r.opened && writes r.perm

    there : (d : Bool) → contains r c ≡ d → contains r a ≡ true → (if d then cell_in (changed w r k b) (c - (changed w r k b).base) else cell_at rs c) ≡ (if d then cell_in r (c - r.base) else cell_at rs c)
    there true e f =
        let p = within r c e in
        let q = within r a f in
        let ne : c - r.base ≢ k = λ x. h (omega arith) in
        cell_changed_other w r k b c ne
    there false e f = refl

    go : cell_at (put_byte rs a b) c ≡ cell_at rs c → (d : Bool) → contains r a ≡ d → cell_at (if d then put_in r k b ∷ rs else (r ∷ put_byte rs a b)) c ≡ (if contains r c then cell_in r (c - r.base) else cell_at rs c)
    go ih true e =
        ap (λ d. if d then cell_in (changed w r k b) (c - (changed w r k b).base) else cell_at rs c) (contains_changed w r k b c)
        ∙ there (contains r c) refl e
    go ih false e = ap (λ x. if contains r c then cell_in r (c - r.base) else x) ih

-- the range's outside stays alike under a write
same_set : (b : ℕ) (c d : Cell) → SameCell c d → SameCell (set_byte b c) (set_byte b d)
same_set b c d h = go c.write d.write h.write
  where
    go : (v w : Bool) → v ≡ w → SameCell (if v then record c { byte = b } else c) (if w then record d { byte = b } else d)
    go true true e = record { byte = refl; read = h.read; write = h.write }
    go false false e = h
    go true false e = cc
    go false true e = cc

-- memories stay alike under the same put outside the range
pub alike_put : (r : Range) (m n : Regions) (a b : ℕ) → IsOutside r a → Alike r m n → Alike r (put_byte m a b) (put_byte n a b)
alike_put r m n a b out h = record { at = λ c o. ⊎_elim (same c o) (other c o) (cases_eq c a) }
  where
    same : (c : ℕ) → IsOutside r c → c ≡ a → SameCell (cell_at (put_byte m a b) c) (cell_at (put_byte n a b) c)
    same c o e =
        let P : ℕ → Type 0 = λ x. SameCell (cell_at (put_byte m a b) x) (cell_at (put_byte n a b) x) in
        subst P (sym e) (rw (cell_at-put_same m a b, cell_at-put_same n a b) (same_set b (cell_at m a) (cell_at n a) (h.at a out)))

    other : (c : ℕ) → IsOutside r c → (c ≡ a → ⊥) → SameCell (cell_at (put_byte m a b) c) (cell_at (put_byte n a b) c)
    other c o e = rw (cell_at-put_other m a b c e, cell_at-put_other n a b c e) (h.at c o)

-- a clear access: its first byte, and the rest
pub head_clear : (r : Range) (a n : ℕ) → IsClear r a (suc n) → IsOutside r (wrap a)
head_clear r a n clear = let e : a + 0 ≡ a = omega arith in subst (λ x. IsOutside r (wrap x)) e (clear 0 (omega arith))

pub tail_clear : (r : Range) (a n : ℕ) → IsClear r a (suc n) → IsClear r (a + 1) n
tail_clear r a n clear k lt = let e : a + suc k ≡ a + 1 + k = omega arith in subst (λ x. IsOutside r (wrap x)) e (clear (suc k) (omega arith))

-- and under the same puts
pub alike_puts : (r : Range) (m n : Regions) (a : ℕ) (bs : List ℕ) → IsClear r a (length bs) → Alike r m n → Alike r (put_bytes m a bs) (put_bytes n a bs)
unfolding put_bytes
alike_puts r m n a [] clear h = h
alike_puts r m n a (b ∷ bs) clear h =
    alike_puts r (put_byte m (wrap a) b) (put_byte n (wrap a) b) (a + 1) bs (tail_clear r a (length bs) clear) (alike_put r m n (wrap a) b (head_clear r a (length bs) clear) h)
