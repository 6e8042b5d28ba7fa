-- What a write leaves of regions that ascend.
use Rattle.std.proofs.Common.{◌≡◌, ℕ, zero, suc, ◌+◌, ◌-◌, ◌^◌, ◌<◌, ◌≤◌, inr, Bool, true, false, ◌&&◌, if◌then◌else◌, nat_lt, List, [], ◌∷◌, ◌++◌, length, get_or, set, take, drop, add-one, refl, sym, ap, ap₂, ◌∙◌, subst, arith, length-set, lt-ltb, mod-eq_of_lt, append_assoc, take-suc-set, get_or-set_same}
use Rattle.std.proofs.lemmas.List.{take-append-drop, set-set, set-get_or, drop-set-lt}
use Rattle.std.proofs.lemmas.Bool.{cond-true, cond-false}
use Rattle.std.proofs.lemmas.Bool.Decides.{nat_tests}
use Rattle.rz_image.specs.declared.region.Region.{Region}
use Rattle.rz_image.specs.Perm.{writes}
use Rattle.rz_image.specs.Memory.{Regions, AscendFrom, Ascend, contains, cell_in, cell_at, wrap, put_in, put_byte, put_bytes}
use Rattle.rz_image.specs.Laws.Cells.{apart, inside}
use Rattle.rz_image.specs.Laws.Find.{fits_at}

-- a byte that was put changes no place and no length
put_keeps : (w : Bool) (r : Region) (k b : ℕ) (P : ℕ → ℕ → ℕ → Type 0) → P r.base (length r.bytes) r.opened → P (if w then record r { bytes = set r.bytes k b } else r).base (length (if w then record r { bytes = set r.bytes k b } else r).bytes) (if w then record r { bytes = set r.bytes k b } else r).opened
put_keeps true r k b P h = subst (λ n. P r.base n r.opened) (sym (length-set r.bytes k b)) h
put_keeps false r k b P h = h

pub ascend_put_byte : (m : Regions) (low a b : ℕ) → AscendFrom low m → AscendFrom low (put_byte m a b)
unfolding put_byte
ascend_put_byte [] low a b h = h
ascend_put_byte (r ∷ rs) low a b h = go (contains r a) (ascend_put_byte rs (r.base + length r.bytes) a b h.3)
  where
    go : (c : Bool) → AscendFrom (r.base + length r.bytes) (put_byte rs a b) → AscendFrom low (if c then put_in r (a - r.base) b ∷ rs else (r ∷ put_byte rs a b))
    go true ih =
        put_keeps (nat_lt (a - r.base) r.opened && writes r.perm) r (a - r.base) b
        (λ base len opened. (low ≤ base) × (base + len < 2 ^ 64) × (opened ≤ len) × AscendFrom (base + len) rs) h
    go false ih = (h.0, h.1, h.2, ih)

pub ascend_put_bytes : (m : Regions) (a : ℕ) (bs : List ℕ) → Ascend m → Ascend (put_bytes m a bs)
unfolding put_bytes
ascend_put_bytes m a [] h = h
ascend_put_bytes m a (b ∷ bs) h = ascend_put_bytes (put_byte m (wrap a) b) (a + 1) bs (ascend_put_byte m 0 (wrap a) b h)

-- a byte that may not be written stays
pub put_refused : (m : Regions) (a b : ℕ) → (cell_at m a).write ≡ false → put_byte m a b ≡ m
unfolding cell_at put_byte
put_refused [] a b h = refl
put_refused (r ∷ rs) a b h = go (contains r a) h (put_refused rs a b)
  where
    go : (c : Bool) → (if c then cell_in r (a - r.base) else cell_at rs a).write ≡ false → ((cell_at rs a).write ≡ false → put_byte rs a b ≡ rs) → (if c then put_in r (a - r.base) b ∷ rs else (r ∷ put_byte rs a b)) ≡ (r ∷ rs)
    go true h ih = ap (λ w. (if w then record r { bytes = set r.bytes (a - r.base) b } else r) ∷ rs) h
    go false h ih = ap (λ l. r ∷ l) (ih h)

-- a put changes the region that has the address
put_found : (m : Regions) (low i a b : ℕ) (d : Region) → AscendFrom low m → i < length m → contains (get_or m i d) a ≡ true → put_byte m a b ≡ set m i (put_in (get_or m i d) (a - (get_or m i d).base) b)
unfolding put_byte
put_found [] low i a b d h lt e = absurd (omega arith)
put_found (r ∷ rs) low zero a b d h lt e = cond-true (contains r a) _ _ e
put_found (r ∷ rs) low (suc i) a b d h lt e =
    let above = (fits_at rs (r.base + length r.bytes) i d h.3 (omega arith)).0 in
    let from : (get_or rs i d).base ≤ a = grind (arith, nat_tests, e) in
    cond-false (contains r a) _ _ (apart r a (inr (omega (arith, above, from)))) ∙ ap (λ l. r ∷ l) (put_found rs (r.base + length r.bytes) i a b d h.3 (omega arith) e)

-- a region with other bytes from a place on
abbrev pub with_bytes : Region → ℕ → List ℕ → Region
with_bytes r k bs = record r { bytes = take k r.bytes ++ (bs ++ drop (k + length bs) r.bytes) }

-- the first byte, and then the rest
with_rest : (r : Region) (k b : ℕ) (bs : List ℕ) → k < length r.bytes → with_bytes (record r { bytes = set r.bytes k b }) (k + 1) bs ≡ with_bytes r k (b ∷ bs)
with_rest r k b bs lt =
    let front : take (k + 1) (set r.bytes k b) ≡ take k r.bytes ++ b ∷ [] = rw add-one (take-suc-set r.bytes k b lt) in
    let back : drop (k + 1 + length bs) (set r.bytes k b) ≡ drop (k + 1 + length bs) r.bytes = drop-set-lt (k + 1 + length bs) r.bytes k b (omega arith) in
    let n : k + 1 + length bs ≡ k + suc (length bs) = omega arith in
    ap (λ (l : List ℕ). record r { bytes = l })
    (ap₂ (λ x y. x ++ (bs ++ y)) front (back ∙ ap (λ j. drop j r.bytes) n) ∙ append_assoc (take k r.bytes) (b ∷ []) _)

-- bytes that one region opens are put into it
pub put_all : (bs : List ℕ) (m : Regions) (i a : ℕ) (d r : Region) → get_or m i d ≡ r → Ascend m → i < length m → r.base ≤ a → a - r.base + length bs ≤ r.opened → writes r.perm ≡ true → put_bytes m a bs ≡ set m i (with_bytes r (a - r.base) bs)
unfolding put_bytes
put_all [] m i a d r is h lt from room w =
    let z : a - r.base + 0 ≡ a - r.base = omega arith in
    let e : take (a - r.base) r.bytes ++ drop (a - r.base + 0) r.bytes ≡ r.bytes = ap (λ j. take (a - r.base) r.bytes ++ drop j r.bytes) z ∙ take-append-drop (a - r.base) r.bytes in
    sym (ap (λ (l : List ℕ). set m i (record r { bytes = l })) e ∙ ap (set m i) (sym is) ∙ set-get_or m i d)
put_all (b ∷ bs) m i a d r is h lt from room w =
    let k : ℕ = a - r.base in
    let fits : (r.base + length r.bytes < 2 ^ 64) × (r.opened ≤ length r.bytes) = subst (λ (x : Region). (x.base + length x.bytes < 2 ^ 64) × (x.opened ≤ length x.bytes)) is (let f = fits_at m 0 i d h lt in (f.1, f.2)) in
    let low : wrap a ≡ a = mod-eq_of_lt (omega (arith, fits.0, fits.1)) in
    let in_r : k < length r.bytes = omega (arith, fits.1) in
    let open_k : k < r.opened = omega arith in
    let r' : Region = record r { bytes = set r.bytes k b } in
    let put : put_in r k b ≡ r' = ap (λ t. if t then r' else r) (ap₂ ◌&&◌ (lt-ltb k r.opened open_k) w) in
    let has : contains (get_or m i d) a ≡ true = ap (λ x. contains x a) is ∙ inside r a from (omega (arith, in_r)) in
    let found : put_byte m a b ≡ set m i (put_in r k b) = put_found m 0 i a b d h lt has ∙ ap (λ (x : Region). set m i (put_in x (a - x.base) b)) is in
    let one : put_byte m (wrap a) b ≡ set m i r' = ap (λ x. put_byte m x b) low ∙ found ∙ ap (set m i) put in
    let same : get_or (set m i r') i d ≡ r' = get_or-set_same m i r' d lt in
    let up : a + 1 - r.base ≡ k + 1 = omega arith in
    let h' : Ascend (set m i r') = subst Ascend one (ascend_put_byte m 0 (wrap a) b h) in
    let lt' : i < length (set m i r') = let l = length-set m i r' in omega arith in
    let rest : put_bytes (set m i r') (a + 1) bs ≡ set (set m i r') i (with_bytes r' (a + 1 - r.base) bs) =
    put_all bs (set m i r') i (a + 1) d r' same h' lt' (omega arith) (omega arith) w in
    ap (λ l. put_bytes l (a + 1) bs) one ∙ rest ∙ set-set m i r' (with_bytes r' (a + 1 - r.base) bs)
    ∙ ap (set m i) (ap (λ j. with_bytes r' j bs) up ∙ with_rest r k b bs in_r)

pub put_none : (m : Regions) (a : ℕ) → put_bytes m a [] ≡ m
unfolding put_bytes
put_none m a = refl

-- one byte at an address
pub put_one : (m : Regions) (a b : ℕ) → a < 2 ^ 64 → put_bytes m a (b ∷ []) ≡ put_byte m a b
unfolding put_bytes
put_one m a b low = ap (λ x. put_byte m x b) (mod-eq_of_lt low)

-- one byte after others
pub put_more : (m : Regions) (a b : ℕ) (bs : List ℕ) → put_bytes m a (bs ++ b ∷ []) ≡ put_byte (put_bytes m a bs) (wrap (a + length bs)) b
unfolding put_bytes
put_more m a b [] = let z : a ≡ a + 0 = omega arith in ap (λ x. put_byte m (wrap x) b) z
put_more m a b (c ∷ bs) =
    let e : a + 1 + length bs ≡ a + suc (length bs) = omega arith in
    put_more (put_byte m (wrap a) c) (a + 1) b bs ∙ ap (λ x. put_byte (put_bytes (put_byte m (wrap a) c) (a + 1) bs) (wrap x) b) e
