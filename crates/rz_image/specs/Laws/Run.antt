-- What a run of bytes that one region opens says of cells, of what is refused and of what is read.
use Rattle.std.proofs.Common.{◌≡◌, ℕ, zero, suc, ◌+◌, ◌-◌, ◌^◌, ◌<◌, ◌≤◌, Bool, true, false, ◌&&◌, if◌then◌else◌, nat_lt, List, [], ◌∷◌, ◌++◌, length, get_or, set, take, drop, Some, None, refl, sym, ap, ap₂, ◌∙◌, arith, length-take, length-drop, lt-ltb, le-ltb, mod-eq_of_lt, append_assoc}
use Rattle.std.proofs.lemmas.List.{get_or-take, get_or-drop, take_at, length-take-le, length-append, take_more_set}
use borrow.Rule.Slice.PartMut.{put_mid}
use Rattle.rz_image.specs.declared.access.Access.{Access}
use Rattle.rz_image.specs.declared.access.Access.TheVariants.{Execute, Write, Read}
use Rattle.rz_image.specs.declared.region.Region.{Region}
use Rattle.rz_image.specs.Memory.{Cell, Regions, Ascend, cell_in, cell_at, no_cell, wrap, refused, bytes_at, fetched, fetch}
use Rattle.rz_image.specs.Run.{permits, allows, run_in, HasRegion, IsRun}
use Rattle.rz_image.specs.Laws.Cells.{inside}
use Rattle.rz_image.specs.Laws.Find.{fits_at, cell_found}
use Rattle.rz_image.specs.Laws.Puts.{within}

-- a cell of a region allows what is open and permitted
allows_in : (access : Access) (r : Region) (k : ℕ) → allows access (cell_in r k) ≡ (nat_lt k r.opened && permits access r.perm)
allows_in Execute r k = refl
allows_in Write r k = refl
allows_in Read r k = refl

allows_none : (access : Access) → allows access no_cell ≡ false
allows_none Execute = refl
allows_none Write = refl
allows_none Read = refl

and_false : (b : Bool) → (b && false) ≡ false
and_false true = refl
and_false false = refl

-- where n bytes of a region are open to an access, it is permitted, and they end where the region is open or before
pub room : (access : Access) (r : Region) (place n : ℕ) → 0 < n → n ≤ length (run_in access r place) → (permits access r.perm ≡ true) × (place + n ≤ r.opened)
room access r place n some le = go (permits access r.perm) le
  where
    go : (p : Bool) → n ≤ length (if p then take (r.opened - place) (drop place r.bytes) else []) → (p ≡ true) × (place + n ≤ r.opened)
    go true le = (refl, omega (arith, length-take (r.opened - place) (drop place r.bytes)))
    go false le = absurd (omega arith)

-- where no region has the address, no byte is open
pub no_run : (access : Access) (m : Regions) (a : ℕ) → a < 2 ^ 64 → cell_at m a ≡ no_cell → IsRun access m a []
no_run access m a low e = record {
  allowed = λ k lt. absurd (omega arith);
  same = λ k lt. absurd (omega arith);
  fits = omega arith;
  none = λ z. ap (allows access) e ∙ allows_none access;
}

module _ (access : Access) (m : Regions) (i a : ℕ) (d : Region) (ascend : Ascend m) (has : HasRegion m i a) where
  abbrev r : Region
  r = get_or m i d

  abbrev place : ℕ
  place = a - r.base

  -- the bytes that are open from the place on
  abbrev opened : List ℕ
  opened = take (r.opened - place) (drop place r.bytes)

  bounds : (r.base ≤ a) × (a < r.base + length r.bytes)
  bounds = within r a (has.holds d)

  fits : (r.base + length r.bytes < 2 ^ 64) × (r.opened ≤ length r.bytes)
  fits = let f = fits_at m 0 i d ascend has.there in (f.1, f.2)

  -- the cells of a region's addresses
  here : (k : ℕ) → a + k < r.base + length r.bytes → cell_at m (a + k) ≡ cell_in r (place + k)
  here k lt =
      let b = bounds.0 in
      let j : a + k - r.base ≡ place + k = omega arith in
      cell_found m 0 i (a + k) d ascend has.there (inside r (a + k) (omega arith) lt) ∙ ap (cell_in r) j

  first : allows access (cell_at m a) ≡ (nat_lt place r.opened && permits access r.perm)
  first = ap (allows access) (cell_found m 0 i a d ascend has.there (has.holds d)) ∙ allows_in access r place

  length_opened : length opened ≡ r.opened - place
  length_opened = let f = fits.1 in omega (arith, f, length-take (r.opened - place) (drop place r.bytes), length-drop place r.bytes)

  -- the place of an open byte
  open_at : (k : ℕ) → k < length opened → (place + k < r.opened) × (a + k < r.base + length r.bytes)
  open_at k lt = let l = length_opened in let f = fits.1 in let b = bounds.0 in (omega (arith, l), omega (arith, l, f, b))

  by_permission : (p : Bool) → permits access r.perm ≡ p → IsRun access m a (if p then opened else [])
  by_permission false e = record {
    allowed = λ k lt. absurd (omega arith);
    same = λ k lt. absurd (omega arith);
    fits = let f = fits.0 in let b = bounds.1 in omega (arith, f, b);
    none = λ z. first ∙ ap (λ b. nat_lt place r.opened && b) e ∙ and_false (nat_lt place r.opened);
  }
  by_permission true e = record {
    allowed = λ k lt. ap (allows access) (here k (open_at k lt).1) ∙ allows_in access r (place + k) ∙ ap₂ ◌&&◌ (lt-ltb (place + k) r.opened (open_at k lt).0) e;
    same = λ k lt. ap (λ (c : Cell). c.byte) (here k (open_at k lt).1) ∙ sym (get_or-take (r.opened - place) (drop place r.bytes) k 0 (let l = length_opened in omega arith) ∙ get_or-drop place r.bytes k 0);
    fits = let l = length_opened in let f = fits in let b = bounds in omega (arith, l, f.0, f.1, b.0, b.1);
    none = λ z. first ∙ ap (λ b. b && permits access r.perm) (le-ltb place r.opened (let l = length_opened in omega (arith, l, z)));
  }

  -- what a region opens from its address on is a run
  pub region_run : IsRun access m a (run_in access r place)
  region_run = by_permission (permits access r.perm) refl

-- addresses that pass are passed over
pub refused_skip : (test : Cell → Bool) (m : Regions) (a k n : ℕ) → k ≤ n → ((j : ℕ) → j < k → test (cell_at m (wrap (a + j))) ≡ true) → refused test m (a + k) (n - k) ≡ refused test m a n
unfolding refused
refused_skip test m a zero n le h = let e : a + 0 ≡ a = omega arith in let f : n - 0 ≡ n = omega arith in ap₂ (λ x y. refused test m x y) e f
refused_skip test m a (suc k) zero le h = absurd (omega arith)
refused_skip test m a (suc k) (suc n) le h =
    let z : a + 0 ≡ a = omega arith in
    let first : test (cell_at m (wrap a)) ≡ true = ap (λ x. test (cell_at m (wrap x))) (sym z) ∙ h 0 (omega arith) in
    let shift : (j : ℕ) → a + suc j ≡ a + 1 + j = λ j. omega arith in
    let later : (j : ℕ) → j < k → test (cell_at m (wrap (a + 1 + j))) ≡ true = λ j lt. ap (λ x. test (cell_at m (wrap x))) (sym (shift j)) ∙ h (suc j) (omega arith) in
    let left : suc n - suc k ≡ n - k = omega arith in
    ap₂ (λ x y. refused test m x y) (shift k) left ∙ refused_skip test m (a + 1) k n (omega arith) later
    ∙ sym (ap (λ b. if b then refused test m (a + 1) n else Some (wrap a)) first)

-- the first address that doesn't pass
pub refused_here : (test : Cell → Bool) (m : Regions) (a n : ℕ) → 0 < n → test (cell_at m (wrap a)) ≡ false → refused test m a n ≡ Some (wrap a)
unfolding refused
refused_here test m a zero some e = absurd (omega arith)
refused_here test m a (suc n) some e = ap (λ b. if b then refused test m (a + 1) n else Some (wrap a)) e

pub refused_all : (test : Cell → Bool) (m : Regions) (a : ℕ) → refused test m a 0 ≡ None
unfolding refused
refused_all test m a = refl

-- bytes one after the other
pub bytes_split : (m : Regions) (a k n : ℕ) → k ≤ n → bytes_at m a k ++ bytes_at m (a + k) (n - k) ≡ bytes_at m a n
unfolding bytes_at
bytes_split m a zero n le = let e : a + 0 ≡ a = omega arith in let f : n - 0 ≡ n = omega arith in ap₂ (λ x y. bytes_at m x y) e f
bytes_split m a (suc k) zero le = absurd (omega arith)
bytes_split m a (suc k) (suc n) le =
    let e : a + suc k ≡ a + 1 + k = omega arith in
    let left : suc n - suc k ≡ n - k = omega arith in
    ap (λ l. (cell_at m (wrap a)).byte ∷ l) (ap₂ (λ x y. bytes_at m (a + 1) k ++ bytes_at m x y) e left ∙ bytes_split m (a + 1) k n (omega arith))

pub bytes_all : (m : Regions) (a : ℕ) → bytes_at m a 0 ≡ []
unfolding bytes_at
bytes_all m a = refl

pub bytes_one : (m : Regions) (a : ℕ) → bytes_at m a 1 ≡ (cell_at m (wrap a)).byte ∷ []
unfolding bytes_at
bytes_one m a = refl

pub length-bytes_at : (m : Regions) (a n : ℕ) → length (bytes_at m a n) ≡ n
unfolding bytes_at
length-bytes_at m a zero = refl
length-bytes_at m a (suc n) = let e = length-bytes_at m (a + 1) n in omega (arith, e)

-- bytes that are known
pub bytes_known : (m : Regions) (a k : ℕ) (bs : List ℕ) → k ≤ length bs → ((j : ℕ) → j < k → (cell_at m (wrap (a + j))).byte ≡ get_or bs j 0) → bytes_at m a k ≡ take k bs
unfolding bytes_at
bytes_known m a zero bs le h = refl
bytes_known m a (suc k) [] le h = absurd (omega arith)
bytes_known m a (suc k) (b ∷ bs) le h =
    let z : a + 0 ≡ a = omega arith in
    let shift : (j : ℕ) → a + suc j ≡ a + 1 + j = λ j. omega arith in
    ap₂ ◌∷◌ (ap (λ x. (cell_at m (wrap x)).byte) (sym z) ∙ h 0 (omega arith))
    (bytes_known m (a + 1) k bs (omega arith) (λ j lt. ap (λ x. (cell_at m (wrap x)).byte) (sym (shift j)) ∙ h (suc j) (omega arith)))

-- executable bytes that are known
pub fetch_known : (m : Regions) (a k n : ℕ) (bs : List ℕ) → k ≤ length bs → k ≤ n → ((j : ℕ) → j < k → (cell_at m (a + j)).execute ≡ true) → ((j : ℕ) → j < k → (cell_at m (a + j)).byte ≡ get_or bs j 0) → take k bs ++ fetch m (a + k) (n - k) ≡ fetch m a n
unfolding fetch
fetch_known m a zero n bs le in_n x h = let e : a + 0 ≡ a = omega arith in let f : n - 0 ≡ n = omega arith in ap₂ (λ y z. fetch m y z) e f
fetch_known m a (suc k) n [] le in_n x h = absurd (omega arith)
fetch_known m a (suc k) zero (b ∷ bs) le in_n x h = absurd (omega arith)
fetch_known m a (suc k) (suc n) (b ∷ bs) le in_n x h =
    let z : a + 0 ≡ a = omega arith in
    let shift : (j : ℕ) → a + suc j ≡ a + 1 + j = λ j. omega arith in
    let run : (cell_at m a).execute ≡ true = ap (λ y. (cell_at m y).execute) (sym z) ∙ x 0 (omega arith) in
    let byte : (cell_at m a).byte ≡ b = ap (λ y. (cell_at m y).byte) (sym z) ∙ h 0 (omega arith) in
    let rest = fetch_known m (a + 1) k n bs (omega arith) (omega arith) (λ j lt. ap (λ y. (cell_at m y).execute) (sym (shift j)) ∙ x (suc j) (omega arith)) (λ j lt. ap (λ y. (cell_at m y).byte) (sym (shift j)) ∙ h (suc j) (omega arith)) in
    let left : suc n - suc k ≡ n - k = omega arith in
    ap₂ (λ y w. b ∷ (take k bs ++ fetch m y w)) (shift k) left
    ∙ sym (ap (λ t. fetched (if t then Some (cell_at m a).byte else None) (fetch m (a + 1) n)) run ∙ ap₂ ◌∷◌ byte (sym rest))

-- runs and addresses below 2^64
module _ (access : Access) (m : Regions) (a : ℕ) (bs : List ℕ) (run : IsRun access m a bs) where
  unwrapped : (j : ℕ) → j < length bs → wrap (a + j) ≡ a + j
  unwrapped j lt = let f = run.fits in mod-eq_of_lt (omega arith)

  pub refused_run : (k n : ℕ) → k ≤ length bs → k ≤ n → refused (allows access) m (a + k) (n - k) ≡ refused (allows access) m a n
  refused_run k n le in_n = refused_skip (allows access) m a k n in_n (λ j lt. ap (λ x. allows access (cell_at m x)) (unwrapped j (omega arith)) ∙ run.allowed j (omega arith))

  pub bytes_run : (k : ℕ) → k ≤ length bs → bytes_at m a k ≡ take k bs
  bytes_run k le = bytes_known m a k bs le (λ j lt. ap (λ x. (cell_at m x).byte) (unwrapped j (omega arith)) ∙ run.same j (omega arith))

-- a run of executable bytes
pub fetch_run : (m : Regions) (a k n : ℕ) (bs : List ℕ) → IsRun Execute m a bs → k ≤ length bs → k ≤ n → take k bs ++ fetch m (a + k) (n - k) ≡ fetch m a n
fetch_run m a k n bs run le in_n = fetch_known m a k n bs le in_n (λ j lt. run.allowed j (omega arith)) (λ j lt. run.same j (omega arith))

pub fetch_none : (m : Regions) (a : ℕ) → fetch m a 0 ≡ []
unfolding fetch
fetch_none m a = refl

-- bytes that were written behind a front
pub put_front : (n more k : ℕ) (out bs : List ℕ) → n + more ≤ length out → length bs ≡ more → k ≡ more → take (n + more) (put_mid n k out bs) ≡ take n out ++ bs
put_front n more k out bs le len same =
    let front = length-take-le n out (omega arith) in
    let both = length-append (take n out) bs in
    ap (take (n + more)) (sym (append_assoc (take n out) bs (drop k (drop n out)))) ∙ take_at (take n out ++ bs) (drop k (drop n out)) (n + more) (omega arith)

-- one byte after those that were read
pub bytes_more : (m : Regions) (a k : ℕ) (bytes : List ℕ) (b : ℕ) → k < length bytes → take k bytes ≡ bytes_at m a k → b ≡ (cell_at m (wrap (a + k))).byte → take (k + 1) (set bytes k b) ≡ bytes_at m a (k + 1)
bytes_more m a k bytes b lt read e =
    let one : k + 1 - k ≡ 1 = omega arith in
    take_more_set bytes k b lt ∙ ap₂ ◌++◌ read (ap (λ x. x ∷ []) e ∙ sym (ap (bytes_at m (a + k)) one ∙ bytes_one m (a + k))) ∙ bytes_split m a k (k + 1) (omega arith)

-- one address that passes
pub refused_next : (test : Cell → Bool) (m : Regions) (a k n : ℕ) → k < n → test (cell_at m (wrap (a + k))) ≡ true → refused test m (a + (k + 1)) (n - (k + 1)) ≡ refused test m (a + k) (n - k)
refused_next test m a k n lt e =
    let up : a + (k + 1) ≡ a + k + 1 = omega arith in
    let left : n - (k + 1) ≡ n - k - 1 = omega arith in
    ap₂ (λ x y. refused test m x y) up left ∙ refused_skip test m (a + k) 1 (n - k) (omega arith) (λ j lt. let z : a + k + j ≡ a + k = omega arith in ap (λ x. test (cell_at m (wrap x))) z ∙ e)
