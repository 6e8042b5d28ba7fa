-- What opening the heap leaves of memory.
use Rattle.std.proofs.Common.{◌≡◌, ◌≢◌, ℕ, zero, suc, ◌+◌, ◌-◌, ◌%◌, ◌<◌, ◌≤◌, inr, ⊎_elim, Bool, true, false, ◌&&◌, if◌then◌else◌, nat_lt, nat_le, max, List, [], ◌∷◌, ◌++◌, length, get_or, set, take, drop, replicate, refl, sym, ap, ap₂, ◌∙◌, subst, subst₂, arith, length-append, length-take, length-drop, length-set, get_or-set_other, lt-ltb, le-ltb, ltb-true, leb-true}
use Rattle.std.proofs.lemmas.Bool.{and_parts, cond-true, cond-false, cases_lt}
use Rattle.std.proofs.lemmas.Bool.Decides.{nat_tests}
use Rattle.std.proofs.lemmas.List.{length-replicate, get_or_append_left, get_or-append_right, get_or-take, get_or-replicate, get_or-drop}
use Rattle.rz_image.specs.declared.region.Region.{Region}
use Rattle.rz_image.specs.Perm.{reads, writes, executes}
use Rattle.rz_image.specs.Memory.{Cell, Regions, Range, SameCell, Alike, contains, cell_in, cell_at, put_byte, put_in, reopened, set_open, bytes_in}
use Rattle.rz_image.specs.Laws.Puts.{within}
use Rattle.rz_image.specs.Laws.Alike.{StandsPut}
use Rattle.rz_image.specs.Laws.Cells.{apart, inside}
use Rattle.rz_sys.specs.Heap.{heap_size, opened_to, IsHeap, IsHeapAt, HasHeap, open_at}
use Rattle.rz_sys.specs.declared.world.World.{World}

-- the heap begins at the first break
has_break : (fb brk : ℕ) (r : Region) → IsHeap fb brk r → contains r fb ≡ true
has_break fb brk r h = let b = h.base in let s = h.size in inside r fb (omega arith) (omega arith)

-- opening by the region's number is opening by its address
pub set_open-open_at : (fb brk n : ℕ) (m : Regions) (i : ℕ) → IsHeapAt fb brk m i → set_open m i n ≡ open_at m fb n
unfolding open_at
set_open-open_at fb brk n [] i h = absurd h
set_open-open_at fb brk n (r ∷ rs) zero h = sym (cond-true (contains r fb) _ _ (has_break fb brk r h))
set_open-open_at fb brk n (r ∷ rs) (suc i) h =
    ap (λ l. r ∷ l) (set_open-open_at fb brk n rs i h.1) ∙ sym (cond-false (contains r fb) _ _ (apart r fb (inr h.0)))

-- the heap's region is there, with all its bytes
pub heap_there : (fb brk : ℕ) (m : Regions) (i : ℕ) → IsHeapAt fb brk m i → i < length m
heap_there fb brk [] i h = absurd h
heap_there fb brk (r ∷ rs) zero h = omega arith
heap_there fb brk (r ∷ rs) (suc i) h = let t = heap_there fb brk rs i h.1 in omega (arith, t)

pub heap_bytes : (fb brk : ℕ) (m : Regions) (i : ℕ) → IsHeapAt fb brk m i → length (bytes_in m i) ≡ heap_size
heap_bytes fb brk [] i h = absurd h
heap_bytes fb brk (r ∷ rs) zero h = h.size
heap_bytes fb brk (r ∷ rs) (suc i) h = heap_bytes fb brk rs i h.1

-- a region that is open up to another place keeps its length
length-reopened : (n : ℕ) (r : Region) → n ≤ length r.bytes → r.opened ≤ length r.bytes → length (reopened n r).bytes ≡ length r.bytes
length-reopened n r le fits =
    let back : List ℕ = drop (max n r.opened) r.bytes in
    let gap : List ℕ = replicate (r.opened - n) 0 in
    let a = length-append (take n r.bytes) (gap ++ back) in
    let b = length-append gap back in
    let c = length-take n r.bytes in
    let d = length-drop (max n r.opened) r.bytes in
    let e : length gap ≡ r.opened - n = length-replicate (r.opened - n) 0 in
    omega (arith, a, b, c, d, e)

-- its bytes up to that place stay
reopened_below : (n : ℕ) (r : Region) (k : ℕ) → n ≤ length r.bytes → k < n → get_or (reopened n r).bytes k 0 ≡ get_or r.bytes k 0
reopened_below n r k le lt =
    let front : k < length (take n r.bytes) = omega (arith, length-take n r.bytes) in
    get_or_append_left (take n r.bytes) _ 0 k front ∙ get_or-take n r.bytes k 0 lt

-- and those past it are zeros, where those past the open ones were
reopened_past : (n : ℕ) (r : Region) (k : ℕ) → n ≤ length r.bytes → ((j : ℕ) → r.opened ≤ j → get_or r.bytes j 0 ≡ 0) → n ≤ k → get_or (reopened n r).bytes k 0 ≡ 0
reopened_past n r k le zeros past =
    let front : length (take n r.bytes) ≡ n = omega (arith, length-take n r.bytes) in
    get_or-append_right (take n r.bytes) (gap ++ back) n k 0 front past ∙ ⊎_elim in_gap in_back (cases_lt (k - n) (r.opened - n))
  where
    gap : List ℕ
    gap = replicate (r.opened - n) 0

    back : List ℕ
    back = drop (max n r.opened) r.bytes

    long : length gap ≡ r.opened - n
    long = length-replicate (r.opened - n) 0

    in_gap : k - n < r.opened - n → get_or (gap ++ back) (k - n) 0 ≡ 0
    in_gap lt = get_or_append_left gap back 0 (k - n) (omega (arith, long)) ∙ get_or-replicate (r.opened - n) (k - n) 0 0 lt

    in_back : r.opened - n ≤ k - n → get_or (gap ++ back) (k - n) 0 ≡ 0
    in_back ge =
        get_or-append_right gap back (r.opened - n) (k - n) 0 long ge
        ∙ get_or-drop (max n r.opened) r.bytes (k - n - (r.opened - n)) 0
        ∙ zeros (max n r.opened + (k - n - (r.opened - n))) (omega arith)

-- the heap stays one under a put of a byte
heap_put : (fb brk : ℕ) (r : Region) (k b : ℕ) → IsHeap fb brk r → IsHeap fb brk (put_in r k b)
heap_put fb brk r k b h = go (nat_lt k r.opened && writes r.perm) refl
  where
    go : (w : Bool) → (nat_lt k r.opened && writes r.perm) ≡ w → IsHeap fb brk (if w then record r { bytes = set r.bytes k b } else r)
    go true e =
        let lt = ltb-true k r.opened (and_parts (nat_lt k r.opened) (writes r.perm) e).0 in
        record {
          base = h.base;
          size = length-set r.bytes k b ∙ h.size;
          opened = h.opened;
          perm = h.perm;
          zeros = λ j le. let ne : j ≢ k = λ x. omega (arith, lt, le, x) in get_or-set_other r.bytes k j b 0 ne ∙ h.zeros j le;
        }
    go false e = h

heap_in_put : (fb brk a b : ℕ) (m : Regions) (i : ℕ) → IsHeapAt fb brk m i → IsHeapAt fb brk (put_byte m a b) i
unfolding put_byte
heap_in_put fb brk a b [] i h = h
heap_in_put fb brk a b (r ∷ rs) zero h = go (contains r a)
  where
    go : (c : Bool) → IsHeapAt fb brk (if c then put_in r (a - r.base) b ∷ rs else (r ∷ put_byte rs a b)) zero
    go true = heap_put fb brk r (a - r.base) b h
    go false = h
heap_in_put fb brk a b (r ∷ rs) (suc i) h = go (contains r a) (heap_in_put fb brk a b rs i h.1)
  where
    ends : (w : Bool) → (if w then record r { bytes = set r.bytes (a - r.base) b } else r).base + length (if w then record r { bytes = set r.bytes (a - r.base) b } else r).bytes ≤ fb
    ends true = let e = length-set r.bytes (a - r.base) b in omega (arith, e, h.0)
    ends false = h.0

    go : (c : Bool) → IsHeapAt fb brk (put_byte rs a b) i → IsHeapAt fb brk (if c then put_in r (a - r.base) b ∷ rs else (r ∷ put_byte rs a b)) (suc i)
    go true ih = (ends (nat_lt (a - r.base) r.opened && writes r.perm), h.1)
    go false ih = (h.0, ih)

pub heap_at_put : (fb brk i : ℕ) → StandsPut (λ m. IsHeapAt fb brk m i)
heap_at_put fb brk i m a b h = heap_in_put fb brk a b m i h

-- opening by address leaves the heap where it is, open up to the page end of the new break
pub heap_at_open : (fb brk brk' n : ℕ) (m : Regions) (i : ℕ) → opened_to fb brk ≤ heap_size → n ≤ heap_size → n ≡ opened_to fb brk' → IsHeapAt fb brk m i → IsHeapAt fb brk' (open_at m fb n) i
unfolding open_at
heap_at_open fb brk brk' n [] i old new to h = absurd h
heap_at_open fb brk brk' n (r ∷ rs) zero old new to h =
    let size = h.size in
    let opened = h.opened in
    let le : n ≤ length r.bytes = omega arith in
    let fits : r.opened ≤ length r.bytes = omega arith in
    let P : Regions → Type 0 = λ l. IsHeapAt fb brk' l 0 in
    let there : IsHeap fb brk' (reopened n r) = record {
      base = h.base;
      size = length-reopened n r le fits ∙ h.size;
      opened = to;
      perm = h.perm;
      zeros = λ k past. reopened_past n r k le h.zeros past;
    } in
    subst P (sym (cond-true (contains r fb) (reopened n r ∷ rs) (r ∷ open_at rs fb n) (has_break fb brk r h))) there
heap_at_open fb brk brk' n (r ∷ rs) (suc i) old new to h =
    let P : Regions → Type 0 = λ l. IsHeapAt fb brk' l (suc i) in
    subst P (sym (cond-false (contains r fb) (reopened n r ∷ rs) (r ∷ open_at rs fb n) (apart r fb (inr h.0)))) (h.0, heap_at_open fb brk brk' n rs i old new to h.1)

-- ---- cells

-- the cell at an address of the heap, open up to n bytes
abbrev pub heap_cell : ℕ → ℕ → Cell → Cell
heap_cell k n c =
    record { byte = if nat_lt k n then c.byte else 0; read = nat_lt k n; write = nat_lt k n; execute = false }

abbrev pub in_heap : ℕ → ℕ → Bool
in_heap fb a = nat_le fb a && nat_lt a (fb + heap_size)

abbrev pub opened_cell : ℕ → ℕ → ℕ → Cell → Cell
opened_cell fb n a c = if in_heap fb a then heap_cell (a - fb) n c else c

and_true : (b : Bool) → (b && true) ≡ b
and_true true = refl
and_true false = refl

and_false : (b : Bool) → (b && false) ≡ false
and_false true = refl
and_false false = refl

-- two tests that agree with a third
same_tests : (p q s : Bool) (x y z : Cell) (f : Cell → Cell) → p ≡ q → s ≡ q → (q ≡ true → x ≡ f z) → (if p then x else y) ≡ (if q then f (if s then z else y) else (if s then z else y))
same_tests true true true x y z f e d h = h refl
same_tests false false false x y z f e d h = refl
same_tests true false s x y z f e d h = cc
same_tests false true s x y z f e d h = cc
same_tests true true false x y z f e d h = cc
same_tests false false true x y z f e d h = cc

-- a cell of the heap's region that is open up to another place
reopened_cell : (fb brk n : ℕ) (r : Region) (k : ℕ) → n ≤ length r.bytes → IsHeap fb brk r → cell_in (reopened n r) k ≡ heap_cell k n (cell_in r k)
reopened_cell fb brk n r k le h =
    let byte : get_or (reopened n r).bytes k 0 ≡ (if nat_lt k n then get_or r.bytes k 0 else 0) =
    ⊎_elim
    (λ lt. reopened_below n r k le lt ∙ sym (cond-true (nat_lt k n) _ _ (lt-ltb k n lt)))
    (λ ge. reopened_past n r k le h.zeros ge ∙ sym (cond-false (nat_lt k n) _ _ (le-ltb k n ge)))
    (cases_lt k n) in
    let read : (nat_lt k n && reads r.perm) ≡ nat_lt k n = ap (λ p. nat_lt k n && reads p) h.perm ∙ and_true (nat_lt k n) in
    let write : (nat_lt k n && writes r.perm) ≡ nat_lt k n = ap (λ p. nat_lt k n && writes p) h.perm ∙ and_true (nat_lt k n) in
    let execute : (nat_lt k n && executes r.perm) ≡ false = ap (λ p. nat_lt k n && executes p) h.perm ∙ and_false (nat_lt k n) in
    let made : ℕ → Bool → Bool → Bool → Cell = λ b v w x. record { byte = b; read = v; write = w; execute = x } in
    ap₂ (λ b v. made b v (nat_lt k n && writes r.perm) (nat_lt k n && executes r.perm)) byte read
    ∙ ap₂ (λ w x. made (if nat_lt k n then get_or r.bytes k 0 else 0) (nat_lt k n) w x) write execute

-- what stands at an address after the heap is opened
pub cell_at-open : (fb brk n : ℕ) (m : Regions) (i a : ℕ) → opened_to fb brk ≤ heap_size → n ≤ heap_size → IsHeapAt fb brk m i → cell_at (open_at m fb n) a ≡ opened_cell fb n a (cell_at m a)
unfolding cell_at open_at
cell_at-open fb brk n [] i a old new h = absurd h
cell_at-open fb brk n (r ∷ rs) zero a old new h =
    let size = h.size in
    let opened = h.opened in
    let le : n ≤ length r.bytes = omega arith in
    let fits : r.opened ≤ length r.bytes = omega arith in
    let H : ℕ → ℕ → Bool = λ x y. nat_le x a && nat_lt a (x + y) in
    let here : contains r a ≡ in_heap fb a = ap₂ H h.base h.size in
    let there : contains (reopened n r) a ≡ in_heap fb a = ap₂ H h.base (length-reopened n r le fits ∙ h.size) in
    let same : cell_in (reopened n r) (a - r.base) ≡ heap_cell (a - fb) n (cell_in r (a - r.base)) =
    reopened_cell fb brk n r (a - r.base) le h ∙ ap (λ b. heap_cell (a - b) n (cell_in r (a - r.base))) h.base in
    ap (λ l. cell_at l a) (cond-true (contains r fb) (reopened n r ∷ rs) (r ∷ open_at rs fb n) (has_break fb brk r h))
    ∙ same_tests (contains (reopened n r) a) (in_heap fb a) (contains r a) (cell_in (reopened n r) (a - r.base)) (cell_at rs a) (cell_in r (a - r.base)) (heap_cell (a - fb) n) there here (λ e. same)
cell_at-open fb brk n (r ∷ rs) (suc i) a old new h =
    ap (λ l. cell_at l a) (cond-false (contains r fb) (reopened n r ∷ rs) (r ∷ open_at rs fb n) (apart r fb (inr h.0)))
    ∙ go (contains r a) refl (cell_at-open fb brk n rs i a old new h.1)
  where
    go : (b : Bool) → contains r a ≡ b → cell_at (open_at rs fb n) a ≡ opened_cell fb n a (cell_at rs a) → (if b then cell_in r (a - r.base) else cell_at (open_at rs fb n) a) ≡ opened_cell fb n a (if b then cell_in r (a - r.base) else cell_at rs a)
    go true e ih =
        let p = within r a e in
        let low : a < fb = omega (arith, p.1, h.0) in
        let out : in_heap fb a ≡ false = grind (arith, nat_tests, low) in
        sym (cond-false (in_heap fb a) _ _ out)
    go false e ih = ih

-- nothing of the heap may be executed
pub heap_executes : (fb brk : ℕ) (m : Regions) (i a : ℕ) → IsHeapAt fb brk m i → in_heap fb a ≡ true → (cell_at m a).execute ≡ false
unfolding cell_at
heap_executes fb brk [] i a h e = absurd h
heap_executes fb brk (r ∷ rs) zero a h e =
    let H : ℕ → ℕ → Bool = λ x y. nat_le x a && nat_lt a (x + y) in
    let here : contains r a ≡ true = ap₂ H h.base h.size ∙ e in
    let closed : (nat_lt (a - r.base) r.opened && executes r.perm) ≡ false = ap (λ p. nat_lt (a - r.base) r.opened && executes p) h.perm ∙ and_false (nat_lt (a - r.base) r.opened) in
    ap (λ (c : Cell). c.execute) (cond-true (contains r a) (cell_in r (a - r.base)) (cell_at rs a) here) ∙ closed
heap_executes fb brk (r ∷ rs) (suc i) a h e =
    let p = and_parts (nat_le fb a) (nat_lt a (fb + heap_size)) e in
    let low = leb-true fb a p.0 in
    let away : contains r a ≡ false = apart r a (inr (omega (arith, low, h.0))) in
    ap (λ (c : Cell). c.execute) (cond-false (contains r a) (cell_in r (a - r.base)) (cell_at rs a) away) ∙ heap_executes fb brk rs i a h.1 e

-- ---- the heap of a world

-- a break in the heap opens no more than it has
pub low_pages : (fb brk : ℕ) → fb % 4096 ≡ 0 → brk ≤ fb + heap_size → opened_to fb brk ≤ heap_size
low_pages fb brk page le = omega arith

pub opened_low : (m : Regions) (w : World) → HasHeap m w → opened_to w.first_break w.brk ≤ heap_size
opened_low m w h = low_pages w.first_break w.brk h.page h.below

-- a property of memory that stands where the heap is opened
abbrev pub StandsOpen : (Regions → Type 0) → World → Type 0
StandsOpen P w = (m : Regions) (n : ℕ) → HasHeap m w → n ≤ heap_size → P m → P (open_at m w.first_break n)

-- what stands at an address after the heap is opened
pub cell_opened : (m : Regions) (w : World) (n a : ℕ) → HasHeap m w → n ≤ heap_size → cell_at (open_at m w.first_break n) a ≡ opened_cell w.first_break n a (cell_at m a)
cell_opened m w n a h le = cell_at-open w.first_break w.brk n m w.heap a (opened_low m w h) le h.heap

-- the heap stays one under a put of a byte
pub has_heap_put : (w : World) → StandsPut (λ m. HasHeap m w)
has_heap_put w m a b h =
    record { page = h.page; low = h.low; above = h.above; below = h.below; heap = heap_at_put w.first_break w.brk w.heap m a b h.heap }

-- memories that are alike outside a range stay so where the heap of both is opened
pub alike_open : (r : Range) (fb brk n : ℕ) (m m' : Regions) (i j : ℕ) → opened_to fb brk ≤ heap_size → n ≤ heap_size → IsHeapAt fb brk m i → IsHeapAt fb brk m' j → Alike r m m' → Alike r (open_at m fb n) (open_at m' fb n)
alike_open r fb brk n m m' i j old new h h' alike = record { at = λ a out. subst₂ SameCell (sym (cell_at-open fb brk n m i a old new h)) (sym (cell_at-open fb brk n m' j a old new h')) (same a (alike.at a out)) }
  where
    same : (a : ℕ) → SameCell (cell_at m a) (cell_at m' a) → SameCell (opened_cell fb n a (cell_at m a)) (opened_cell fb n a (cell_at m' a))
    same a s = go (in_heap fb a)
      where
        go : (b : Bool) → SameCell (if b then heap_cell (a - fb) n (cell_at m a) else cell_at m a) (if b then heap_cell (a - fb) n (cell_at m' a) else cell_at m' a)
        go true = record { byte = ap (λ x. if nat_lt (a - fb) n then x else 0) s.byte; read = refl; write = refl }
        go false = s
