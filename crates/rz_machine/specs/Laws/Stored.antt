-- A word that is stored is read again, whatever is written elsewhere.
use Rattle.std.proofs.Common.{◌≡◌, ◌≢◌, ℕ, zero, suc, ◌+◌, ◌^◌, ◌<◌, ◌≤◌, ◌⊎◌, inl, inr, ⊎_elim, Bool, true, if◌then◌else◌, List, [], ◌∷◌, length, Option, Some, None, Ok, refl, sym, ap, ap₂, ◌∙◌, subst, arith, mod-eq_of_lt}
use Rattle.byteorder.specs.Endian.{little_bytes, little_number}
use Rattle.byteorder.specs.Numbers.{length-bytes_low_first, little_number-reads_back}
use Rattle.rz_num.specs.declared.width.Width.TheVariants.{W64}
use Rattle.rz_image.specs.Memory.{Cell, Regions, Range, Alike, SameCell, SamePerms, IsOutside, IsClear, RangeStands, cell_at, put_byte, put_bytes, bytes_at, refused, is_readable, is_writable, wrap}
use Rattle.rz_image.specs.Laws.Puts.{cell_at-put_same, cell_at-put_other}
use Rattle.rz_exec.specs.Form.{WordAt, allowed, read_word}
use Rattle.rz_machine.specs.Simulates.{HasScratch}
use Rattle.rz_machine.specs.Laws.Code.{perms_put}

-- the word of 64 bits at an address
abbrev pub word : ℕ → Option WordAt
word a = Some (record { at = a; width = W64 })

-- ---- puts elsewhere

pub puts_other : (m : Regions) (a : ℕ) (bs : List ℕ) (c : ℕ) → ((k : ℕ) → k < length bs → c ≢ wrap (a + k)) → cell_at (put_bytes m a bs) c ≡ cell_at m c
unfolding put_bytes
puts_other m a [] c apart = refl
puts_other m a (b ∷ bs) c apart =
    let here : c ≢ wrap a = let e : a + 0 ≡ a = omega arith in subst (λ x. c ≢ wrap x) e (apart 0 (omega arith)) in
    let there : (k : ℕ) → k < length bs → c ≢ wrap (a + 1 + k) = λ k lt. let e : a + suc k ≡ a + 1 + k = omega arith in subst (λ x. c ≢ wrap x) e (apart (suc k) (omega arith)) in
    puts_other (put_byte m (wrap a) b) (a + 1) bs c there ∙ cell_at-put_other m (wrap a) b c here

-- low addresses apart from low bytes
pub puts_low : (m : Regions) (a : ℕ) (bs : List ℕ) (c : ℕ) → a + length bs ≤ 2 ^ 64 → (c < a) ⊎ (a + length bs ≤ c) → cell_at (put_bytes m a bs) c ≡ cell_at m c
puts_low m a bs c fit out =
    puts_other m a bs c (λ k lt e.
    let low : a + k < 2 ^ 64 = omega arith in
    let same : wrap (a + k) ≡ a + k = mod-eq_of_lt low in
    ⊎_elim (λ h. let z : ⊥ = omega (arith, same, e) in z) (λ h. let z : ⊥ = omega (arith, same, e) in z) out)

-- ---- the bytes that were put

puts_bytes : (m : Regions) (a : ℕ) (bs : List ℕ) → a + length bs ≤ 2 ^ 64 → ((k : ℕ) → k < length bs → (cell_at m (a + k)).write ≡ true) → bytes_at (put_bytes m a bs) a (length bs) ≡ bs
unfolding put_bytes bytes_at
puts_bytes m a [] fit w = refl
puts_bytes m a (b ∷ bs) fit w =
    let low : a < 2 ^ 64 = omega arith in
    let same : wrap a ≡ a = mod-eq_of_lt low in
    let m1 = put_byte m (wrap a) b in
    let writes : (cell_at m (wrap a)).write ≡ true = let e : a + 0 ≡ wrap a = omega (arith, same) in subst (λ x. (cell_at m x).write ≡ true) e (w 0 (omega arith)) in
    let out : wrap a < a + 1 = omega (arith, same) in
    let head : (cell_at (put_bytes m1 (a + 1) bs) (wrap a)).byte ≡ b =
    ap (λ (c : Cell). c.byte) (puts_low m1 (a + 1) bs (wrap a) (omega arith) (inl out) ∙ cell_at-put_same m (wrap a) b)
    ∙ ap (λ v. (if v then record (cell_at m (wrap a)) { byte = b } else cell_at m (wrap a)).byte) writes in
    let rest = puts_bytes m1 (a + 1) bs (omega arith) (λ k lt. let e : a + suc k ≡ a + 1 + k = omega arith in let p = perms_put m (wrap a) b (a + 1 + k) in sym p.write ∙ subst (λ x. (cell_at m x).write ≡ true) e (w (suc k) (omega arith))) in
    ap₂ ◌∷◌ head rest

-- ---- permissions

puts_perms : (m : Regions) (a : ℕ) (bs : List ℕ) (c : ℕ) → SamePerms (cell_at m c) (cell_at (put_bytes m a bs) c)
unfolding put_bytes
puts_perms m a [] c = record { read = refl; write = refl; execute = refl }
puts_perms m a (b ∷ bs) c =
    let p = perms_put m (wrap a) b c in
    let q = puts_perms (put_byte m (wrap a) b) (a + 1) bs c in
    record { read = p.read ∙ q.read; write = p.write ∙ q.write; execute = p.execute ∙ q.execute }

all_allowed : (test : Cell → Bool) (m : Regions) (a n : ℕ) → a + n ≤ 2 ^ 64 → ((k : ℕ) → k < n → test (cell_at m (a + k)) ≡ true) → refused test m a n ≡ None
unfolding refused
all_allowed test m a zero fit h = refl
all_allowed test m a (suc n) fit h =
    let low : a < 2 ^ 64 = omega arith in
    let e : a + 0 ≡ wrap a = omega (arith, mod-eq_of_lt low) in
    let here : test (cell_at m (wrap a)) ≡ true = subst (λ x. test (cell_at m x) ≡ true) e (h 0 (omega arith)) in
    ap (λ b. if b then refused test m (a + 1) n else Some (wrap a)) here
    ∙ all_allowed test m (a + 1) n (omega arith) (λ k lt. let f : a + suc k ≡ a + 1 + k = omega arith in subst (λ x. test (cell_at m x) ≡ true) f (h (suc k) (omega arith)))

-- the eight bytes at a low address may be read and written
pub record IsOpen (m : Regions) (a : ℕ) : Type 0 where
  pub low : a + 8 ≤ 2 ^ 64
  pub read : (k : ℕ) → k < 8 → (cell_at m (a + k)).read ≡ true
  pub write : (k : ℕ) → k < 8 → (cell_at m (a + k)).write ≡ true

-- those of the scratch page, where the added range stands
pub is_open : (scratch i : ℕ) (r : Range) (wm m : Regions) → HasScratch scratch r wm → RangeStands r wm m → i + 8 ≤ 4096 → IsOpen m (scratch + i)
is_open scratch i r wm m page stands few =
    record {
      low = let high : r.high ≤ 0x70000000 = page.top in let last : scratch + 4096 ≤ r.high = page.last in omega arith;
      read = λ k lt. sym (perms k lt).read ∙ page.readable (scratch + i + k) (omega arith) (omega arith);
      write = λ k lt. sym (perms k lt).write ∙ page.writable (scratch + i + k) (omega arith) (omega arith);
    }
  where
    perms : (k : ℕ) → k < 8 → SamePerms (cell_at wm (scratch + i + k)) (cell_at m (scratch + i + k))
    perms k lt =
        let first : r.low ≡ scratch = page.first in
        let last : scratch + 4096 ≤ r.high = page.last in
        stands.perms (scratch + i + k) (omega arith, omega arith)

pub allowed_write : (m : Regions) (a : ℕ) → IsOpen m a → refused is_writable m a 8 ≡ None
allowed_write m a h = all_allowed is_writable m a 8 h.low h.write

-- ---- words

pub eight : (v : ℕ) → length (little_bytes 8 v) ≡ 8
eight v = length-bytes_low_first 0 8 v

from_bytes : (v : ℕ) → v < 2 ^ 64 → little_number 8 (little_bytes 8 v) ≡ v
from_bytes v h = little_number-reads_back 8 v [] h

-- what is stored is read
pub word_again : (m : Regions) (a v : ℕ) → IsOpen m a → v < 2 ^ 64 → read_word (put_bytes m a (little_bytes 8 v)) (word a) ≡ Ok v
word_again m a v h fits =
    let m1 = put_bytes m a (little_bytes 8 v) in
    let count : length (little_bytes 8 v) ≡ 8 = eight v in
    let ok : refused is_readable m1 a 8 ≡ None = all_allowed is_readable m1 a 8 h.low (λ k lt. sym (puts_perms m a (little_bytes 8 v) (a + k)).read ∙ h.read k lt) in
    let bytes : bytes_at m1 a 8 ≡ little_bytes 8 v = ap (bytes_at m1 a) (sym count) ∙ puts_bytes m a (little_bytes 8 v) (omega (arith, count, h.low)) (λ k lt. h.write k (omega (arith, count))) in
    ap₂ (λ o bs. allowed o (little_number 8 bs)) ok bytes ∙ ap Ok (from_bytes v fits)

-- equal cells are read alike
same_refused : (test : Cell → Bool) (m n : Regions) (a j : ℕ) → ((k : ℕ) → k < j → cell_at n (wrap (a + k)) ≡ cell_at m (wrap (a + k))) → refused test n a j ≡ refused test m a j
unfolding refused
same_refused test m n a zero h = refl
same_refused test m n a (suc j) h =
    let e : a + 0 ≡ a = omega arith in
    let here : cell_at n (wrap a) ≡ cell_at m (wrap a) = subst (λ x. cell_at n (wrap x) ≡ cell_at m (wrap x)) e (h 0 (omega arith)) in
    let rest = same_refused test m n (a + 1) j (λ k lt. let f : a + suc k ≡ a + 1 + k = omega arith in subst (λ x. cell_at n (wrap x) ≡ cell_at m (wrap x)) f (h (suc k) (omega arith))) in
    ap₂ (λ c o. if test c then o else Some (wrap a)) here rest

same_bytes : (m n : Regions) (a j : ℕ) → ((k : ℕ) → k < j → cell_at n (wrap (a + k)) ≡ cell_at m (wrap (a + k))) → bytes_at n a j ≡ bytes_at m a j
unfolding bytes_at
same_bytes m n a zero h = refl
same_bytes m n a (suc j) h =
    let e : a + 0 ≡ a = omega arith in
    let here : cell_at n (wrap a) ≡ cell_at m (wrap a) = subst (λ x. cell_at n (wrap x) ≡ cell_at m (wrap x)) e (h 0 (omega arith)) in
    let rest = same_bytes m n (a + 1) j (λ k lt. let f : a + suc k ≡ a + 1 + k = omega arith in subst (λ x. cell_at n (wrap x) ≡ cell_at m (wrap x)) f (h (suc k) (omega arith))) in
    ap₂ (λ c bs. c.byte ∷ bs) here rest

same_word : (m n : Regions) (a : ℕ) → ((k : ℕ) → k < 8 → cell_at n (wrap (a + k)) ≡ cell_at m (wrap (a + k))) → read_word n (word a) ≡ read_word m (word a)
same_word m n a h = ap₂ (λ o bs. allowed o (little_number 8 bs)) (same_refused is_readable m n a 8 h) (same_bytes m n a 8 h)

-- a word of the range stays under puts outside the range
pub word_stays_inside : (r : Range) (m : Regions) (a b : ℕ) (bs : List ℕ) → r.low ≤ a → a + 8 ≤ r.high → r.high ≤ 2 ^ 64 → IsClear r b (length bs) → read_word (put_bytes m b bs) (word a) ≡ read_word m (word a)
word_stays_inside r m a b bs low high top clear = same_word m (put_bytes m b bs) a (λ k lt. puts_other m b bs (wrap (a + k)) (λ j less e. apart k lt (wrap (b + j)) (clear j less) e))
  where
    apart : (k : ℕ) → k < 8 → (c : ℕ) → IsOutside r c → wrap (a + k) ≡ c → ⊥
    apart k lt c out e =
        let fit : a + k < 2 ^ 64 = omega arith in
        let same : wrap (a + k) ≡ a + k = mod-eq_of_lt fit in
        ⊎_elim (λ h. let z : ⊥ = omega (arith, same, e) in z) (λ h. let z : ⊥ = omega (arith, same, e) in z) out

-- and under puts of other low words
pub word_stays : (m : Regions) (a b : ℕ) (bs : List ℕ) → a + 8 ≤ 2 ^ 64 → b + length bs ≤ 2 ^ 64 → a + 8 ≤ b → read_word (put_bytes m b bs) (word a) ≡ read_word m (word a)
word_stays m a b bs low fit apart =
    same_word m (put_bytes m b bs) a (λ k lt.
    let lower : a + k < 2 ^ 64 = omega arith in
    let same : wrap (a + k) ≡ a + k = mod-eq_of_lt lower in
    puts_low m b bs (wrap (a + k)) fit (inl (omega (arith, same))))

-- ---- memories alike outside a range

-- a write inside the range changes nothing outside
pub alike_inside : (r : Range) (m n : Regions) (a : ℕ) (bs : List ℕ) → r.low ≤ a → a + length bs ≤ r.high → r.high ≤ 2 ^ 64 → Alike r m n → Alike r m (put_bytes n a bs)
alike_inside r m n a bs low high top h =
    record { at = λ c out. subst (λ x. SameCell (cell_at m c) x) (sym (puts_low n a bs c (omega arith) (⊎_elim (λ o. inl (omega arith)) (λ o. inr (omega arith)) out))) (h.at c out) }
