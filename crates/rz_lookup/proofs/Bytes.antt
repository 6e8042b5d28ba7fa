-- Words that are read from bytes that stand in memory.
use Rattle.std.proofs.Common.{◌≡◌, ℕ, zero, suc, ◌+◌, ◌*◌, ◌^◌, ◌<◌, ◌≤◌, true, if◌then◌else◌, List, [], ◌∷◌, ◌++◌, length, drop, get_or, Some, None, Ok, refl, sym, ap, ap₂, ◌∙◌, subst, arith, append-nil, mod-eq_of_lt}
use Rattle.byteorder.specs.Endian.{little_bytes, little_number}
use Rattle.byteorder.specs.Numbers.{length-bytes_low_first, little_number-reads_back}
use Rattle.rz_num.specs.declared.width.Width.{Width}
use Rattle.rz_image.specs.Memory.{Cell, Regions, cell_at, bytes_at, refused, is_readable, wrap}
use Rattle.rz_image.specs.Word.{byte_count}
use Rattle.rz_exec.specs.Form.{allowed, read_word}
use Rattle.rz_machine.specs.Tables.{pairs_bytes}
use Rattle.rz_machine.specs.Lookup.{HasBytes}

-- ---- parts of bytes that stand

pub bytes_tail : (m : Regions) (a b : ℕ) (bs : List ℕ) → HasBytes m a (b ∷ bs) → HasBytes m (a + 1) bs
bytes_tail m a b bs h =
    record {
      same = λ k lt. let e : a + suc k ≡ a + 1 + k = omega arith in subst (λ c. (cell_at m c).byte ≡ get_or bs k 0) e (h.same (suc k) (omega arith));
      readable = λ k lt. let e : a + suc k ≡ a + 1 + k = omega arith in subst (λ c. (cell_at m c).read ≡ true) e (h.readable (suc k) (omega arith));
    }

pub bytes_behind : (m : Regions) (a b : ℕ) (xs ys : List ℕ) → a + length xs ≡ b → HasBytes m a (xs ++ ys) → HasBytes m b ys
bytes_behind m a b [] ys e h = let f : a ≡ b = omega (arith, e) in subst (λ c. HasBytes m c ys) f h
bytes_behind m a b (x ∷ xs) ys e h = bytes_behind m (a + 1) b xs ys (omega (arith, e)) (bytes_tail m a x (xs ++ ys) h)

pub bytes_before : (m : Regions) (a : ℕ) (xs ys : List ℕ) → HasBytes m a (xs ++ ys) → HasBytes m a xs
bytes_before m a [] ys h = record { same = λ k lt. absurd (omega arith); readable = λ k lt. absurd (omega arith) }
bytes_before m a (x ∷ xs) ys h =
    let rest = bytes_before m (a + 1) xs ys (bytes_tail m a x (xs ++ ys) h) in
    record { same = same rest; readable = readable rest }
  where
    same : HasBytes m (a + 1) xs → (k : ℕ) → k < suc (length xs) → (cell_at m (a + k)).byte ≡ get_or (x ∷ xs) k 0
    same rest zero lt = h.same 0 (omega arith)
    same rest (suc k) lt = let e : a + 1 + k ≡ a + suc k = omega arith in subst (λ c. (cell_at m c).byte ≡ get_or xs k 0) e (rest.same k (omega arith))

    readable : HasBytes m (a + 1) xs → (k : ℕ) → k < suc (length xs) → (cell_at m (a + k)).read ≡ true
    readable rest zero lt = h.readable 0 (omega arith)
    readable rest (suc k) lt = let e : a + 1 + k ≡ a + suc k = omega arith in subst (λ c. (cell_at m c).read ≡ true) e (rest.readable k (omega arith))

-- ---- a number among them

all_read : (m : Regions) (a : ℕ) (bs : List ℕ) → a + length bs ≤ 2 ^ 64 → HasBytes m a bs → refused is_readable m a (length bs) ≡ None
unfolding refused
all_read m a [] fit h = refl
all_read m a (b ∷ bs) fit h =
    let e : a + 0 ≡ wrap a = let low : a < 2 ^ 64 = omega arith in omega (arith, mod-eq_of_lt low) in
    let here : (cell_at m (wrap a)).read ≡ true = subst (λ c. (cell_at m c).read ≡ true) e (h.readable 0 (omega arith)) in
    ap (λ t. if t then refused is_readable m (a + 1) (length bs) else Some (wrap a)) here ∙ all_read m (a + 1) bs (omega arith) (bytes_tail m a b bs h)

all_same : (m : Regions) (a : ℕ) (bs : List ℕ) → a + length bs ≤ 2 ^ 64 → HasBytes m a bs → bytes_at m a (length bs) ≡ bs
unfolding bytes_at
all_same m a [] fit h = refl
all_same m a (b ∷ bs) fit h =
    let e : a + 0 ≡ wrap a = let low : a < 2 ^ 64 = omega arith in omega (arith, mod-eq_of_lt low) in
    let here : (cell_at m (wrap a)).byte ≡ b = subst (λ c. (cell_at m c).byte ≡ b) e (h.same 0 (omega arith)) in
    ap₂ ◌∷◌ here (all_same m (a + 1) bs (omega arith) (bytes_tail m a b bs h))

-- a number of a width is read
pub read_number : (w : Width) (m : Regions) (a x : ℕ) → a + byte_count w ≤ 2 ^ 64 → x < 256 ^ byte_count w → HasBytes m a (little_bytes (byte_count w) x)
    → read_word m (Some (record { at = a; width = w })) ≡ Ok x
read_number w m a x fit small h =
    let n : ℕ = byte_count w in
    let bs : List ℕ = little_bytes n x in
    let count : length bs ≡ n = length-bytes_low_first 0 n x in
    let ok : refused is_readable m a n ≡ None = ap (refused is_readable m a) (sym count) ∙ all_read m a bs (omega (arith, count)) h in
    let same : bytes_at m a n ≡ bs = ap (bytes_at m a) (sym count) ∙ all_same m a bs (omega (arith, count)) h in
    ap₂ (λ o l. allowed o (little_number n l)) ok (same ∙ sym (append-nil bs)) ∙ ap Ok (little_number-reads_back n x [] small)

-- ---- bytes that stand in another memory

pub bytes_in : (m n : Regions) (a : ℕ) (bs : List ℕ) → ((k : ℕ) → k < length bs → cell_at n (a + k) ≡ cell_at m (a + k)) → HasBytes m a bs → HasBytes n a bs
bytes_in m n a bs same h =
    record {
      same = λ k lt. ap (λ (c : Cell). c.byte) (same k lt) ∙ h.same k lt;
      readable = λ k lt. ap (λ (c : Cell). c.read) (same k lt) ∙ h.readable k lt;
    }

-- ---- pairs

pub pairs_len : (pairs : List (ℕ × ℕ)) → length (pairs_bytes pairs) ≡ 8 * length pairs
pairs_len [] = refl
pairs_len (p ∷ rest) = let e = pairs_len rest in omega (arith, e)

pub pairs_behind : (m : Regions) (a h : ℕ) (pairs : List (ℕ × ℕ)) → h ≤ length pairs → HasBytes m a (pairs_bytes pairs) → HasBytes m (a + 8 * h) (pairs_bytes (drop h pairs))
pairs_behind m a zero pairs le b = let e : a ≡ a + 8 * 0 = omega arith in subst (λ c. HasBytes m c (pairs_bytes pairs)) e b
pairs_behind m a (suc h) [] le b = absurd (omega arith)
pairs_behind m a (suc h) (p ∷ rest) le b =
    let e : a + 8 + 8 * h ≡ a + 8 * suc h = omega arith in
    let next = bytes_behind m (a + 4) (a + 8) (little_bytes 4 p.1) (pairs_bytes rest) (omega arith) (bytes_behind m a (a + 4) (little_bytes 4 p.0) (little_bytes 4 p.1 ++ pairs_bytes rest) (omega arith) b) in
    subst (λ c. HasBytes m c (pairs_bytes (drop h rest))) e (pairs_behind m (a + 8) h rest (omega arith) next)
