-- Accesses of many bytes in parts, one after the other, and what a put leaves elsewhere.
use Rattle.std.proofs.Common.{◌≡◌, ℕ, zero, suc, ◌+◌, ◌^◌, ◌<◌, ◌≤◌, ◌⊎◌, inl, inr, Bool, true, false, if◌then◌else◌, List, [], ◌∷◌, ◌++◌, length, Some, None, refl, sym, ap, ap₂, ◌∙◌, arith}
use Rattle.rz_image.specs.Memory.{Cell, Regions, Alike, cell_at, put_byte, put_bytes, bytes_at, refused, wrap}
use Rattle.rz_image.specs.Laws.Puts.{cell_at-put_other}

-- bytes of two parts
pub bytes_parts : (m : Regions) (a j k : ℕ) → bytes_at m a (j + k) ≡ bytes_at m a j ++ bytes_at m (a + j) k
unfolding bytes_at
bytes_parts m a zero k =
    let here : a ≡ a + 0 = omega arith in
    let all : 0 + k ≡ k = omega arith in
    ap₂ (λ x n. bytes_at m x n) here all
bytes_parts m a (suc j) k =
    let next : a + 1 + j ≡ a + suc j = omega arith in
    let all : suc j + k ≡ suc (j + k) = omega arith in
    ap (bytes_at m a) all
    ∙ ap (λ l. (cell_at m (wrap a)).byte ∷ l) (bytes_parts m (a + 1) j k ∙ ap (λ x. bytes_at m (a + 1) j ++ bytes_at m x k) next)

-- puts of two parts
pub put_parts : (m : Regions) (a : ℕ) (xs ys : List ℕ) → put_bytes m a (xs ++ ys) ≡ put_bytes (put_bytes m a xs) (a + length xs) ys
unfolding put_bytes
put_parts m a [] ys = let e : a ≡ a + 0 = omega arith in ap (λ x. put_bytes m x ys) e
put_parts m a (x ∷ xs) ys =
    let e : a + 1 + length xs ≡ a + suc (length xs) = omega arith in
    put_parts (put_byte m (wrap a) x) (a + 1) xs ys ∙ ap (λ n. put_bytes (put_bytes (put_byte m (wrap a) x) (a + 1) xs) n ys) e

some_none : (x : ℕ) → Some x ≡ None → ⊥
some_none x e = cc

-- where nothing of two parts is refused, nothing of either is
pub none_refused : (test : Cell → Bool) (m : Regions) (a j k : ℕ) → refused test m a (j + k) ≡ None → (refused test m a j ≡ None) × (refused test m (a + j) k ≡ None)
unfolding refused
none_refused test m a zero k h =
    let here : a + 0 ≡ a = omega arith in
    let all : k ≡ 0 + k = omega arith in
    (refl, ap₂ (λ x n. refused test m x n) here all ∙ h)
none_refused test m a (suc j) k h =
    let all : suc (j + k) ≡ suc j + k = omega arith in
    go (test (cell_at m (wrap a))) (ap (refused test m a) all ∙ h) (λ e. none_refused test m (a + 1) j k e)
  where
    go : (b : Bool) → (if b then refused test m (a + 1) (j + k) else Some (wrap a)) ≡ None
        → (refused test m (a + 1) (j + k) ≡ None → (refused test m (a + 1) j ≡ None) × (refused test m (a + 1 + j) k ≡ None))
        → ((if b then refused test m (a + 1) j else Some (wrap a)) ≡ None) × (refused test m (a + suc j) k ≡ None)
    go true e ih =
        let r = ih e in
        let next : a + suc j ≡ a + 1 + j = omega arith in
        (r.0, ap (λ x. refused test m x k) next ∙ r.1)
    go false e ih = absurd (some_none (wrap a) e)

-- a put of bytes leaves the cells elsewhere
pub cell_at-puts_other : (m : Regions) (a : ℕ) (bs : List ℕ) (c : ℕ) → a + length bs ≤ 2 ^ 64 → (c < a) ⊎ (a + length bs ≤ c) → cell_at (put_bytes m a bs) c ≡ cell_at m c
unfolding put_bytes
cell_at-puts_other m a [] c fits out = refl
cell_at-puts_other m a (b ∷ bs) c fits out =
    let low : wrap a ≡ a = omega arith in
    cell_at-puts_other (put_byte m (wrap a) b) (a + 1) bs c (omega arith) (elim out [
      | inl l ↦ inl (omega arith)
      | inr r ↦ inr (omega arith)
    ])
    ∙ cell_at-put_other m (wrap a) b c (elim out [
      | inl l ↦ (λ e. omega arith)
      | inr r ↦ (λ e. omega arith)
    ])

-- memory is alike outside the range of a put
pub puts_alike : (m : Regions) (a : ℕ) (bs : List ℕ) → a + length bs ≤ 2 ^ 64 → Alike (record { low = a; high = a + length bs }) m (put_bytes m a bs)
puts_alike m a bs fits = record {
  at = λ c out. (let e = cell_at-puts_other m a bs c fits out in record {
    byte = ap (λ (x : Cell). x.byte) (sym e);
    read = ap (λ (x : Cell). x.read) (sym e);
    write = ap (λ (x : Cell). x.write) (sym e);
  });
}
