-- Alignments: a power of two and a page, of which one divides the other.
use Rattle.std.proofs.Common.{◌≡◌, ℕ, zero, suc, ◌+◌, ◌*◌, ◌/◌, ◌%◌, ◌^◌, ◌<◌, ◌≤◌, ◌⊎◌, inl, inr, ⊎_elim, min, refl, sym, ap, ◌∙◌, subst, arith}
use Rattle.std.specs.Prelude.{count_ones}
use Rattle.std.specs.Int.Count.{ones_step}
use Rattle.std.proofs.lemmas.Nat.{zero_from_ones, ones_le_self}
use Rattle.std.proofs.lemmas.Nat.Gcd.{dvd_of_mod-eq-zero}
use Rattle.std.proofs.lemmas.Bool.{cases_lt}
use Rattle.std.proofs.Math.Nat.{add-mul-mod_self_right, mod-mod_of_dvd, mul-mod_left, mul_assoc, pow-suc}

-- b is so many times a
abbrev pub IsMultiple : ℕ → ℕ → Type 0
IsMultiple a b = (q : ℕ) × (b ≡ q * a)

-- of a power of two and 2 ^ j one divides the other
powers_divide : (d a : ℕ) → a ≤ d → count_ones a ≡ 1 → (j : ℕ) → IsMultiple a (2 ^ j) ⊎ IsMultiple (2 ^ j) a
powers_divide d a h e zero = inr (a, omega arith)
powers_divide zero a h e (suc j) = let few = ones_le_self a in absurd (omega arith)
powers_divide (suc d) a h e (suc j) = go (a % 2) refl (λ one. powers_divide d (a / 2) (omega arith) one j)
  where
    twice : a % 2 ≡ 0 → a ≡ a / 2 * 2
    twice even = omega arith

    up : a % 2 ≡ 0 → IsMultiple (a / 2) (2 ^ j) → IsMultiple a (2 ^ suc j) ⊎ IsMultiple (2 ^ suc j) a
    up even m = inl (m.0, pow-suc 2 j ∙ ap (λ n. n * 2) m.1 ∙ mul_assoc m.0 (a / 2) 2 ∙ ap (λ n. m.0 * n) (sym (twice even)))

    down : a % 2 ≡ 0 → IsMultiple (2 ^ j) (a / 2) → IsMultiple a (2 ^ suc j) ⊎ IsMultiple (2 ^ suc j) a
    down even m = inr (m.0, twice even ∙ ap (λ n. n * 2) m.1 ∙ mul_assoc m.0 (2 ^ j) 2 ∙ ap (λ n. m.0 * n) (sym (pow-suc 2 j)))

    go : (r : ℕ) → a % 2 ≡ r → (count_ones (a / 2) ≡ 1 → IsMultiple (a / 2) (2 ^ j) ⊎ IsMultiple (2 ^ j) (a / 2)) → IsMultiple a (2 ^ suc j) ⊎ IsMultiple (2 ^ suc j) a
    go zero even ih =
        let s = ones_step a in
        let one : count_ones (a / 2) ≡ 1 = omega arith in
        ⊎_elim (up even) (down even) (ih one)
    go (suc r) odd ih =
        let s = ones_step a in
        let none : count_ones (a / 2) ≡ 0 = omega arith in
        let low : a / 2 ≡ 0 = zero_from_ones (a / 2) none in
        let one : a ≡ 1 = omega arith in
        inl (2 ^ suc j, subst (λ n. 2 ^ suc j ≡ 2 ^ suc j * n) (sym one) (omega arith))

-- an alignment of a page or less divides a page
small_aligned : (a v o : ℕ) → 1 < a → a ≤ 4096 → count_ones a ≡ 1 → v % a ≡ o % a → v % a ≡ (o + 4096) % a
small_aligned a v o some small one e = ⊎_elim within whole (powers_divide a a (omega arith) one 12)
  where
    within : IsMultiple a 4096 → v % a ≡ (o + 4096) % a
    within m = e ∙ sym (add-mul-mod_self_right o m.0 a) ∙ ap (λ n. (o + n) % a) (sym m.1)

    whole : IsMultiple 4096 a → v % a ≡ (o + 4096) % a
    whole m =
        let n = m.1 in
        let page : a ≡ 4096 = omega arith in
        let f : v % 4096 ≡ o % 4096 = subst (λ k. v % k ≡ o % k) page e in
        let g : v % 4096 ≡ (o + 4096) % 4096 = omega arith in
        subst (λ k. v % k ≡ (o + 4096) % k) (sym page) g

-- an alignment above a page is so many pages
large_aligned : (a v o : ℕ) → 4096 < a → count_ones a ≡ 1 → v % a ≡ o % a → v % 4096 ≡ (o + 4096) % 4096
large_aligned a v o large one e = ⊎_elim (λ m. absurd (short m.0 m.1)) pages (powers_divide a a (omega arith) one 12)
  where
    short : (q : ℕ) → 4096 ≡ q * a → ⊥
    short zero m = omega arith
    short (suc q) m = omega arith

    pages : IsMultiple 4096 a → v % 4096 ≡ (o + 4096) % 4096
    pages m =
        let whole : a % 4096 ≡ 0 = ap (λ n. n % 4096) m.1 ∙ mul-mod_left m.0 4096 in
        let cut : (n : ℕ) → n % a % 4096 ≡ n % 4096 = λ n. mod-mod_of_dvd 4096 n (dvd_of_mod-eq-zero 4096 whole) in
        let f : v % 4096 ≡ o % 4096 = sym (cut v) ∙ ap (λ n. n % 4096) e ∙ cut o in
        omega arith

-- address and offset still agree where the offset grows by a page and the alignment is cut to a page
pub aligned_on : (a v o : ℕ) → 1 < a → count_ones a ≡ 1 → v % a ≡ o % a → v % min a 4096 ≡ (o + 4096) % min a 4096
aligned_on a v o some one e = ⊎_elim large small (cases_lt 4096 a)
  where
    small : a ≤ 4096 → v % min a 4096 ≡ (o + 4096) % min a 4096
    small h = let m : min a 4096 ≡ a = omega arith in subst (λ n. v % n ≡ (o + 4096) % n) (sym m) (small_aligned a v o some h one e)

    large : 4096 < a → v % min a 4096 ≡ (o + 4096) % min a 4096
    large h = let m : min a 4096 ≡ 4096 = omega arith in subst (λ n. v % n ≡ (o + 4096) % n) (sym m) (large_aligned a v o h one e)

-- and the lesser of the two is a power of two
pub lesser_power : (a : ℕ) → count_ones a ≡ 1 → count_ones 4096 ≡ 1 → count_ones (min a 4096) ≡ 1
lesser_power a one page = ⊎_elim large small (cases_lt 4096 a)
  where
    small : a ≤ 4096 → count_ones (min a 4096) ≡ 1
    small h = let m : min a 4096 ≡ a = omega arith in subst (λ n. count_ones n ≡ 1) (sym m) one

    large : 4096 < a → count_ones (min a 4096) ≡ 1
    large h = let m : min a 4096 ≡ 4096 = omega arith in subst (λ n. count_ones n ≡ 1) (sym m) page
