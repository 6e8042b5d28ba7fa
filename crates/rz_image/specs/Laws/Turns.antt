-- One turn of the loops over memory.
use Rattle.std.proofs.Common.{◌≡◌, ℕ, zero, suc, ◌+◌, ◌-◌, ◌^◌, ◌<◌, ◌≤◌, Bool, true, false, ◌&&◌, if◌then◌else◌, nat_le, List, [], ◌∷◌, ◌++◌, length, set, take, Some, None, refl, sym, ap, ap₂, ◌∙◌, arith, le-ltb, append_assoc, append-nil, add-one, take-suc-set, mod-eq_of_lt}
use Rattle.std.proofs.lemmas.Bool.{cond-false}
use Rattle.rz_image.specs.Memory.{Cell, Regions, RegionsFit, wrap, refused, bytes_at, no_cell, contains, cell_at, code_of, fetched, fetch}

and_false : (b : Bool) → (b && false) ≡ false
and_false true = refl
and_false false = refl

-- nothing stands past the last address
pub cell_at-past : (m : Regions) (a : ℕ) → RegionsFit m → 2 ^ 64 ≤ a → cell_at m a ≡ no_cell
unfolding cell_at
cell_at-past [] a fit h = refl
cell_at-past (r ∷ rs) a fit h =
    let low = fit.0 in
    let e : contains r a ≡ false = ap (λ b. nat_le r.base a && b) (le-ltb a (r.base + length r.bytes) (omega arith)) ∙ and_false (nat_le r.base a) in
    cond-false (contains r a) _ _ e ∙ cell_at-past rs a fit.1 h

-- where the byte may not be executed, the list ends
pub fetch_ends : (m : Regions) (a n : ℕ) → code_of (cell_at m a) ≡ None → fetch m a n ≡ []
unfolding fetch
fetch_ends m a zero h = refl
fetch_ends m a (suc n) h = ap (λ o. fetched o (fetch m (a + 1) n)) h

pub fetch_turn : (m : Regions) (at n : ℕ) (out : List ℕ) (b : ℕ) → n < 15 → n < length out → code_of (cell_at m (at + n)) ≡ Some b → take (n + 1) (set out n b) ++ fetch m (at + (n + 1)) (15 - (n + 1)) ≡ take n out ++ fetch m (at + n) (15 - n)
unfolding fetch
fetch_turn m at n out b h k e =
    let s : 15 - n ≡ suc (15 - (n + 1)) = omega arith in
    let t : at + n + 1 ≡ at + (n + 1) = omega arith in
    let f : fetch m (at + n) (15 - n) ≡ b ∷ fetch m (at + (n + 1)) (15 - (n + 1)) =
    ap (fetch m (at + n)) s ∙ ap (λ o. fetched o (fetch m (at + n + 1) (15 - (n + 1)))) e ∙ ap (λ a. b ∷ fetch m a (15 - (n + 1))) t in
    let g : take (n + 1) (set out n b) ≡ take n out ++ b ∷ [] = rw add-one (take-suc-set out n b k) in
    ap (λ l. l ++ fetch m (at + (n + 1)) (15 - (n + 1))) g ∙ append_assoc (take n out) (b ∷ []) _ ∙ ap (λ l. take n out ++ l) (sym f)

fetch-past : (m : Regions) (a n : ℕ) → RegionsFit m → 2 ^ 64 ≤ a → fetch m a n ≡ []
fetch-past m a n fit h = fetch_ends m a n (ap code_of (cell_at-past m a fit h))

pub fetch_stops : (m : Regions) (at n : ℕ) (out : List ℕ) → RegionsFit m → 2 ^ 64 ≤ at + n → take n out ++ fetch m (at + n) (15 - n) ≡ fetch m at 15 → take n out ≡ fetch m at 15
fetch_stops m at n out fit h left = sym (append-nil (take n out)) ∙ ap (λ l. take n out ++ l) (sym (fetch-past m (at + n) (15 - n) fit h)) ∙ left

pub code_of_none : (c : Cell) → c.execute ≡ false → code_of c ≡ None
code_of_none c e = ap (λ b. if b then Some c.byte else None) e

pub code_of_execute : (c : Cell) → c.execute ≡ true → code_of c ≡ Some c.byte
code_of_execute c e = ap (λ b. if b then Some c.byte else None) e

-- one address further
pub refused_turn : (test : Cell → Bool) (m : Regions) (at n k : ℕ) → k < n → at + n ≤ 2 ^ 64 → test (cell_at m (at + k)) ≡ true → refused test m (at + (k + 1)) (n - (k + 1)) ≡ refused test m (at + k) (n - k)
unfolding refused
refused_turn test m at n k lt fit e =
    let low : at + k < 2 ^ 64 = omega arith in
    let s : n - k ≡ suc (n - (k + 1)) = omega arith in
    let t : at + (k + 1) ≡ at + k + 1 = omega arith in
    let here : test (cell_at m (wrap (at + k))) ≡ true = ap (λ a. test (cell_at m a)) (mod-eq_of_lt low) ∙ e in
    ap (λ a. refused test m a (n - (k + 1))) t
    ∙ sym (ap (λ b. if b then refused test m (at + k + 1) (n - (k + 1)) else Some (wrap (at + k))) here)
    ∙ ap (refused test m (at + k)) (sym s)

pub bytes_turn : (m : Regions) (at n k : ℕ) (out : List ℕ) (b : ℕ) → k < n → at + n ≤ 2 ^ 64 → b ≡ (cell_at m (at + k)).byte → (out ++ b ∷ []) ++ bytes_at m (at + (k + 1)) (n - (k + 1)) ≡ out ++ bytes_at m (at + k) (n - k)
unfolding bytes_at
bytes_turn m at n k out b lt fit e =
    let low : at + k < 2 ^ 64 = omega arith in
    let s : n - k ≡ suc (n - (k + 1)) = omega arith in
    let t : at + (k + 1) ≡ at + k + 1 = omega arith in
    let here : b ≡ (cell_at m (wrap (at + k))).byte = e ∙ ap (λ a. (cell_at m a).byte) (sym (mod-eq_of_lt low)) in
    append_assoc out (b ∷ []) _
    ∙ ap (λ l. out ++ l) (ap₂ (λ x a. x ∷ bytes_at m a (n - (k + 1))) here t ∙ ap (bytes_at m (at + k)) (sym s))
