-- What opening and closing leave of regions that ascend.
use Rattle.std.proofs.Common.{◌≡◌, ℕ, zero, suc, ◌+◌, ◌-◌, ◌^◌, ◌<◌, ◌≤◌, max, List, [], ◌∷◌, ◌++◌, length, get_or, set, take, drop, replicate, refl, sym, ap, subst, arith, length-append, length-take, length-drop}
use Rattle.std.proofs.lemmas.List.{length-replicate}
use Rattle.rz_image.specs.declared.region.Region.{Region}
use Rattle.rz_image.specs.Memory.{Regions, AscendFrom, bytes_in, reopened, set_open}

pub bytes_in_at : (m : Regions) (i : ℕ) (d : Region) → i < length m → bytes_in m i ≡ (get_or m i d).bytes
bytes_in_at [] i d lt = absurd (omega arith)
bytes_in_at (r ∷ rs) zero d lt = refl
bytes_in_at (r ∷ rs) (suc i) d lt = bytes_in_at rs i d (omega arith)

pub set_open_at : (m : Regions) (i opened : ℕ) (d : Region) → i < length m → set m i (reopened opened (get_or m i d)) ≡ set_open m i opened
set_open_at [] i opened d lt = absurd (omega arith)
set_open_at (r ∷ rs) zero opened d lt = refl
set_open_at (r ∷ rs) (suc i) opened d lt = ap (λ l. r ∷ l) (set_open_at rs i opened d (omega arith))

-- a region keeps its length
length-reopened : (opened : ℕ) (r : Region) → opened ≤ length r.bytes → r.opened ≤ length r.bytes → length (reopened opened r).bytes ≡ length r.bytes
length-reopened opened r le fits =
    let back : List ℕ = drop (max opened r.opened) r.bytes in
    let gap : List ℕ = replicate (r.opened - opened) 0 in
    let a = length-append (take opened r.bytes) (gap ++ back) in
    let b = length-append gap back in
    let c = length-take opened r.bytes in
    let d = length-drop (max opened r.opened) r.bytes in
    let e : length gap ≡ r.opened - opened = length-replicate (r.opened - opened) 0 in
    omega (arith, a, b, c, d, e)

pub ascend_set_open : (m : Regions) (low i opened : ℕ) → AscendFrom low m → i < length m → opened ≤ length (bytes_in m i) → AscendFrom low (set_open m i opened)
ascend_set_open [] low i opened h lt le = absurd (omega arith)
ascend_set_open (r ∷ rs) low zero opened h lt le =
    let P : ℕ → Type 0 = λ n. (low ≤ r.base) × (r.base + n < 2 ^ 64) × (opened ≤ n) × AscendFrom (r.base + n) rs in
    subst P (sym (length-reopened opened r le h.2)) (h.0, h.1, le, h.3)
ascend_set_open (r ∷ rs) low (suc i) opened h lt le = (h.0, h.1, h.2, ascend_set_open rs (r.base + length r.bytes) i opened h.3 (omega arith) le)
