-- What bytes and the zeros after them are together.
use Rattle.std.proofs.Common.{◌≡◌, ℕ, ◌+◌, ◌-◌, ◌<◌, ◌≤◌, ⊎_elim, List, ◌++◌, length, get_or, take, drop, replicate, min, refl, sym, ap, ap₂, ◌∙◌, arith, length-append, length-take, length-drop, append_assoc}
use Rattle.std.proofs.lemmas.Bool.{cases_lt}
use Rattle.std.proofs.lemmas.List.{length-replicate, replicate-append-replicate, get_or-append_right, get_or_append_left, get_or-replicate, get_or_past, take-append-drop, take-append-le, drop-append-le, drop-replicate, get_or-drop, get_or-take, ext_get_or}

-- bytes, and zeros up to a length
abbrev pub padded : ℕ → List ℕ → List ℕ
padded n held = held ++ replicate (n - length held) 0

pub length-padded : (n : ℕ) (held : List ℕ) → length held ≤ n → length (padded n held) ≡ n
length-padded n held le =
    let zeros : List ℕ = replicate (n - length held) 0 in
    let a = length-append held zeros in
    let b : length zeros ≡ n - length held = length-replicate (n - length held) 0 in
    omega (arith, a, b, le)

-- zeros that come to be held
pub padded-more : (n k : ℕ) (held more : List ℕ) → more ≡ held ++ replicate k 0 → length more ≤ n → padded n more ≡ padded n held
padded-more n k held more is le =
    let zeros : List ℕ = replicate k 0 in
    let a = ap length is ∙ length-append held zeros in
    let b : length zeros ≡ k = length-replicate k 0 in
    let rest : k + (n - length more) ≡ n - length held = omega (arith, a, b, le) in
    ap (λ l. l ++ replicate (n - length more) 0) is ∙ append_assoc held (replicate k 0) (replicate (n - length more) 0)
    ∙ ap (λ l. held ++ l) (replicate-append-replicate k (n - length more) 0 ∙ ap (λ j. replicate j 0) rest)

-- no number but 0
abbrev pub zero_list : ℕ → List ℕ
zero_list n = replicate n 0

zero_at : (n k : ℕ) → get_or (zero_list n) k 0 ≡ 0
zero_at n k = ⊎_elim (λ lt. get_or-replicate n k 0 0 lt) (λ ge. get_or_past (zero_list n) k 0 (let b : length (zero_list n) ≡ n = length-replicate n 0 in omega (arith, b, ge))) (cases_lt k n)

-- a byte of those that are held
pub held_at : (n : ℕ) (held : List ℕ) (k : ℕ) → k < length held → get_or (padded n held) k 0 ≡ get_or held k 0
held_at n held k lt = get_or_append_left held (replicate (n - length held) 0) 0 k lt

-- and one of the zeros
pub zero_past : (n : ℕ) (held : List ℕ) (k : ℕ) → length held ≤ k → get_or (padded n held) k 0 ≡ 0
zero_past n held k ge = get_or-append_right held (replicate (n - length held) 0) (length held) k 0 refl ge ∙ zero_at (n - length held) (k - length held)

-- from a place past what is held on there are zeros
drop_past : (n : ℕ) (held : List ℕ) (k : ℕ) → length held ≤ n → length held ≤ k → drop k (padded n held) ≡ replicate (n - k) 0
drop_past n held k le ge =
    let whole = length-padded n held le in
    let left = length-drop k (padded n held) in
    let zeros : length (zero_list (n - k)) ≡ n - k = length-replicate (n - k) 0 in
    ext_get_or 0 _ _ (omega (arith, whole, left, zeros))
    (λ i lt. get_or-drop k (padded n held) i 0 ∙ zero_past n held (k + i) (omega (arith, ge)) ∙ sym (zero_at (n - k) i))

-- bytes from a place of what is held on
pub run_held : (n : ℕ) (held : List ℕ) (from k : ℕ) → from + k ≤ length held → take k (drop from held) ≡ take k (drop from (padded n held))
run_held n held from k le =
    let left = length-drop from held in
    sym (ap (take k) (drop-append-le from held (replicate (n - length held) 0) (omega (arith, le)))
    ∙ take-append-le k (drop from held) (replicate (n - length held) 0) (omega (arith, left, le)))

-- and zeros past it
pub run_past : (n : ℕ) (held : List ℕ) (from k : ℕ) → length held ≤ n → length held ≤ from → from + k ≤ n → zero_list k ≡ take k (drop from (padded n held))
run_past n held from k le ge fits =
    let whole = length-padded n held le in
    let left = length-drop from (padded n held) in
    let front = length-take k (drop from (padded n held)) in
    let len : length (zero_list k) ≡ k = length-replicate k 0 in
    ext_get_or 0 _ _ (omega (arith, whole, left, front, len, fits))
    (λ i lt. zero_at k i ∙ sym (get_or-take k (drop from (padded n held)) i 0 (omega (arith, lt, len)) ∙ get_or-drop from (padded n held) i 0 ∙ zero_past n held (from + i) (omega (arith, ge))))

-- the first of some zeros
pub zero_front : (k n : ℕ) → take k (zero_list n) ≡ zero_list (length (take k (zero_list n)))
zero_front k n =
    let front = length-take k (zero_list n) in
    let len : length (zero_list (length (take k (zero_list n)))) ≡ length (take k (zero_list n)) = length-replicate (length (take k (zero_list n))) 0 in
    ext_get_or 0 _ _ (sym len) (λ i lt. get_or-take k (zero_list n) i 0 (omega (arith, lt, front)) ∙ zero_at n i ∙ sym (zero_at (length (take k (zero_list n))) i))

-- bytes over those that are held
pub padded-overwrite : (n at : ℕ) (held bytes now : List ℕ) → now ≡ take at held ++ (bytes ++ drop (at + length bytes) held) → at + length bytes ≤ length held → padded n now ≡ take at (padded n held) ++ (bytes ++ drop (at + length bytes) (padded n held))
padded-overwrite n at held bytes now is le =
    let zeros : List ℕ = replicate (n - length held) 0 in
    let back : List ℕ = drop (at + length bytes) held in
    let a = length-append (take at held) (bytes ++ back) in
    let b = length-append bytes back in
    let c = length-take at held in
    let d = length-drop (at + length bytes) held in
    let len : length now ≡ length held = ap length is ∙ omega (arith, a, b, c, d, le) in
    let first = take-append-le at held zeros (omega (arith, le)) in
    let last = drop-append-le (at + length bytes) held zeros le in
    ap₂ (λ l k. l ++ replicate (n - k) 0) is len ∙ append_assoc (take at held) (bytes ++ back) zeros ∙ ap (λ l. take at held ++ l) (append_assoc bytes back zeros)
    ∙ sym (ap₂ (λ x y. x ++ (bytes ++ y)) first last)

-- zeros in the place of bytes of which the last ones aren't held
pub padded-clear : (n from to : ℕ) (held now : List ℕ) → from ≤ length held → length held ≤ to → to ≤ n → now ≡ take from held ++ (replicate (length held - from) 0 ++ drop (length held) held) → padded n now ≡ take from (padded n held) ++ (replicate (to - from) 0 ++ drop to (padded n held))
padded-clear n from to held now start end fits is =
    let bytes : List ℕ = replicate (length held - from) 0 in
    let count : length bytes ≡ length held - from = length-replicate (length held - from) 0 in
    let up : from + length bytes ≡ length held = omega (arith, count, start) in
    let put = padded-overwrite n from held bytes now (is ∙ ap (λ k. take from held ++ (bytes ++ drop k held)) (sym up)) (omega (arith, up)) in
    let here : drop (from + length bytes) (padded n held) ≡ replicate (n - length held) 0 = ap (λ k. drop k (padded n held)) up ∙ drop_past n held (length held) (omega (arith, end, fits)) (omega arith) in
    let there : drop to (padded n held) ≡ replicate (n - to) 0 = drop_past n held to (omega (arith, end, fits)) end in
    let sums : length held - from + (n - length held) ≡ to - from + (n - to) = omega (arith, start, end, fits) in
    let zeros : bytes ++ drop (from + length bytes) (padded n held) ≡ replicate (to - from) 0 ++ drop to (padded n held) =
    ap (λ l. bytes ++ l) here ∙ replicate-append-replicate (length held - from) (n - length held) 0 ∙ ap (λ j. replicate j 0) sums
    ∙ sym (ap (λ l. replicate (to - from) 0 ++ l) there ∙ replicate-append-replicate (to - from) (n - to) 0) in
    put ∙ ap (λ l. take from (padded n held) ++ l) zeros

-- zeros in the place of zeros
pub padded-cleared : (n from to : ℕ) (held : List ℕ) → length held ≤ from → from ≤ to → to ≤ n → padded n held ≡ take from (padded n held) ++ (replicate (to - from) 0 ++ drop to (padded n held))
padded-cleared n from to held start end fits =
    let here = drop_past n held from (omega (arith, start, end, fits)) start in
    let there = drop_past n held to (omega (arith, start, end, fits)) (omega (arith, start, end)) in
    let sums : to - from + (n - to) ≡ n - from = omega (arith, end, fits) in
    sym (take-append-drop from (padded n held))
    ∙ ap (λ l. take from (padded n held) ++ l) (here ∙ sym (ap (λ l. replicate (to - from) 0 ++ l) there ∙ replicate-append-replicate (to - from) (n - to) 0 ∙ ap (λ j. replicate j 0) sums))

-- zeros up to a place, or up to what is held where that ends before
pub padded-filled : (n from to m : ℕ) (held now : List ℕ) → now ≡ take from held ++ (zero_list (m - from) ++ drop m held) → m ≡ min to (length held) → from ≤ m → to ≤ n → length held ≤ n → padded n now ≡ take from (padded n held) ++ (zero_list (to - from) ++ drop to (padded n held))
padded-filled n from to m held now is end order fits le = ⊎_elim shorter longer (cases_lt (length held) to)
  where
    shorter : length held < to → padded n now ≡ take from (padded n held) ++ (zero_list (to - from) ++ drop to (padded n held))
    shorter lt =
        let m_is : m ≡ length held = omega (arith, end, lt) in
        padded-clear n from to held now (omega (arith, m_is, order)) (omega (arith, lt)) fits (is ∙ ap (λ k. take from held ++ (zero_list (k - from) ++ drop k held)) m_is)

    longer : to ≤ length held → padded n now ≡ take from (padded n held) ++ (zero_list (to - from) ++ drop to (padded n held))
    longer ge =
        let m_is : m ≡ to = omega (arith, end, ge) in
        let count : length (zero_list (to - from)) ≡ to - from = length-replicate (to - from) 0 in
        let up : from + length (zero_list (to - from)) ≡ to = omega (arith, count, order, m_is) in
        padded-overwrite n from held (zero_list (to - from)) now (is ∙ ap (λ k. take from held ++ (zero_list (k - from) ++ drop k held)) m_is ∙ ap (λ k. take from held ++ (zero_list (to - from) ++ drop k held)) (sym up)) (omega (arith, up, ge))
        ∙ ap (λ k. take from (padded n held) ++ (zero_list (to - from) ++ drop k (padded n held))) up

-- and none, where what is held ends before them, or where there are none
pub padded-kept : (n from to m : ℕ) (held : List ℕ) → m ≡ min to (length held) → m ≤ from → from ≤ to → to ≤ n → length held ≤ n → padded n held ≡ take from (padded n held) ++ (zero_list (to - from) ++ drop to (padded n held))
padded-kept n from to m held end past order fits le = ⊎_elim none (λ ge. padded-cleared n from to held ge order fits) (cases_lt from (length held))
  where
    none : from < length held → padded n held ≡ take from (padded n held) ++ (zero_list (to - from) ++ drop to (padded n held))
    none lt =
        let same : to ≡ from = omega (arith, end, past, order, lt) in
        let zero : to - from ≡ 0 = omega (arith, same) in
        sym (ap₂ (λ k j. take from (padded n held) ++ (zero_list k ++ drop j (padded n held))) zero same ∙ take-append-drop from (padded n held))
