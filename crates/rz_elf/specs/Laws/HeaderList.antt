-- The list of a file's program headers.
use Rattle.std.proofs.Common.{◌≡◌, ℕ, zero, suc, ◌+◌, ◌-◌, ◌*◌, ◌<◌, ◌≤◌, Bool, true, false, if◌then◌else◌, List, [], ◌∷◌, ◌++◌, length, drop, map, filter, Option, Some, None, refl, sym, ap, ap₂, ◌∙◌, arith, append_assoc, append-nil, drop-drop}
use Rattle.rz_elf.specs.Elf.{Segment, Placed, segment_of, segments_of, segments, file_header, is_load, loads, placed_from, placed}
use Rattle.rz_elf.specs.Loaded.{is_load_header}

-- the load before the header that follows
abbrev pub later : Option Segment → Segment → Option Segment
later before s = if is_load s then Some s else before

-- one header read
pub placed_turn : (x : List ℕ) (table count i : ℕ) (before : Option Segment) (read : List Placed) → i < count
    → (read ++ record { index = i; before = before; segment = segment_of (drop (table + 56 * i) x) } ∷ []) ++ placed_from (i + 1) (later before (segment_of (drop (table + 56 * i) x))) (segments_of (count - (i + 1)) (drop (table + 56 * (i + 1)) x))
    ≡ read ++ placed_from i before (segments_of (count - i) (drop (table + 56 * i) x))
placed_turn x table count i before read lt =
    let t = drop (table + 56 * i) x in
    let s : Segment = segment_of t in
    let one : i + 1 ≡ suc i = omega arith in
    let left : count - i ≡ suc (count - (i + 1)) = omega arith in
    let on : table + 56 * (i + 1) ≡ table + 56 * i + 56 = omega arith in
    let rest : drop (table + 56 * (i + 1)) x ≡ drop 56 t = ap (λ k. drop k x) on ∙ sym (drop-drop 56 (table + 56 * i) x) in
    let p : Placed = record { index = i; before = before; segment = s } in
    append_assoc read (p ∷ []) _
    ∙ ap (λ l. read ++ p ∷ l) (ap₂ (λ k u. placed_from k (later before s) (segments_of (count - (i + 1)) u)) one rest)
    ∙ ap (λ k. read ++ placed_from i before (segments_of k t)) (sym left)

-- none left to read
pub placed_end : (x : List ℕ) (table count i : ℕ) (before : Option Segment) (read : List Placed) → count ≤ i → read ++ placed_from i before (segments_of (count - i) (drop (table + 56 * i) x)) ≡ read
placed_end x table count i before read le =
    let none : count - i ≡ 0 = omega arith in
    ap (λ k. read ++ placed_from i before (segments_of k (drop (table + 56 * i) x))) none ∙ append-nil read

-- nothing read yet
pub placed_begin : (x : List ℕ) → placed_from 0 None (segments_of ((file_header x).count - 0) (drop ((file_header x).table_at + 56 * 0) x)) ≡ placed x
placed_begin x =
    let count : (file_header x).count - 0 ≡ (file_header x).count = omega arith in
    let at : (file_header x).table_at + 56 * 0 ≡ (file_header x).table_at = omega arith in
    ap₂ (λ n k. placed_from 0 None (segments_of n (drop k x))) count at

-- the segments of the headers
pub segments_placed : (i : ℕ) (before : Option Segment) (segs : List Segment) → map (λ (p : Placed). p.segment) (placed_from i before segs) ≡ segs
segments_placed i before [] = refl
segments_placed i before (s ∷ segs) = ap (λ l. s ∷ l) (segments_placed (suc i) (if is_load s then Some s else before) segs)

loads_among : (ps : List Placed) → map (λ (p : Placed). p.segment) (filter is_load_header ps) ≡ filter is_load (map (λ (p : Placed). p.segment) ps)
loads_among [] = refl
loads_among (p ∷ ps) = go (is_load_header p) (loads_among ps)
  where
    go : (b : Bool) → map (λ (p : Placed). p.segment) (filter is_load_header ps) ≡ filter is_load (map (λ (p : Placed). p.segment) ps) → map (λ (p : Placed). p.segment) (if b then p ∷ filter is_load_header ps else filter is_load_header ps) ≡ (if b then p.segment ∷ filter is_load (map (λ (p : Placed). p.segment) ps) else filter is_load (map (λ (p : Placed). p.segment) ps))
    go true ih = ap (λ l. p.segment ∷ l) ih
    go false ih = ih

-- the loads of a file are the segments of the headers that are loads
pub loads_placed : (x : List ℕ) → map (λ (p : Placed). p.segment) (filter is_load_header (placed x)) ≡ loads x
loads_placed x = loads_among (placed x) ∙ ap (filter is_load) (segments_placed 0 None (segments x))

length_segments : (n : ℕ) (t : List ℕ) → length (segments_of n t) ≡ n
length_segments zero t = refl
length_segments (suc n) t = let e = length_segments n (drop 56 t) in omega (arith, e)

length_placed : (i : ℕ) (before : Option Segment) (segs : List Segment) → length (placed_from i before segs) ≡ length segs
length_placed i before [] = refl
length_placed i before (s ∷ segs) = let e = length_placed (suc i) (if is_load s then Some s else before) segs in omega (arith, e)

length_filter : (ps : List Placed) → length (filter is_load_header ps) ≤ length ps
length_filter [] = omega arith
length_filter (p ∷ ps) = go (is_load_header p) (length_filter ps)
  where
    go : (b : Bool) → length (filter is_load_header ps) ≤ length ps → length (if b then p ∷ filter is_load_header ps else filter is_load_header ps) ≤ length (p ∷ ps)
    go true ih = omega (arith, ih)
    go false ih = omega (arith, ih)

-- there are no more loads than headers
pub few_loads : (x : List ℕ) → length (filter is_load_header (placed x)) ≤ (file_header x).count
few_loads x =
    let a = length_filter (placed x) in
    let b = length_placed 0 None (segments x) in
    let c = length_segments (file_header x).count (drop (file_header x).table_at x) in
    omega (arith, a, b, c)
