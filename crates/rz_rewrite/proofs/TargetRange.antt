-- The kept edges from an address stand side by side; what stands beside a number in ascending pairs.
use Rattle.std.proofs.Common.{◌≡◌, ℕ, zero, suc, ◌<◌, ◌≤◌, Bool, true, false, cond, if◌then◌else◌, ltb, leb, nat_lt, ◌==◌, List, [], ◌∷◌, length, get_or, take, drop, map, filter, fold, slice_index_or, refl, sym, ap, ◌∙◌, subst, arith, ltb-true, ltb-false, leb-true, leb-false, eqb-true, eq-eqb}
use Rattle.std.specs.declared.cmp.Ordering.{Ordering}
use Rattle.std.specs.declared.cmp.Ordering.TheVariants.{Less, Equal, Greater}
use Rattle.std.specs.Ordering.{nat_cmp, ordering_then, match_ordering}
use Rattle.std.specs.List.{AllWithin, AllByRecursion}
use Rattle.std.specs.List.Sorted.{IsNonDecreasingBy, IsPartitionPoint}
use Rattle.std.specs.BTreeSet.{insert_key}
use Rattle.rz_aset.specs.Sets.{edge_cmp}
use Rattle.rz_aset.specs.Sorted.{sorted_edges}
use Rattle.rz_machine.specs.Kept.{Edges, IsAscending}
use Rattle.rz_rewrite.specs.Calls.Places.{beside_or_zero}

-- ---- sorted edges ascend by their sources

-- no source is above one behind it
abbrev Ascend : Edges → Type 0
Ascend [] = Unit {0}
Ascend (e ∷ rest) = AllByRecursion (λ d. e.0 ≤ d.0) rest × Ascend rest

all_with : (P : ℕ × ℕ → Type 0) (edges : Edges) (k : ℕ × ℕ) → P k → AllByRecursion P edges → AllByRecursion P (insert_key edge_cmp edges k)
all_with P [] k p h = (p, tt)
all_with P (e ∷ rest) k p h = go (edge_cmp k e) (all_with P rest k p h.1)
  where
    go : (r : Ordering) → AllByRecursion P (insert_key edge_cmp rest k) → AllByRecursion P (match_ordering r (k ∷ e ∷ rest) (e ∷ rest) (e ∷ insert_key edge_cmp rest k))
    go Less ih = (p, (h.0, h.1))
    go Equal ih = h
    go Greater ih = (h.0, ih)

all_above : (a b : ℕ) → a ≤ b → (edges : Edges) → AllByRecursion (λ d. b ≤ d.0) edges → AllByRecursion (λ d. a ≤ d.0) edges
all_above a b le [] h = tt
all_above a b le (e ∷ rest) h = (omega (arith, le, h.0), all_above a b le rest h.1)

less_is : (a b : ℕ) (r : Ordering) → ordering_then (nat_cmp a b) r ≡ Less → a ≤ b
less_is a b r e = go (nat_lt a b) (a == b) refl refl e
  where
    go : (p q : Bool) → nat_lt a b ≡ p → (a == b) ≡ q → ordering_then (cond p Less (cond q Equal Greater)) r ≡ Less → a ≤ b
    go true q d f e = let lt = ltb-true a b d in omega (arith, lt)
    go false true d f e = let same = eqb-true a b f in omega (arith, same)
    go false false d f e = cc

greater_is : (a b : ℕ) (r : Ordering) → ordering_then (nat_cmp a b) r ≡ Greater → b ≤ a
greater_is a b r e = go (nat_lt a b) refl e
  where
    go : (p : Bool) → nat_lt a b ≡ p → ordering_then (cond p Less (cond (a == b) Equal Greater)) r ≡ Greater → b ≤ a
    go true d e = cc
    go false d e = ltb-false a b d

Ascend-insert_key : (edges : Edges) (k : ℕ × ℕ) → Ascend edges → Ascend (insert_key edge_cmp edges k)
Ascend-insert_key [] k h = (tt, tt)
Ascend-insert_key (e ∷ rest) k h = go (edge_cmp k e) refl (Ascend-insert_key rest k h.1)
  where
    go : (r : Ordering) → edge_cmp k e ≡ r → Ascend (insert_key edge_cmp rest k) → Ascend (match_ordering r (k ∷ e ∷ rest) (e ∷ rest) (e ∷ insert_key edge_cmp rest k))
    go Less c ih = let le = less_is k.0 e.0 (nat_cmp k.1 e.1) c in ((le, all_above k.0 e.0 le rest h.0), h)
    go Equal c ih = h
    go Greater c ih = (all_with (λ d. e.0 ≤ d.0) rest k (greater_is k.0 e.0 (nat_cmp k.1 e.1) c) h.0, ih)

Ascend-insert_keys : (set more : Edges) → Ascend set → Ascend (fold (insert_key edge_cmp) set more)
Ascend-insert_keys set [] h = h
Ascend-insert_keys set (e ∷ rest) h = Ascend-insert_keys (insert_key edge_cmp set e) rest (Ascend-insert_key set e h)

source_at : (P : ℕ × ℕ → Type 0) (edges : Edges) (i : ℕ) (d : ℕ × ℕ) → AllByRecursion P edges → i < length edges → P (get_or edges i d)
source_at P [] i d h lt = absurd (omega arith)
source_at P (e ∷ rest) zero d h lt = h.0
source_at P (e ∷ rest) (suc i) d h lt = source_at P rest i d h.1 (omega arith)

by_place : (edges : Edges) → Ascend edges → IsNonDecreasingBy (λ e. e.0) edges
by_place [] h i j d le lt = absurd (omega arith)
by_place (e ∷ rest) h zero zero d le lt = omega arith
by_place (e ∷ rest) h zero (suc j) d le lt = source_at (λ f. e.0 ≤ f.0) rest j d h.0 (omega arith)
by_place (e ∷ rest) h (suc i) zero d le lt = absurd (omega arith)
by_place (e ∷ rest) h (suc i) (suc j) d le lt = by_place rest h.1 i j d (omega arith) (omega arith)

pub sources_ascend : (edges : Edges) → IsNonDecreasingBy (λ e. e.0) (sorted_edges edges)
unfolding sorted_edges
sources_ascend edges = by_place (fold (insert_key edge_cmp) [] edges) (Ascend-insert_keys [] edges tt)

-- ---- so those from an address are a range

later : (P : ℕ × ℕ → Type 0) (e : ℕ × ℕ) (rest : Edges) (low high : ℕ) → AllWithin P (e ∷ rest) (suc low) (suc high) → AllWithin P rest low high
later P e rest low high h i d le lt = h (suc i) d (omega (arith, le)) (omega (arith, lt))

-- the edges below `first` come from lower addresses, those from there on don't; of these, `count` come from no higher one
range_is : (a : ℕ) (edges : Edges) (first count : ℕ)
    → AllWithin (λ e. ltb e.0 a ≡ true) edges 0 first → AllWithin (λ e. ltb e.0 a ≡ false) edges first (length edges)
    → AllWithin (λ e. leb e.0 a ≡ true) (drop first edges) 0 count → AllWithin (λ e. leb e.0 a ≡ false) (drop first edges) count (length (drop first edges))
    → take count (drop first edges) ≡ filter (λ e. e.0 == a) edges
range_is a [] zero zero below above inside beyond = refl
range_is a [] zero (suc count) below above inside beyond = refl
range_is a [] (suc first) zero below above inside beyond = refl
range_is a [] (suc first) (suc count) below above inside beyond = refl
range_is a (e ∷ rest) (suc first) count below above inside beyond =
    let lt = ltb-true e.0 a (below 0 e (omega arith) (omega arith)) in
    let apart : (e.0 == a) ≡ false = grind (arith, lt) in
    range_is a rest first count (λ i d le l. below (suc i) d (omega arith) (omega (arith, l))) (later (λ d. ltb d.0 a ≡ false) e rest first (length rest) above) inside beyond
    ∙ rw apart refl
range_is a (e ∷ rest) zero (suc count) below above inside beyond =
    let ge = ltb-false e.0 a (above 0 e (omega arith) (omega arith)) in
    let le = leb-true e.0 a (inside 0 e (omega arith) (omega arith)) in
    let same : (e.0 == a) ≡ true = eq-eqb e.0 a (omega (arith, ge, le)) in
    ap (λ l. e ∷ l) (range_is a rest zero count (λ i d k l. absurd (omega (arith, k, l))) (λ i d k l. above (suc i) d (omega arith) (omega (arith, l)))
    (λ i d k l. inside (suc i) d (omega arith) (omega (arith, l))) (later (λ d. leb d.0 a ≡ false) e rest count (length rest) beyond))
    ∙ rw same refl
range_is a (e ∷ rest) zero zero below above inside beyond =
    let gt = leb-false e.0 a (beyond 0 e (omega arith) (omega arith)) in
    let apart : (e.0 == a) ≡ false = grind (arith, gt) in
    range_is a rest zero zero (λ i d k l. absurd (omega (arith, k, l))) (λ i d k l. above (suc i) d (omega arith) (omega (arith, l)))
    (λ i d k l. absurd (omega (arith, k, l))) (λ i d k l. beyond (suc i) d (omega arith) (omega (arith, l)))
    ∙ rw apart refl

-- the same of the rest as a slice has it
pub slice_is : (a : ℕ) (edges : Edges) (first count : ℕ) (rest : Edges) → rest ≡ drop first edges
    → IsPartitionPoint (λ e. ltb e.0 a ≡ true) (λ e. ltb e.0 a ≡ false) edges first → IsPartitionPoint (λ e. leb e.0 a ≡ true) (λ e. leb e.0 a ≡ false) rest count
    → take count rest ≡ filter (λ e. e.0 == a) edges
slice_is a edges first count rest same front back =
    let P : Edges → Type 0 = λ l. IsPartitionPoint (λ e. leb e.0 a ≡ true) (λ e. leb e.0 a ≡ false) l count in
    ap (take count) same ∙ range_is a edges first count front.0 front.1 (subst P same back).0 (subst P same back).1

-- ---- what stands beside a number in ascending pairs

-- pairs whose first numbers ascend
pub keys_ascend : (pairs : Edges) → IsAscending (map (λ p. p.0) pairs) → IsNonDecreasingBy (λ p. p.0) pairs
keys_ascend pairs h = by_place pairs (ascend pairs h)
  where
    above : (a : ℕ) (pairs : Edges) → AllByRecursion (λ b. a < b) (map (λ p. p.0) pairs) → AllByRecursion (λ d. a ≤ d.0) pairs
    above a [] h = tt
    above a (p ∷ rest) h = let lt = h.0 in (omega (arith, lt), above a rest h.1)

    ascend : (pairs : Edges) → IsAscending (map (λ p. p.0) pairs) → Ascend pairs
    ascend [] h = tt
    ascend (p ∷ rest) h = (above p.0 rest h.0, ascend rest h.1)

-- the second number of the first pair; 0 where there is none
abbrev pub first_beside : Edges → ℕ
first_beside [] = 0
first_beside (p ∷ rest) = p.1

pub beside_first : (pairs : Edges) (a : ℕ) → beside_or_zero pairs a ≡ first_beside (filter (λ p. p.0 == a) pairs)
beside_first [] a = refl
beside_first (p ∷ rest) a = go (p.0 == a) (beside_first rest a)
  where
    go : (v : Bool) → beside_or_zero rest a ≡ first_beside (filter (λ q. q.0 == a) rest)
        → (if v then p.1 else beside_or_zero rest a) ≡ first_beside (if v then p ∷ filter (λ q. q.0 == a) rest else filter (λ q. q.0 == a) rest)
    go true ih = refl
    go false ih = ih

-- what there is nothing or something of among the pairs of a number
pub nothing_beside : (pairs found : Edges) (a : ℕ) → found ≡ filter (λ p. p.0 == a) pairs → length found < 1 → 0 ≡ beside_or_zero pairs a
nothing_beside pairs [] a e few = ap first_beside e ∙ sym (beside_first pairs a)
nothing_beside pairs (p ∷ rest) a e few = absurd (omega (arith, few))

pub first_is_beside : (pairs found : Edges) (a : ℕ) → found ≡ filter (λ p. p.0 == a) pairs → 1 ≤ length found → (slice_index_or found 0 (0, 0)).1 ≡ beside_or_zero pairs a
first_is_beside pairs [] a e some = absurd (omega (arith, some))
first_is_beside pairs (p ∷ rest) a e some = ap first_beside e ∙ sym (beside_first pairs a)

-- each of some ascending numbers with what a function gives
pub placed_ascend : (f : ℕ → ℕ) (nodes : List ℕ) → IsAscending nodes → (pairs : Edges) → pairs ≡ map (λ b. (b, f b)) nodes → IsNonDecreasingBy (λ p. p.0) pairs
placed_ascend f nodes up pairs is = keys_ascend pairs (subst IsAscending (sym (ap (map (λ (p : ℕ × ℕ). p.0)) is ∙ keys nodes)) up)
  where
    keys : (l : List ℕ) → map (λ (p : ℕ × ℕ). p.0) (map (λ b. (b, f b)) l) ≡ l
    keys [] = refl
    keys (b ∷ l) = ap (λ r. b ∷ r) (keys l)
