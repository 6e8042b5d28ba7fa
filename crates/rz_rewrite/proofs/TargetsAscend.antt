-- The kept edges from an address lead to ascending targets.
use Rattle.std.proofs.Common.{◌≡◌, ℕ, ◌<◌, ◌⊎◌, inl, inr, ⊎_elim, Bool, true, false, cond, nat_lt, ◌==◌, if◌then◌else◌, [], ◌∷◌, map, filter, fold, refl, arith, ltb-true, eqb-true}
use Rattle.std.specs.declared.cmp.Ordering.{Ordering}
use Rattle.std.specs.declared.cmp.Ordering.TheVariants.{Less, Equal, Greater}
use Rattle.std.specs.Ordering.{nat_cmp, ordering_then, match_ordering}
use Rattle.std.specs.List.{AllByRecursion}
use Rattle.std.specs.BTreeSet.{insert_key}
use Rattle.std.proofs.lemmas.Bool.Decides.{nat_tests}
use Rattle.rz_aset.specs.Sets.{edge_cmp}
use Rattle.rz_aset.specs.Sorted.{sorted_edges}
use Rattle.rz_machine.specs.Kept.{Edges, targets_of, IsAscending}

-- of edges from the same address, the first leads lower
abbrev IsBefore : ℕ × ℕ → ℕ × ℕ → Type 0
IsBefore d e = (d.0 < e.0) ⊎ ((d.0 ≡ e.0) × (d.1 < e.1))

abbrev Ascend : Edges → Type 0
Ascend [] = Unit {0}
Ascend (e ∷ rest) = AllByRecursion (IsBefore e) rest × Ascend rest

before_again : (d e f : ℕ × ℕ) → IsBefore d e → IsBefore e f → IsBefore d f
before_again d e f (inl h) (inl k) = inl (omega (arith, h, k))
before_again d e f (inl h) (inr k) = inl (omega (arith, h, k.0))
before_again d e f (inr h) (inl k) = inl (omega (arith, h.0, k))
before_again d e f (inr h) (inr k) = inr (omega (arith, h.0, k.0), omega (arith, h.1, k.1))

all_before : (d e : ℕ × ℕ) → IsBefore d e → (edges : Edges) → AllByRecursion (IsBefore e) edges → AllByRecursion (IsBefore d) edges
all_before d e h [] k = tt
all_before d e h (f ∷ rest) k = (before_again d e f h k.0, all_before d e h rest k.1)

all_with : (P : ℕ × ℕ → Type 0) (edges : Edges) (k : ℕ × ℕ) → P k → AllByRecursion P edges → AllByRecursion P (insert_key edge_cmp edges k)
all_with P [] k p h = (p, tt)
all_with P (e ∷ rest) k p h = go (edge_cmp k e) (all_with P rest k p h.1)
  where
    go : (r : Ordering) → AllByRecursion P (insert_key edge_cmp rest k) → AllByRecursion P (match_ordering r (k ∷ e ∷ rest) (e ∷ rest) (e ∷ insert_key edge_cmp rest k))
    go Less ih = (p, (h.0, h.1))
    go Equal ih = h
    go Greater ih = (h.0, ih)

number_less : (a b : ℕ) → nat_cmp a b ≡ Less → a < b
number_less a b e = go (nat_lt a b) (a == b) refl e
  where
    go : (p q : Bool) → nat_lt a b ≡ p → cond p Less (cond q Equal Greater) ≡ Less → a < b
    go true q d f = ltb-true a b d
    go false true d f = cc
    go false false d f = cc

number_greater : (a b : ℕ) → nat_cmp a b ≡ Greater → b < a
number_greater a b e = go (nat_lt a b) (a == b) refl refl e
  where
    go : (p q : Bool) → nat_lt a b ≡ p → (a == b) ≡ q → cond p Less (cond q Equal Greater) ≡ Greater → b < a
    go true q d g f = cc
    go false true d g f = cc
    go false false d g f = grind (arith, nat_tests, d, g)

number_equal : (a b : ℕ) → nat_cmp a b ≡ Equal → a ≡ b
number_equal a b e = go (nat_lt a b) (a == b) refl e
  where
    go : (p q : Bool) → (a == b) ≡ q → cond p Less (cond q Equal Greater) ≡ Equal → a ≡ b
    go true q g f = cc
    go false true g f = eqb-true a b g
    go false false g f = cc

less_is : (d e : ℕ × ℕ) → edge_cmp d e ≡ Less → IsBefore d e
less_is d e h = go (nat_cmp d.0 e.0) refl h
  where
    go : (r : Ordering) → nat_cmp d.0 e.0 ≡ r → ordering_then r (nat_cmp d.1 e.1) ≡ Less → IsBefore d e
    go Less c f = inl (number_less d.0 e.0 c)
    go Equal c f = inr (number_equal d.0 e.0 c, number_less d.1 e.1 f)
    go Greater c f = cc

greater_is : (d e : ℕ × ℕ) → edge_cmp d e ≡ Greater → IsBefore e d
greater_is d e h = go (nat_cmp d.0 e.0) refl h
  where
    go : (r : Ordering) → nat_cmp d.0 e.0 ≡ r → ordering_then r (nat_cmp d.1 e.1) ≡ Greater → IsBefore e d
    go Less c f = cc
    go Equal c f = let same = number_equal d.0 e.0 c in inr (omega (arith, same), number_greater d.1 e.1 f)
    go Greater c f = inl (number_greater d.0 e.0 c)

Ascend-insert_key : (edges : Edges) (k : ℕ × ℕ) → Ascend edges → Ascend (insert_key edge_cmp edges k)
Ascend-insert_key [] k h = (tt, tt)
Ascend-insert_key (e ∷ rest) k h = go (edge_cmp k e) refl (Ascend-insert_key rest k h.1)
  where
    go : (r : Ordering) → edge_cmp k e ≡ r → Ascend (insert_key edge_cmp rest k) → Ascend (match_ordering r (k ∷ e ∷ rest) (e ∷ rest) (e ∷ insert_key edge_cmp rest k))
    go Less c ih = let first = less_is k e c in ((first, all_before k e first rest h.0), h)
    go Equal c ih = h
    go Greater c ih = (all_with (IsBefore e) rest k (greater_is k e c) h.0, ih)

Ascend-insert_keys : (set more : Edges) → Ascend set → Ascend (fold (insert_key edge_cmp) set more)
Ascend-insert_keys set [] h = h
Ascend-insert_keys set (e ∷ rest) h = Ascend-insert_keys (insert_key edge_cmp set e) rest (Ascend-insert_key set e h)

sorted_ascend : (edges : Edges) → Ascend (sorted_edges edges)
unfolding sorted_edges
sorted_ascend edges = Ascend-insert_keys [] edges tt

-- of ascending edges, the targets of those from an address
targets_up : (edges : Edges) (a : ℕ) → Ascend edges → IsAscending (map (λ e. e.1) (filter (λ e. e.0 == a) edges))
targets_up [] a h = tt
targets_up (e ∷ rest) a h = go (e.0 == a) refl (targets_up rest a h.1)
  where
    above : (l : Edges) → e.0 ≡ a → AllByRecursion (IsBefore e) l → AllByRecursion (λ t. e.1 < t) (map (λ d. d.1) (filter (λ d. d.0 == a) l))
    above [] same k = tt
    above (f ∷ l) same k = here (f.0 == a) refl (above l same k.1)
      where
        here : (v : Bool) → (f.0 == a) ≡ v → AllByRecursion (λ t. e.1 < t) (map (λ d. d.1) (filter (λ d. d.0 == a) l))
            → AllByRecursion (λ t. e.1 < t) (map (λ d. d.1) (if v then f ∷ filter (λ d. d.0 == a) l else filter (λ d. d.0 == a) l))
        here true g ih = let there = eqb-true f.0 a g in (⊎_elim (λ b. absurd (omega (arith, b, same, there))) (λ b. b.1) k.0, ih)
        here false g ih = ih

    go : (v : Bool) → (e.0 == a) ≡ v → IsAscending (map (λ d. d.1) (filter (λ d. d.0 == a) rest))
        → IsAscending (map (λ d. d.1) (if v then e ∷ filter (λ d. d.0 == a) rest else filter (λ d. d.0 == a) rest))
    go true g ih = (above rest (eqb-true e.0 a g) h.0, ih)
    go false g ih = ih

pub targets_ascend : (edges : Edges) (a : ℕ) → IsAscending (targets_of edges a)
targets_ascend edges a = targets_up (sorted_edges edges) a (sorted_ascend edges)
