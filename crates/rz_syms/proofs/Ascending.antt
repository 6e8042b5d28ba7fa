-- Places in ascending order: a sort gives them, and they begin in order.
use Rattle.std.proofs.Common.{◌≡◌, ℕ, ◌+◌, ◌<◌, Bool, true, false, ◌||◌, ◌==◌, List, [], ◌∷◌, fold, refl, ap, sym, ◌∙◌, subst, arith, eq-eqb, length, get_or, true≢false}
use Rattle.std.specs.declared.cmp.Ordering.{Ordering}
use Rattle.std.specs.declared.cmp.Ordering.TheVariants.{Less, Equal, Greater}
use Rattle.std.specs.Cmp.{IsTotalOrder, nat_cmp_total, then_total, on_total}
use Rattle.std.specs.Ordering.{nat_cmp, ordering_then, ordering_reverse, match_ordering, is_lt}
use Rattle.std.specs.List.{list_any, AllByRecursion, IsDistinct}
use Rattle.std.specs.List.Sorted.{IsStrictlySortedBy, IsSorted, IsPermutation}
use Rattle.std.specs.BTreeSet.{insert_key, BTreeSet}
use Rattle.std.proofs.lemmas.List.Sorted.{list_any-IsPermutation}
use Rattle.std.proofs.lemmas.Map.Keys.{sorted_from_all_adjacent, apart_from_distinct, IsDistinct-IsPermutation}
use Rattle.std.proofs.lemmas.Map.Lookups.{CmpEqualImpliesEq, exact_unsigned, btree_set_from_contains}
use Rattle.rz_aset.specs.Laws.Sorted.{sort_of_distinct}
use Rattle.rz_syms.specs.declared.place.Place.{Place}
use Rattle.rz_syms.specs.Symbols.{place_cmp, ascending}

module _ {K : Type 0} (cmp : K → K → Ordering) where
  all_with : (P : K → Type 0) (xs : List K) (k : K) → P k → AllByRecursion P xs → AllByRecursion P (insert_key cmp xs k)
  all_with P [] k p h = (p, tt)
  all_with P (x ∷ xs) k p h = go (cmp k x) (all_with P xs k p h.1)
    where
      go : (r : Ordering) → AllByRecursion P (insert_key cmp xs k) → AllByRecursion P (match_ordering r (k ∷ x ∷ xs) (x ∷ xs) (x ∷ insert_key cmp xs k))
      go Less ih = (p, h)
      go Equal ih = h
      go Greater ih = (h.0, ih)

  -- what each member has, each has in a set of them
  pub all_with_all : (P : K → Type 0) (set more : List K) → AllByRecursion P set → AllByRecursion P more → AllByRecursion P (fold (insert_key cmp) set more)
  all_with_all P set [] h k = h
  all_with_all P set (x ∷ xs) h k = all_with_all P (insert_key cmp set x) xs (all_with P set x k.0 h) k.1

pub place_total : IsTotalOrder place_cmp
place_total =
    then_total (on_total (λ (p : Place). p.lo) nat_cmp_total)
    (then_total (on_total (λ (p : Place). p.hi) nat_cmp_total)
    (then_total (on_total (λ (p : Place). p.number) nat_cmp_total) (on_total (λ (p : Place). p.name) nat_cmp_total)))

then_equal : (r s : Ordering) → ordering_then r s ≡ Equal → (r ≡ Equal) × (s ≡ Equal)
then_equal Less s e = cc
then_equal Greater s e = cc
then_equal Equal s e = (refl, e)

pub place_exact : CmpEqualImpliesEq place_cmp
place_exact p q e =
    let first = then_equal (nat_cmp p.lo q.lo) (ordering_then (nat_cmp p.hi q.hi) (ordering_then (nat_cmp p.number q.number) (nat_cmp p.name q.name))) e in
    let second = then_equal (nat_cmp p.hi q.hi) (ordering_then (nat_cmp p.number q.number) (nat_cmp p.name q.name)) first.1 in
    let third = then_equal (nat_cmp p.number q.number) (nat_cmp p.name q.name) second.1 in
    let lo = exact_unsigned p.lo q.lo first.0 in
    let hi = exact_unsigned p.hi q.hi second.0 in
    let number = exact_unsigned p.number q.number third.0 in
    let name = exact_unsigned p.name q.name third.1 in
    λ i. record { lo = lo i; hi = hi i; number = number i; name = name i }

-- whether two places have the same symbol
abbrev pub is_same_symbol : Place → Place → Bool
is_same_symbol p q = p.number == q.number

symbols_apart : (p q : Place) → is_same_symbol p q ≡ false → place_cmp p q ≡ Equal → ⊥
symbols_apart p q other e =
    true≢false (sym (eq-eqb p.number q.number (ap (λ (r : Place). r.number) (place_exact p q e))) ∙ other)

symbols_flip : (p q : Place) → is_same_symbol p q ≡ is_same_symbol q p
symbols_flip p q = go p.number q.number
  where
    go : (a b : ℕ) → (a == b) ≡ (b == a)
    go a b = grind arith

-- a sort of the places of different symbols
pub ascending_by_sort : (xs ys : List Place) → IsDistinct is_same_symbol xs → IsPermutation xs ys → IsSorted place_cmp ys → ys ≡ ascending xs
unfolding ascending
ascending_by_sort xs ys d p s = sort_of_distinct place_cmp place_total place_exact is_same_symbol symbols_apart symbols_flip xs ys d p s
