-- Sorted sets: their members, their order, that a sort of distinct members gives them, and that their members fix them.
use Rattle.std.proofs.Common.{◌≡◌, ℕ, ◌+◌, ◌<◌, Bool, true, false, cond, ◌&&◌, ◌||◌, nat_lt, ◌==◌, List, [], ◌∷◌, fold, refl, ap, ap₂, sym, ◌∙◌, subst, arith, eq-eqb, eqb-true, ltb-true, append_assoc, ◌++◌, length, get_or, nat_eq, true≢false}
use Rattle.std.proofs.lemmas.List.{append-nil}
use Rattle.std.proofs.lemmas.Bool.{lt-ltb}
use Rattle.std.specs.declared.cmp.Ordering.{Ordering}
use Rattle.std.specs.declared.cmp.Ordering.TheVariants.{Less, Equal, Greater}
use Rattle.std.specs.Cmp.{IsTotalOrder, nat_cmp_total, then_total, on_total}
use Rattle.std.specs.Ordering.{nat_cmp, ordering_then, ordering_reverse, match_ordering, is_eq, is_lt}
use Rattle.std.specs.List.{list_any, AllByRecursion, IsDistinct}
use Rattle.std.specs.List.Sorted.{IsStrictlySortedBy, IsSorted, IsPermutation}
use Rattle.std.specs.BTreeMap.{is_at}
use Rattle.std.specs.BTreeSet.{insert_key, BTreeSet}
use Rattle.std.proofs.lemmas.List.Sorted.{list_any-IsPermutation}
use Rattle.std.proofs.lemmas.Map.Keys.{sorted_from_all_adjacent, apart_from_distinct, IsDistinct-IsPermutation}
use Rattle.std.proofs.lemmas.Map.Lookups.{CmpEqualImpliesEq, exact_unsigned, btree_set_from_contains}
use Rattle.rz_aset.specs.Sets.{has, has_edge, edge_cmp, is_same_edge}
use Rattle.rz_aset.specs.Sorted.{IsAscending, sorted, sorted_edges}

or_same : (x y : Bool) → (x || (x || y)) ≡ (x || y)
or_same true y = refl
or_same false y = refl

or_swap : (x y z : Bool) → (x || (y || z)) ≡ (y || (x || z))
or_swap true true z = refl
or_swap true false z = refl
or_swap false y z = refl

or_assoc : (x y z : Bool) → ((x || y) || z) ≡ (y || (x || z))
or_assoc true true z = refl
or_assoc true false z = refl
or_assoc false y z = refl

-- a test finds an element of a set and a new member exactly where it passes one of them
list_any-insert_key : {K : Type 0} (cmp : K → K → Ordering) → CmpEqualImpliesEq cmp → (test : K → Bool) (set : List K) (k : K) → list_any test (insert_key cmp set k) ≡ (test k || list_any test set)
list_any-insert_key cmp exact test [] k = refl
list_any-insert_key {K} cmp exact test (x ∷ xs) k = go (cmp k x) refl (list_any-insert_key cmp exact test xs k)
  where
    go : (r : Ordering) → cmp k x ≡ r → list_any test (insert_key cmp xs k) ≡ (test k || list_any test xs) → list_any test (match_ordering r (k ∷ x ∷ xs) (x ∷ xs) (x ∷ insert_key cmp xs k)) ≡ (test k || (test x || list_any test xs))
    go Less e h = refl
    go Equal e h =
        let P : K → Type 0 = λ y. (test x || list_any test xs) ≡ (test y || (test x || list_any test xs)) in
        subst P (sym (exact k x e)) (sym (or_same (test x) (list_any test xs)))
    go Greater e h = ap (λ b. test x || b) h ∙ or_swap (test x) (test k) (list_any test xs)

list_any-insert_keys : {K : Type 0} (cmp : K → K → Ordering) → CmpEqualImpliesEq cmp → (test : K → Bool) (set more : List K) → list_any test (fold (insert_key cmp) set more) ≡ (list_any test set || list_any test more)
list_any-insert_keys cmp exact test set [] = sym (or_false (list_any test set))
  where
    or_false : (x : Bool) → (x || false) ≡ x
    or_false true = refl
    or_false false = refl
list_any-insert_keys cmp exact test set (x ∷ xs) =
    list_any-insert_keys cmp exact test (insert_key cmp set x) xs
    ∙ ap (λ b. b || list_any test xs) (list_any-insert_key cmp exact test set x)
    ∙ or_assoc (test x) (list_any test set) (list_any test xs)

edge_exact : CmpEqualImpliesEq edge_cmp
edge_exact x y e = go (nat_cmp x.0 y.0) (nat_cmp x.1 y.1) refl refl e
  where
    go : (r s : Ordering) → nat_cmp x.0 y.0 ≡ r → nat_cmp x.1 y.1 ≡ s → ordering_then r s ≡ Equal → x ≡ y
    go Less s d f e = cc
    go Greater s d f e = cc
    go Equal s d f e = ap₂ (λ a b. (a, b)) (exact_unsigned x.0 y.0 d) (exact_unsigned x.1 y.1 (f ∙ e))

-- a sorted set has the same members
pub has-sorted : (xs : List ℕ) (a : ℕ) → has (sorted xs) a ≡ has xs a
unfolding sorted
has-sorted xs a = list_any-insert_keys nat_cmp exact_unsigned (λ b. b == a) [] xs

pub has_edge-sorted : (xs : List (ℕ × ℕ)) (e : ℕ × ℕ) → has_edge (sorted_edges xs) e ≡ has_edge xs e
unfolding sorted_edges
has_edge-sorted xs e = list_any-insert_keys edge_cmp edge_exact (λ f. is_same_edge f e) [] xs

all_insert_key : (P : ℕ → Type 0) (xs : List ℕ) (k : ℕ) → P k → AllByRecursion P xs → AllByRecursion P (insert_key nat_cmp xs k)
all_insert_key P [] k p h = (p, tt)
all_insert_key P (x ∷ xs) k p h = go (nat_cmp k x) (all_insert_key P xs k p h.1)
  where
    go : (r : Ordering) → AllByRecursion P (insert_key nat_cmp xs k) → AllByRecursion P (match_ordering r (k ∷ x ∷ xs) (x ∷ xs) (x ∷ insert_key nat_cmp xs k))
    go Less ih = (p, (h.0, h.1))
    go Equal ih = h
    go Greater ih = (h.0, ih)

all_above : (a b : ℕ) → a < b → (xs : List ℕ) → AllByRecursion (λ c. b < c) xs → AllByRecursion (λ c. a < c) xs
all_above a b lt [] h = tt
all_above a b lt (x ∷ xs) h = (omega (arith, h.0), all_above a b lt xs h.1)

IsAscending-insert_key : (set : List ℕ) (k : ℕ) → IsAscending set → IsAscending (insert_key nat_cmp set k)
IsAscending-insert_key [] k h = (tt, tt)
IsAscending-insert_key (x ∷ xs) k h = go (nat_lt k x) (k == x) refl refl (IsAscending-insert_key xs k h.1)
  where
    go : (p q : Bool) → nat_lt k x ≡ p → (k == x) ≡ q → IsAscending (insert_key nat_cmp xs k) → IsAscending (match_ordering (cond p Less (cond q Equal Greater)) (k ∷ x ∷ xs) (x ∷ xs) (x ∷ insert_key nat_cmp xs k))
    go true q d e ih = let lt : k < x = ltb-true k x d in ((lt, all_above k x lt xs h.0), h)
    go false true d e ih = h
    go false false d e ih =
        let ne : (k ≡ x) → ⊥ = λ f. cc (e, eq-eqb k x f) in
        let le : (k < x) → ⊥ = λ l. cc (d, lt-ltb k x l) in
        (all_insert_key (λ c. x < c) xs k (omega arith) h.0, ih)

-- more addresses keep a list in ascending order
IsAscending-insert_keys : (set more : List ℕ) → IsAscending set → IsAscending (fold (insert_key nat_cmp) set more)
IsAscending-insert_keys set [] h = h
IsAscending-insert_keys set (x ∷ xs) h = IsAscending-insert_keys (insert_key nat_cmp set x) xs (IsAscending-insert_key set x h)

less_below : (a b : ℕ) → nat_cmp a b ≡ Less → a < b
less_below a b e = go (nat_lt a b) (a == b) refl e
  where
    go : (p q : Bool) → nat_lt a b ≡ p → cond p Less (cond q Equal Greater) ≡ Less → a < b
    go true q d e = ltb-true a b d
    go false true d e = cc
    go false false d e = cc

all_below : (a : ℕ) (xs : List ℕ) → AllByRecursion (λ b. nat_cmp a b ≡ Less) xs → AllByRecursion (λ b. a < b) xs
all_below a [] h = tt
all_below a (x ∷ xs) h = (less_below a x h.0, all_below a xs h.1)

-- sorted keys ascend
IsAscending-from_sorted : (set : List ℕ) → IsStrictlySortedBy nat_cmp set → IsAscending set
unfolding IsStrictlySortedBy
IsAscending-from_sorted [] h = tt
IsAscending-from_sorted (x ∷ xs) h = (all_below x xs h.0, IsAscending-from_sorted xs h.1)

-- in ascending order
pub IsAscending-sorted : (nodes : List ℕ) → IsAscending (sorted nodes)
unfolding sorted
IsAscending-sorted nodes = IsAscending-insert_keys [] nodes tt

-- an address above all members is added behind them
insert_last : (set : List ℕ) (k : ℕ) → AllByRecursion (λ b. b < k) set → insert_key nat_cmp set k ≡ set ++ k ∷ []
insert_last [] k h = refl
insert_last (x ∷ xs) k h = go (nat_lt k x) (k == x) refl refl (insert_last xs k h.1)
  where
    go : (p q : Bool) → nat_lt k x ≡ p → (k == x) ≡ q → insert_key nat_cmp xs k ≡ xs ++ k ∷ []
        → match_ordering (cond p Less (cond q Equal Greater)) (k ∷ x ∷ xs) (x ∷ xs) (x ∷ insert_key nat_cmp xs k) ≡ x ∷ (xs ++ k ∷ [])
    go true q d e ih = absurd (let lt : k < x = ltb-true k x d in let gt = h.0 in omega (arith, gt))
    go false true d e ih = absurd (let same : k ≡ x = eqb-true k x e in let gt = h.0 in omega (arith, gt, same))
    go false false d e ih = ap (λ l. x ∷ l) ih

-- each of the first members is below what comes behind them
front_below : (set : List ℕ) (x : ℕ) (more : List ℕ) → IsAscending (set ++ x ∷ more) → AllByRecursion (λ b. b < x) set
front_below [] x more h = tt
front_below (y ∷ ys) x more h = (found ys h.0, front_below ys x more h.1)
  where
    found : (zs : List ℕ) → AllByRecursion (λ b. y < b) (zs ++ x ∷ more) → y < x
    found [] k = k.0
    found (z ∷ zs) k = found zs k.1

-- so members that ascend behind a set are added in their order
with_ascending : (set more : List ℕ) → IsAscending (set ++ more) → fold (insert_key nat_cmp) set more ≡ set ++ more
with_ascending set [] h = sym (append-nil set)
with_ascending set (x ∷ xs) h =
    let e : (set ++ x ∷ []) ++ xs ≡ set ++ x ∷ xs = append_assoc set (x ∷ []) xs in
    ap (λ s. fold (insert_key nat_cmp) s xs) (insert_last set x (front_below set x xs h)) ∙ with_ascending (set ++ x ∷ []) xs (subst IsAscending (sym e) h) ∙ e

-- a set in ascending order is sorted
pub sorted-ascending : (nodes : List ℕ) → IsAscending nodes → sorted nodes ≡ nodes
unfolding sorted
sorted-ascending nodes h = with_ascending [] nodes h

-- so sorting again changes nothing
pub sorted-sorted : (nodes : List ℕ) → sorted (sorted nodes) ≡ sorted nodes
sorted-sorted nodes = sorted-ascending (sorted nodes) (IsAscending-sorted nodes)

-- ---- what a sort of distinct members leaves

module _ {K : Type 0} (cmp : K → K → Ordering) (total : IsTotalOrder cmp) (exact : CmpEqualImpliesEq cmp) where
  all_with : (P : K → Type 0) (xs : List K) (k : K) → P k → AllByRecursion P xs → AllByRecursion P (insert_key cmp xs k)
  all_with P [] k p h = (p, tt)
  all_with P (x ∷ xs) k p h = go (cmp k x) (all_with P xs k p h.1)
    where
      go : (r : Ordering) → AllByRecursion P (insert_key cmp xs k) → AllByRecursion P (match_ordering r (k ∷ x ∷ xs) (x ∷ xs) (x ∷ insert_key cmp xs k))
      go Less ih = (p, h)
      go Equal ih = h
      go Greater ih = (h.0, ih)

  all_less : (a b : K) → cmp a b ≡ Less → (xs : List K) → AllByRecursion (λ c. cmp b c ≡ Less) xs → AllByRecursion (λ c. cmp a c ≡ Less) xs
  all_less a b e [] h = tt
  all_less a b e (x ∷ xs) h = (total.trans a b x e h.0, all_less a b e xs h.1)

  strict_with : (xs : List K) (k : K) → IsStrictlySortedBy cmp xs → IsStrictlySortedBy cmp (insert_key cmp xs k)
  unfolding IsStrictlySortedBy
  strict_with [] k h = (tt, tt)
  strict_with (x ∷ xs) k h = go (cmp k x) refl (strict_with xs k h.1)
    where
      go : (r : Ordering) → cmp k x ≡ r → IsStrictlySortedBy cmp (insert_key cmp xs k) → IsStrictlySortedBy cmp (match_ordering r (k ∷ x ∷ xs) (x ∷ xs) (x ∷ insert_key cmp xs k))
      go Less e ih = ((e, all_less k x e xs h.0), h)
      go Equal e ih = h
      go Greater e ih = (all_with (λ c. cmp x c ≡ Less) xs k (total.antisymm x k ∙ ap ordering_reverse e) h.0, ih)

  strict_with_all : (set more : List K) → IsStrictlySortedBy cmp set → IsStrictlySortedBy cmp (fold (insert_key cmp) set more)
  strict_with_all set [] h = h
  strict_with_all set (x ∷ xs) h = strict_with_all (insert_key cmp set x) xs (strict_with set x h)

  pub strict : (xs : List K) → IsStrictlySortedBy cmp (fold (insert_key cmp) [] xs)
  unfolding IsStrictlySortedBy
  strict xs = strict_with_all [] xs tt

  -- a sort of members of which no two compare equal
  strict_from_sort : (eq : K → K → Bool) → ((x y : K) → eq x y ≡ false → cmp x y ≡ Equal → ⊥) → (xs : List K) → IsSorted cmp xs → IsDistinct eq xs → IsStrictlySortedBy cmp xs
  unfolding IsStrictlySortedBy
  strict_from_sort eq apart [] s d = tt
  strict_from_sort eq apart (x ∷ xs) s d = sorted_from_all_adjacent total (x ∷ xs) x one
    where
      one : (k : ℕ) → k + 1 < length (x ∷ xs) → cmp (get_or (x ∷ xs) k x) (get_or (x ∷ xs) (k + 1) x) ≡ Less
      one k lt = go (cmp (get_or (x ∷ xs) k x) (get_or (x ∷ xs) (k + 1) x)) refl
        where
          a : K
          a = get_or (x ∷ xs) k x

          b : K
          b = get_or (x ∷ xs) (k + 1) x

          go : (r : Ordering) → cmp a b ≡ r → cmp a b ≡ Less
          go Less e = e
          go Equal e = absurd (apart a b (apart_from_distinct eq (x ∷ xs) k (k + 1) x d (omega arith) lt) e)
          go Greater e = let t : is_lt (cmp b a) ≡ false = s k x (omega arith) lt in let f = total.antisymm b a ∙ ap ordering_reverse e in cc

  -- two sorted lists with the same members
  sort_is : (xs ys : List K) → IsPermutation xs ys → IsStrictlySortedBy cmp ys → ys ≡ fold (insert_key cmp) [] xs
  sort_is xs ys p s =
      let set : List K = fold (insert_key cmp) [] xs in
      let a : BTreeSet K = record { keys = ys } in
      let b : BTreeSet K = record { keys = set } in
      btree_set_from_contains total a b s (strict xs)
      (λ q. sym (list_any-IsPermutation _ xs ys p) ∙ sym (list_any-insert_keys cmp exact _ [] xs)) exact

  -- a sort of distinct members is the list that inserting each of them makes
  pub sort_of_distinct : (eq : K → K → Bool) → ((x y : K) → eq x y ≡ false → cmp x y ≡ Equal → ⊥) → ((x y : K) → eq x y ≡ eq y x) → (xs ys : List K)
      → IsDistinct eq xs → IsPermutation xs ys → IsSorted cmp ys → ys ≡ fold (insert_key cmp) [] xs
  sort_of_distinct eq apart flips xs ys d p s =
      sort_is xs ys p (strict_from_sort eq apart ys s (IsDistinct-IsPermutation eq flips xs ys p d))

address_apart : (x y : ℕ) → nat_eq x y ≡ false → nat_cmp x y ≡ Equal → ⊥
address_apart x y h e = let same = exact_unsigned x y e in cc (h, eq-eqb x y same)

-- addresses that a sort made of distinct ones
pub sorted_by_sort : (xs ys : List ℕ) → IsDistinct nat_eq xs → IsPermutation xs ys → IsSorted nat_cmp ys → ys ≡ sorted xs
unfolding sorted
sorted_by_sort xs ys d p s =
    sort_of_distinct nat_cmp nat_cmp_total exact_unsigned nat_eq address_apart flips xs ys d p s
  where
    flips : (x y : ℕ) → nat_eq x y ≡ nat_eq y x
    flips x y = grind arith

edge_total : IsTotalOrder edge_cmp
edge_total = then_total (on_total (λ (e : ℕ × ℕ). e.0) nat_cmp_total) (on_total (λ (e : ℕ × ℕ). e.1) nat_cmp_total)

edge_apart : (x y : ℕ × ℕ) → is_same_edge x y ≡ false → edge_cmp x y ≡ Equal → ⊥
edge_apart x y h e =
    let same : x ≡ y = edge_exact x y e in
    let left : x.0 ≡ y.0 = ap (λ (p : ℕ × ℕ). p.0) same in
    let right : x.1 ≡ y.1 = ap (λ (p : ℕ × ℕ). p.1) same in
    true≢false (sym (ap₂ (λ a b. a && b) (eq-eqb x.0 y.0 left) (eq-eqb x.1 y.1 right)) ∙ h)

-- the same of edges
pub sorted_edges_by_sort : (xs ys : List (ℕ × ℕ)) → IsDistinct is_same_edge xs → IsPermutation xs ys → IsSorted edge_cmp ys → ys ≡ sorted_edges xs
unfolding sorted_edges
sorted_edges_by_sort xs ys d p s =
    sort_of_distinct edge_cmp edge_total edge_exact is_same_edge edge_apart flips xs ys d p s
  where
    each : (a b : ℕ) → (a == b) ≡ (b == a)
    each a b = grind arith

    flips : (x y : ℕ × ℕ) → is_same_edge x y ≡ is_same_edge y x
    flips x y = ap₂ (λ a b. a && b) (each x.0 y.0) (each x.1 y.1)

-- ---- sets with the same members have the same ascending lists

-- ascending lists are equal where a test that finds each key finds the same in both
same_keys : {K : Type 0} (cmp : K → K → Ordering) → IsTotalOrder cmp → CmpEqualImpliesEq cmp → (test : K → K → Bool) → ((q k : K) → is_at (cmp q) k ≡ test k q) → (xs ys : List K)
    → IsStrictlySortedBy cmp xs → IsStrictlySortedBy cmp ys → ((q : K) → list_any (λ k. test k q) xs ≡ list_any (λ k. test k q) ys) → xs ≡ ys
same_keys {K} cmp total exact test tells xs ys sx sy same =
    let a : BTreeSet K = record { keys = xs } in
    let b : BTreeSet K = record { keys = ys } in
    btree_set_from_contains total a b sx sy (λ q. at_keys q xs ∙ same q ∙ sym (at_keys q ys)) exact
  where
    at_keys : (q : K) (zs : List K) → list_any (is_at (cmp q)) zs ≡ list_any (λ k. test k q) zs
    at_keys q [] = refl
    at_keys q (z ∷ zs) = ap₂ (λ x y. x || y) (tells q z) (at_keys q zs)

address_tells : (q k : ℕ) → is_eq (nat_cmp q k) ≡ (k == q)
address_tells q k = go (nat_lt q k) (q == k) refl refl
  where
    go : (p r : Bool) → nat_lt q k ≡ p → (q == k) ≡ r → is_eq (cond p Less (cond r Equal Greater)) ≡ (k == q)
    go true r d e = let lt = ltb-true q k d in grind arith
    go false true d e = let same = eqb-true q k e in sym (eq-eqb k q (sym same))
    go false false d e = grind arith

pub sorted_same : (xs ys : List ℕ) → ((a : ℕ) → has xs a ≡ has ys a) → sorted xs ≡ sorted ys
unfolding sorted
sorted_same xs ys same =
    same_keys nat_cmp nat_cmp_total exact_unsigned (λ k q. k == q) address_tells (sorted xs) (sorted ys)
    (strict nat_cmp nat_cmp_total exact_unsigned xs) (strict nat_cmp nat_cmp_total exact_unsigned ys)
    (λ q. has-sorted xs q ∙ same q ∙ sym (has-sorted ys q))

then_tells : (r s : Ordering) → is_eq (ordering_then r s) ≡ (is_eq r && is_eq s)
then_tells Less s = refl
then_tells Equal s = refl
then_tells Greater s = refl

edge_tells : (q k : ℕ × ℕ) → is_eq (edge_cmp q k) ≡ is_same_edge k q
edge_tells q k = then_tells (nat_cmp q.0 k.0) (nat_cmp q.1 k.1) ∙ ap₂ (λ x y. x && y) (address_tells q.0 k.0) (address_tells q.1 k.1)

-- the same of edges
pub sorted_edges_same : (xs ys : List (ℕ × ℕ)) → ((e : ℕ × ℕ) → has_edge xs e ≡ has_edge ys e) → sorted_edges xs ≡ sorted_edges ys
unfolding sorted_edges
sorted_edges_same xs ys same =
    same_keys edge_cmp edge_total edge_exact is_same_edge edge_tells (sorted_edges xs) (sorted_edges ys)
    (strict edge_cmp edge_total edge_exact xs) (strict edge_cmp edge_total edge_exact ys)
    (λ q. has_edge-sorted xs q ∙ same q ∙ sym (has_edge-sorted ys q))
