-- What a binary search finds among pairs in ascending order.
use Rattle.std.proofs.Common.{◌≡◌, ◌≢◌, ℕ, zero, suc, ◌<◌, ◌≤◌, List, [], ◌∷◌, length, get_or, Some, None, Result, Ok, Err, MatchResult, refl, sym, ap, arith}
use Rattle.std.specs.List.{AllByRecursion}
use Rattle.std.specs.List.Sorted.{IsSearchInRange, IsBinarySearchResult, IsNonDecreasingBy}
use Rattle.std.specs.Ordering.{nat_cmp, ordering_index}
use Rattle.std.proofs.lemmas.Cmp.{ranked}
use Rattle.std.proofs.lemmas.List.Sorted.{IsNonDecreasingBy-from_default}
use Rattle.std.proofs.lemmas.Bool.Decides.{nat_tests}
use Rattle.rz_isa.specs.Items.{beside}
use Rattle.rz_layout.specs.Layout.{IsAscending}
use Rattle.rz_emit.specs.Emitted.{keys_of}

abbrev pub key_at : List (ℕ × ℕ) → ℕ → ℕ
key_at pairs i = (get_or pairs i (0, 0)).0

all_keys : (P : ℕ → Type 0) (pairs : List (ℕ × ℕ)) (i : ℕ) → AllByRecursion P (keys_of pairs) → i < length pairs → P (key_at pairs i)
all_keys P [] i h lt = absurd (omega arith)
all_keys P (p ∷ rest) zero h lt = h.0
all_keys P (p ∷ rest) (suc i) h lt = all_keys P rest i h.1 (omega arith)

rises : (pairs : List (ℕ × ℕ)) → IsAscending (keys_of pairs) → (i j : ℕ) → i < j → j < length pairs → key_at pairs i < key_at pairs j
rises [] up i j lt within = absurd (omega arith)
rises (p ∷ rest) up i zero lt within = absurd (omega arith)
rises (p ∷ rest) up zero (suc j) lt within = all_keys (λ b. p.0 < b) rest j up.0 (omega arith)
rises (p ∷ rest) up (suc i) (suc j) lt within = rises rest up.1 i j (omega arith) (omega arith)

-- what stands beside the first of equal keys is found
beside_at : (pairs : List (ℕ × ℕ)) (a i : ℕ) → i < length pairs → key_at pairs i ≡ a → ((k : ℕ) → k < i → key_at pairs k ≢ a) → beside pairs a ≡ Some (get_or pairs i (0, 0)).1
beside_at [] a i lt is before = absurd (omega arith)
beside_at (p ∷ rest) a zero lt is before = grind (arith, nat_tests)
beside_at (p ∷ rest) a (suc i) lt is before =
    let other : p.0 ≢ a = before 0 (omega arith) in
    let later = beside_at rest a i (omega arith) is (λ k h. before (suc k) (omega arith)) in
    grind (arith, nat_tests)

beside_absent : (pairs : List (ℕ × ℕ)) (a : ℕ) → ((k : ℕ) → k < length pairs → key_at pairs k ≢ a) → beside pairs a ≡ None
beside_absent [] a none = refl
beside_absent (p ∷ rest) a none =
    let other : p.0 ≢ a = none 0 (omega arith) in
    let later = beside_absent rest a (λ k h. none (suc k) (omega arith)) in
    grind (arith, nat_tests)

module _ (pairs : List (ℕ × ℕ)) (up : IsAscending (keys_of pairs)) (a : ℕ) where
  comparisons_rise : IsNonDecreasingBy (λ pair. ordering_index (nat_cmp pair.0 a)) pairs
  comparisons_rise = IsNonDecreasingBy-from_default (λ pair. ordering_index (nat_cmp pair.0 a)) pairs (0, 0) (λ i j le in_range.
      let keys_rise : key_at pairs i ≤ key_at pairs j = grind (arith, rises pairs up i j, λ (same : i ≡ j). ap (key_at pairs) same) in
      grind (arith, nat_tests))

  -- what a binary search by key answers
  pub found : (r : Result ℕ ℕ) → IsSearchInRange r (length pairs) → IsBinarySearchResult (λ pair. nat_cmp pair.0 a) pairs r
      → MatchResult r (λ i. beside pairs a ≡ Some (get_or pairs i (0, 0)).1) (λ i. beside pairs a ≡ None)
  found (Ok i) within equal =
      let same = ranked _ a _ (sym (equal (0, 0))) in
      beside_at pairs a i within same (λ k lt e. omega (arith, rises pairs up k i lt within, e, same))
  found (Err i) within parted =
      beside_absent pairs a (λ k lt e.
      let below = λ (h : k < i). ranked _ a _ (sym ((parted comparisons_rise).0 k (0, 0) (omega arith) h)) in
      let above = λ (h : i ≤ k). ranked _ a _ (sym ((parted comparisons_rise).1 k (0, 0) h lt)) in
      grind (arith, below, above))
