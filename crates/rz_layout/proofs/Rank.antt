-- The rank of an address among ascending ones, and what a binary search finds there.
use Rattle.std.proofs.Common.{◌≡◌, ◌≢◌, ℕ, zero, suc, ◌<◌, ◌≤◌, List, [], ◌∷◌, length, get_or, Result, Ok, Err, MatchResult, refl, sym, arith}
use Rattle.std.specs.List.{AllByRecursion}
use Rattle.std.specs.List.Sorted.{IsBinarySearchResult}
use Rattle.std.specs.Ordering.{nat_cmp}
use Rattle.std.proofs.lemmas.Bool.Decides.{nat_tests}
use Rattle.std.proofs.lemmas.List.Sorted.{searched}
use Rattle.rz_layout.specs.Layout.{IsAscending}
use Rattle.rz_layout.specs.Order.{index_of}

-- what holds of each number of a list holds of the one at a place
pub all_at : (P : ℕ → Type 0) (xs : List ℕ) (i : ℕ) → AllByRecursion P xs → i < length xs → P (get_or xs i 0)
all_at P [] i h lt = absurd (omega arith)
all_at P (x ∷ xs) zero h lt = h.0
all_at P (x ∷ xs) (suc i) h lt = all_at P xs i h.1 (omega arith)

-- ascending addresses rise from place to place
pub ascending_le : (nodes : List ℕ) → IsAscending nodes → (i j : ℕ) → i ≤ j → j < length nodes → get_or nodes i 0 ≤ get_or nodes j 0
ascending_le [] up i j le lt = absurd (omega arith)
ascending_le (a ∷ nodes) up zero zero le lt = omega arith
ascending_le (a ∷ nodes) up zero (suc j) le lt = let h : a < get_or nodes j 0 = all_at (λ b. a < b) nodes j up.0 (omega arith) in omega arith
ascending_le (a ∷ nodes) up (suc i) zero le lt = absurd (omega arith)
ascending_le (a ∷ nodes) up (suc i) (suc j) le lt = ascending_le nodes up.1 i j (omega arith) (omega arith)

-- the rank of a member is its place
pub rank_at : (nodes : List ℕ) → IsAscending nodes → (a i : ℕ) → i < length nodes → get_or nodes i 0 ≡ a → index_of nodes a ≡ i
rank_at [] up a i lt e = absurd (omega arith)
rank_at (b ∷ nodes) up a zero lt e = grind (arith, nat_tests)
rank_at (b ∷ nodes) up a (suc i) lt e =
    let h : b < get_or nodes i 0 = all_at (λ c. b < c) nodes i up.0 (omega arith) in
    let later : index_of nodes a ≡ i = rank_at nodes up.1 a i (omega arith) e in
    grind (arith, nat_tests)

-- the rank of another address is their number
pub rank_absent : (nodes : List ℕ) (a : ℕ) → ((k : ℕ) → k < length nodes → get_or nodes k 0 ≢ a) → index_of nodes a ≡ length nodes
rank_absent [] a none = refl
rank_absent (b ∷ nodes) a none =
    let other : b ≢ a = none 0 (omega arith) in
    let later : index_of nodes a ≡ length nodes = rank_absent nodes a (λ k lt. none (suc k) (omega arith)) in
    grind (arith, nat_tests)

-- what a binary search answers, as a rank
pub found_rank : (nodes : List ℕ) → IsAscending nodes → (a : ℕ) (r : Result ℕ ℕ) → IsBinarySearchResult (λ y. nat_cmp y a) nodes r
    → MatchResult r (λ i. i ≡ index_of nodes a) (λ i. length nodes ≡ index_of nodes a)
found_rank nodes up a r h = from r (searched nodes a r h (ascending_le nodes up))
  where
    from : (r : Result ℕ ℕ)
        → MatchResult r (λ i. (i < length nodes) × (get_or nodes i 0 ≡ a)) (λ i. (i ≤ length nodes) × ((k : ℕ) → k < i → get_or nodes k 0 < a) × ((k : ℕ) → i ≤ k → k < length nodes → a < get_or nodes k 0))
        → MatchResult r (λ i. i ≡ index_of nodes a) (λ i. length nodes ≡ index_of nodes a)
    from (Ok i) found = sym (rank_at nodes up a i found.0 found.1)
    from (Err i) found = sym (rank_absent nodes a (λ k lt same. grind (arith, found.1 k, found.2 k)))
