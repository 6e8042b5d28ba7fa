-- Lists of numbers of nodes, and their changes.
use Rattle.std.specs.Prelude.{◌≡◌, ◌<◌, ◌+◌, ℕ, zero, suc, Option, Some, None, List, [], ◌∷◌, ◌++◌, slice_get, slice_index_or, slice_set, if◌then◌else◌, ◌==◌}

-- the list of a number; past the last, the list of no nodes
abbrev pub list_at : List (List ℕ) → ℕ → List ℕ
list_at lists l = slice_index_or lists l []

-- the node at place k of list l
abbrev pub node_in : List (List ℕ) → ℕ → ℕ → Option ℕ
node_in lists l k = slice_get (list_at lists l) k

-- the node before that place
abbrev pub node_before : List (List ℕ) → ℕ → ℕ → Option ℕ
node_before lists l zero = None
node_before lists l (suc k) = node_in lists l k

-- what stands after a node, wherever that one stands
abbrev pub IsNext : List (List ℕ) → ℕ → Option ℕ → Type 0
IsNext lists n next = (l k : ℕ) → node_in lists l k ≡ Some n → next ≡ node_in lists l (k + 1)

-- what stands before a node, wherever that one stands
abbrev pub IsPrev : List (List ℕ) → ℕ → Option ℕ → Type 0
IsPrev lists n prev = (l k : ℕ) → node_in lists l k ≡ Some n → prev ≡ node_before lists l k

-- a list without a node
abbrev pub without : ℕ → List ℕ → List ℕ
without n [] = []
without n (x ∷ xs) = if x == n then without n xs else x ∷ without n xs

-- a list with node n just after node m, where that one stands
abbrev pub after : ℕ → ℕ → List ℕ → List ℕ
after m n [] = []
after m n (x ∷ xs) = if x == m then x ∷ n ∷ after m n xs else x ∷ after m n xs

-- the lists with a node at the back of list l
abbrev pub with_back : List (List ℕ) → ℕ → ℕ → List (List ℕ)
with_back lists l n = slice_set lists l (list_at lists l ++ n ∷ [])

-- a node stands at one place of one list
abbrev pub StandsOnce : List (List ℕ) → ℕ → Type 0
StandsOnce lists n = (l m j k : ℕ) → node_in lists l j ≡ Some n → node_in lists m k ≡ Some n → (l ≡ m) × (j ≡ k)

-- the lists have only nodes below a number
abbrev pub AreBelow : List (List ℕ) → ℕ → Type 0
AreBelow lists nodes = (n l k : ℕ) → node_in lists l k ≡ Some n → n < nodes
