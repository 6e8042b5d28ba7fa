-- Sets as lists of their members in the order in which they were first seen, each once.
use Rattle.std.specs.Prelude.{◌≡◌, ◌↔◌, ℕ, Bool, IsTrue, ◌&&◌, ◌==◌, List, [], ◌∷◌, ◌++◌, fold, take, if◌then◌else◌}
use Rattle.std.specs.declared.cmp.Ordering.{Ordering}
use Rattle.std.specs.Ordering.{nat_cmp, ordering_then}
use Rattle.std.specs.List.{list_any}

-- whether a list of addresses has an address
abbrev pub has : List ℕ → ℕ → Bool
has xs x = list_any (λ y. y == x) xs

-- a list of addresses has those of which a fact holds, and no others
abbrev pub HasExactly : List ℕ → (ℕ → Type 0) → Type 0
HasExactly xs P = (x : ℕ) → IsTrue (has xs x) ↔ P x

-- the set with an address: a new one goes last
abbrev pub with_address : List ℕ → ℕ → List ℕ
with_address xs x = if has xs x then xs else xs ++ x ∷ []

-- the set with each of a list of addresses
abbrev pub with_addresses : List ℕ → List ℕ → List ℕ
with_addresses xs ys = fold with_address xs ys

-- addresses from the front of a list were added, up to some place
abbrev pub AddsFront : List ℕ → List ℕ → List ℕ → Type 0
AddsFront old new ys = (n : ℕ) × (new ≡ with_addresses old (take n ys))

-- whether two edges have the same ends
abbrev pub is_same_edge : ℕ × ℕ → ℕ × ℕ → Bool
is_same_edge x y = x.0 == y.0 && x.1 == y.1

-- edges go by their first and then by their second address
abbrev pub edge_cmp : ℕ × ℕ → ℕ × ℕ → Ordering
edge_cmp x y = ordering_then (nat_cmp x.0 y.0) (nat_cmp x.1 y.1)

-- whether a list of edges has an edge
abbrev pub has_edge : List (ℕ × ℕ) → ℕ × ℕ → Bool
has_edge xs x = list_any (λ y. is_same_edge y x) xs

-- the set with an edge: a new one goes last
abbrev pub with_edge : List (ℕ × ℕ) → ℕ × ℕ → List (ℕ × ℕ)
with_edge xs x = if has_edge xs x then xs else xs ++ x ∷ []

-- the set with each of a list of edges
abbrev pub with_edges : List (ℕ × ℕ) → List (ℕ × ℕ) → List (ℕ × ℕ)
with_edges xs ys = fold with_edge xs ys
