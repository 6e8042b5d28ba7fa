-- The members of a set in ascending order.
use Rattle.std.specs.Prelude.{ℕ, ◌<◌, List, [], ◌∷◌, fold}
use Rattle.std.specs.Ordering.{nat_cmp}
use Rattle.std.specs.List.{AllByRecursion}
use Rattle.std.specs.BTreeSet.{insert_key}
use Rattle.rz_aset.specs.Sets.{edge_cmp}

-- each address is below those after it
abbrev pub IsAscending : List ℕ → Type 0
IsAscending [] = Unit {0}
IsAscending (a ∷ rest) = AllByRecursion (λ b. a < b) rest × IsAscending rest

-- the addresses of a list in ascending order, each once
unfoldable pub sorted : List ℕ → List ℕ
sorted xs = fold (insert_key nat_cmp) [] xs

-- the edges of a list in ascending order, each once
unfoldable pub sorted_edges : List (ℕ × ℕ) → List (ℕ × ℕ)
sorted_edges xs = fold (insert_key edge_cmp) [] xs
