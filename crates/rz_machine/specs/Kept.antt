-- Kept sets: the addresses of the instructions that a new file holds, and the edges between them.
pub use Rattle.rz_aset.specs.Sets.{has as has_node, with_addresses as with_nodes, with_edges}
pub use Rattle.rz_aset.specs.Sorted.{IsAscending, sorted, sorted_edges}
use Rattle.std.specs.Prelude.{ℕ, ◌==◌, Bool, List, map, filter}
use Rattle.rz_aset.specs.Sets.{has_edge as has_pair}

-- from an address to an address
abbrev pub Edges : Type 0
Edges = List (ℕ × ℕ)

-- two sets, in any order
pub record Kept : Type 0 where
  pub nodes : List ℕ
  pub edges : Edges

-- whether an edge from one address to another is in a set
abbrev pub has_edge : Edges → ℕ → ℕ → Bool
has_edge edges a b = has_pair edges (a, b)

-- where the edges from an address lead, ascending
abbrev pub targets_of : Edges → ℕ → List ℕ
targets_of edges a = map (λ e. e.1) (filter (λ e. e.0 == a) (sorted_edges edges))
