-- What a set holds after more members are added, and in ascending order.
pub use Rattle.rz_aset.specs.Laws.Members.{has-with_more as has_node-with_nodes}
pub use Rattle.rz_aset.specs.Laws.Sorted.{has-sorted as has_node-sorted, IsAscending-sorted, sorted-ascending, sorted-sorted}
use Rattle.std.proofs.Common.{◌≡◌, ◌||◌, ℕ}
use Rattle.rz_aset.specs.Laws.Members.{has_edge-with_more}
use Rattle.rz_aset.specs.Laws.Sorted.{has_edge-sorted as has_pair-sorted}
use Rattle.rz_machine.specs.Kept.{Edges, has_edge, sorted_edges, with_edges}

-- an edge is in a set of more edges exactly where it is in the set or among those
pub has_edge-with_edges : (set more : Edges) (a b : ℕ) → has_edge (with_edges set more) a b ≡ (has_edge set a b || has_edge more a b)
has_edge-with_edges set more a b = has_edge-with_more set more (a, b)

pub has_edge-sorted : (edges : Edges) (a b : ℕ) → has_edge (sorted_edges edges) a b ≡ has_edge edges a b
has_edge-sorted edges a b = has_pair-sorted edges (a, b)
