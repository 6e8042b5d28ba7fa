use Rattle.std.proofs.Common.{◌≡◌, ℕ, take}
use Rattle.rz_aset.specs.Sets.{has}
use Rattle.rz_paths.specs.Sets.{joins}
use Rattle.rz_paths.specs.Calls.Inside.{touches}
use Rattle.rz_paths.proofs.returns.flow_of_edges.Given as goal

abbrev pub invariant-loop-edge : goal.invariant-loop-edge
invariant-loop-edge l = ((a : ℕ) → has l.flow.nodes a ≡ touches (take l.edge-index l.edges) a) × ((a b : ℕ) → joins l.flow.edges a b ≡ joins (take l.edge-index l.edges) a b)
