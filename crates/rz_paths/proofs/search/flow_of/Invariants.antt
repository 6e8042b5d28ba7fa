use Rattle.std.proofs.Common.{◌≡◌, ℕ, ◌&&◌, take}
use Rattle.rz_aset.specs.Sets.{has}
use Rattle.rz_paths.specs.Sets.{In, joins}
use Rattle.rz_paths.proofs.search.flow_of.Given as goal

abbrev pub invariant-loop-a : goal.invariant-loop-a
invariant-loop-a g l = ((a : ℕ) → In (take l.a-index l.nodes) a → In l.flow.nodes a) × ((a b : ℕ) → joins l.flow.edges a b ≡ (has (take l.a-index l.nodes) a && g.G.Successors.leads l.graph a b))
