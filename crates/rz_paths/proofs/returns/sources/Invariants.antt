use Rattle.std.proofs.Common.{◌≡◌, ℕ, take}
use Rattle.rz_aset.specs.Sets.{has}
use Rattle.rz_paths.specs.Calls.Inside.{starts_at}
use Rattle.rz_paths.proofs.returns.sources.Given as goal

abbrev pub invariant-loop-edge : goal.invariant-loop-edge
invariant-loop-edge l = (a : ℕ) → has l.set a ≡ starts_at (take l.edge-index l.edges) a
