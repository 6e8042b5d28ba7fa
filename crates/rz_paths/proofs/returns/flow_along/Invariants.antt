use Rattle.std.proofs.Common.{◌≡◌, ℕ, ◌&&◌, take}
use Rattle.rz_paths.specs.Sets.{joins}
use Rattle.rz_paths.specs.Calls.Inside.{is_along_at}
use Rattle.rz_paths.proofs.returns.flow_along.Given as goal

abbrev pub invariant-loop-edge : goal.invariant-loop-edge
invariant-loop-edge g l = (a b : ℕ) → joins l.flow.edges a b ≡ (joins (take l.edge-index l.edges) a b && is_along_at (g.P.Program.code l.program) a)
