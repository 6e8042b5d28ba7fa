use Rattle.std.proofs.Common.{◌≡◌, ℕ, take}
use Rattle.rz_paths.specs.Sets.{joins}
use Rattle.rz_paths.specs.Calls.Inside.{calls_back}
use Rattle.rz_paths.proofs.returns.Kept.edges_back.Given as goal

abbrev pub invariant-loop-edge : goal.invariant-loop-edge
invariant-loop-edge g l = (f r : ℕ) → joins l.back f r ≡ calls_back (g.P.Program.code l.self.program.now) l.self.nodes.now (take l.edge-index l.self.edges.now) f r
