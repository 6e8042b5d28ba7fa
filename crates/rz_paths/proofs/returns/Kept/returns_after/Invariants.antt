use Rattle.std.proofs.Common.{take}
use Rattle.rz_paths.specs.Sets.{joins}
use Rattle.rz_paths.proofs.ReturnLemmas.{Gathered}
use Rattle.rz_paths.proofs.returns.Kept.returns_after.Given as goal

abbrev pub invariant-loop-f : goal.invariant-loop-f
invariant-loop-f g l = Gathered (g.P.Program.code l.self.program.now) l.self.nodes.now (joins l.self.edges.now) (take l.f-index l.callees) l.found
