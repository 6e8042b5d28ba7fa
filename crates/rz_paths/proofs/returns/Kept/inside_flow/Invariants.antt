use Rattle.std.proofs.Common.{take}
use Rattle.rz_paths.proofs.LinkLemmas.{Stepped}
use Rattle.rz_paths.proofs.returns.Kept.inside_flow.Given as goal

abbrev pub invariant-loop-a : goal.invariant-loop-a
invariant-loop-a g l = Stepped (g.P.Program.code l.self.program.now) l.self.nodes.now l.self.edges.now (take l.a-index l.self.nodes.now) l.flow
