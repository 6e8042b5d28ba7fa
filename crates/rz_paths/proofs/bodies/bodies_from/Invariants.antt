use Rattle.std.proofs.Common.{◌-◌, ◌^◌}
use Rattle.rz_aset.specs.Sets.{has}
use Rattle.rz_paths.proofs.BodyLemmas.{Bringing}
use Rattle.rz_paths.proofs.bodies.bodies_from.Given as goal

abbrev pub invariant-loop-followed : goal.invariant-loop-followed
invariant-loop-followed g l = Bringing (g.P.Program.code l.program) (has l.passing) l.classes l.recorded l.walks l.starts l.bodies l.followed

abbrev pub decreases-loop-followed : goal.decreases-loop-followed
decreases-loop-followed g l = 2 ^ 63 - l.followed
