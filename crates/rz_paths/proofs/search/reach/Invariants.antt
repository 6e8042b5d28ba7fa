use Rattle.std.proofs.Common.{◌-◌, ◌^◌}
use Rattle.rz_paths.proofs.Searching.{Searched}
use Rattle.rz_paths.proofs.search.reach.Given as goal

abbrev pub invariant-loop-followed : goal.invariant-loop-followed
invariant-loop-followed g l = Searched l.starts (g.G.Successors.leads l.graph) l.found l.followed

abbrev pub decreases-loop-followed : goal.decreases-loop-followed
decreases-loop-followed g l = 2 ^ 63 - l.followed
