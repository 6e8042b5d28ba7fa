use Rattle.std.proofs.Common.{◌-◌, ◌^◌}
use Rattle.rz_flow.proofs.Reaching.{Reaching}
use Rattle.rz_flow.proofs.flow.Flow.reach.Given as goal

abbrev pub invariant-loop-followed : goal.invariant-loop-followed
invariant-loop-followed l = Reaching l.family l.self l.starts l.found l.followed

abbrev pub decreases-loop-followed : goal.decreases-loop-followed
decreases-loop-followed l = 2 ^ 63 - l.followed
