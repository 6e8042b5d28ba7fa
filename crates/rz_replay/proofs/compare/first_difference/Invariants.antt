use Rattle.std.proofs.Common.{◌≡◌, ◌+◌, drop}
use Rattle.rz_replay.specs.Verdict.{first_difference}
use Rattle.rz_replay.proofs.compare.first_difference.Given as goal

abbrev pub invariant-loop-i : goal.invariant-loop-i
invariant-loop-i l = first_difference l.old l.new ≡ l.i + first_difference (drop l.i l.old) (drop l.i l.new)
