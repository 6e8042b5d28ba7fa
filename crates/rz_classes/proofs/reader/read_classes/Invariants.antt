use Rattle.std.proofs.Common.{length, ◌≤◌}
use Rattle.rz_classes.proofs.ReadLaws.{IsListed}
use Rattle.rz_classes.proofs.reader.read_classes.Given as goal

abbrev pub invariant-loop-n : goal.invariant-loop-n
invariant-loop-n l = IsListed l.bytes l.classes l.lines × (length l.bytes ≤ 16777216)

abbrev pub decreases-loop-n : goal.decreases-loop-n
decreases-loop-n l = length l.lines
