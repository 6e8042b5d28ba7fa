use Rattle.std.proofs.Common.{◌≡◌, ◌++◌, ◌+◌, ◌-◌, ◌≤◌, take}
use Rattle.rz_image.specs.Memory.{fetch}
use Rattle.rz_image.proofs.runs.fetch.Given as goal

abbrev pub invariant-loop-n : goal.invariant-loop-n
invariant-loop-n l = record { low : l.n ≤ 15; left : take l.n l.out ++ fetch l.regions (l.at + l.n) (15 - l.n) ≡ fetch l.regions l.at 15 }

abbrev pub decreases-loop-n : goal.decreases-loop-n
decreases-loop-n l = 15 - l.n
