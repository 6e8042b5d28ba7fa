use Rattle.std.proofs.Common.{◌≡◌, ◌+◌, ◌-◌, ◌++◌, ◌≤◌}
use Rattle.rz_image.specs.Memory.{bytes_at}
use Rattle.rz_image.proofs.runs.copy.Given as goal

abbrev pub invariant-loop-done : goal.invariant-loop-done
invariant-loop-done l =
    record {
      low : l.done ≤ l.len;
      left : l.out ++ bytes_at l.regions (l.at + l.done) (l.len - l.done) ≡ bytes_at l.regions l.at l.len;
    }

abbrev pub decreases-loop-done : goal.decreases-loop-done
decreases-loop-done l = l.len - l.done
