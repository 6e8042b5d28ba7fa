use Rattle.std.proofs.Common.{◌≡◌, ◌+◌, ◌-◌, ◌≤◌}
use Rattle.rz_image.specs.Memory.{refused}
use Rattle.rz_image.specs.Run.{allows}
use Rattle.rz_image.proofs.runs.all_allow.Given as goal

abbrev pub invariant-loop-done : goal.invariant-loop-done
invariant-loop-done l =
    record {
      low : l.done ≤ l.len;
      left : refused (allows l.access) l.regions (l.at + l.done) (l.len - l.done) ≡ refused (allows l.access) l.regions l.at l.len;
    }

abbrev pub decreases-loop-done : goal.decreases-loop-done
decreases-loop-done l = l.len - l.done
