use Rattle.std.proofs.Common.{◌≡◌, ◌≤◌, ◌+◌}
use Rattle.rz_layout.specs.Calls.Pieces.{piece_offset}
use Rattle.rz_layout.proofs.span.first_over.Given as goal

abbrev pub invariant-loop-start : goal.invariant-loop-start
invariant-loop-start l =
    record {
      before : l.start ≤ l.i;
      walked : piece_offset l.pieces l.forms l.start + 127 ≡ piece_offset l.pieces l.forms l.i + l.left;
    }

abbrev pub decreases-loop-start : goal.decreases-loop-start
decreases-loop-start l = l.start
