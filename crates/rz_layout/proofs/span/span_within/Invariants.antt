use Rattle.std.proofs.Common.{◌≡◌, ◌+◌}
use Rattle.rz_layout.specs.Calls.Pieces.{piece_offset}
use Rattle.rz_layout.proofs.span.span_within.Given as goal

abbrev pub invariant-loop-k : goal.invariant-loop-k
invariant-loop-k l = l.left + piece_offset l.pieces l.forms l.k ≡ piece_offset l.pieces l.forms l.from + l.limit
