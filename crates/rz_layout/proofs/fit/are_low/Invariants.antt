use Rattle.std.proofs.Common.{◌≡◌, ◌+◌, []}
use Rattle.rz_layout.specs.Calls.Pieces.{piece_offset}
use Rattle.rz_layout.proofs.fit.are_low.Given as goal

abbrev pub invariant-loop-piece : goal.invariant-loop-piece
invariant-loop-piece l = l.here ≡ l.base + piece_offset l.pieces [] l.piece-index
