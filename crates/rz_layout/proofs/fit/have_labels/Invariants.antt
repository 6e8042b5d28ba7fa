use Rattle.std.proofs.Common.{ℕ, ◌<◌, length}
use Rattle.rz_layout.specs.Calls.Pieces.{piece_at, HasLabelWithin}
use Rattle.rz_layout.proofs.fit.have_labels.Given as goal

abbrev pub invariant-loop-piece : goal.invariant-loop-piece
invariant-loop-piece l = (k : ℕ) → k < l.piece-index → HasLabelWithin (length l.pieces) (piece_at l.pieces k)
