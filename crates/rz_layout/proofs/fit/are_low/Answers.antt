use Rattle.std.proofs.Common.{arith, []}
use Rattle.rz_layout.specs.Calls.Pieces.{piece_offset}
use Rattle.rz_layout.proofs.Offsets.{offset_more}
use Rattle.rz_layout.proofs.fit.are_low.Goals as goal

pub loop-piece-init : goal.loop-piece-init
unfolding piece_offset
loop-piece-init c = omega arith

pub loop-piece-preserved : goal.loop-piece-preserved
loop-piece-preserved c =
    let more = offset_more c.args.pieces.now [] c.loop-piece.piece-index in
    omega (arith, more, c.len-len.ensures)
