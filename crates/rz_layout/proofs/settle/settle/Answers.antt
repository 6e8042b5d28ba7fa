use Rattle.rz_layout.proofs.Settling.{least-set, settled-set}
use Rattle.rz_layout.proofs.settle.settle.Goals as goal

pub loop-i-preserved-then-is_too_far : goal.loop-i-preserved-then-is_too_far
loop-i-preserved-then-is_too_far c =
    let pieces = c.args.pieces.now in
    let forms = c.loop-i.forms in
    let over = c.first_over-start.ensures in
    record {
      least = least-set pieces forms c.loop-i.i c.loop-i.invariant.least c.if-is_too_far.ensures.far;
      settled = settled-set pieces forms c.loop-i.i c.first_over-start.result over.before over.away c.loop-i.invariant.settled;
    }
