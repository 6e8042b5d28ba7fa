use Rattle.std.proofs.Common.{arith, ◌+◌, ◌-◌}
use Rattle.rz_layout.proofs.Offsets.{offset_last, offset_up}
use Rattle.rz_layout.proofs.span.first_over.Goals as goal

pub returns-then-len-left-clause-away : goal.returns-then-len-left-clause-away
returns-then-len-left-clause-away c =
    λ k h.
    let pieces = c.args.pieces.now in
    let forms = c.args.forms.now in
    let start = c.loop-start.start in
    let last = offset_last pieces forms start (omega arith) in
    let up = offset_up pieces forms (k + 1) (start - 1) (omega arith) in
    omega (arith, last, up, c.len-len.ensures)

pub loop-start-preserved : goal.loop-start-preserved
loop-start-preserved c =
    let last = offset_last c.args.pieces.now c.args.forms.now c.loop-start.start (omega arith) in
    record { before = omega arith; walked = omega (arith, last, c.len-len.ensures) }
