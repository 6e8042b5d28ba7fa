use Rattle.std.proofs.Common.{arith, ◌+◌}
use Rattle.rz_layout.proofs.Offsets.{offset_more, offset_up}
use Rattle.rz_layout.proofs.span.span_within.Goals as goal

pub returns-then-len-left : goal.returns-then-len-left
returns-then-len-left c =
    let pieces = c.args.pieces.now in
    let forms = c.args.forms.now in
    let k = c.loop-k.k in
    let more = offset_more pieces forms k in
    let up = offset_up pieces forms (k + 1) c.args.to (omega arith) in
    (λ no. cc, λ fits. absurd (omega (arith, c.len-len.ensures, more, up, fits)))
