use Rattle.rz_layout.proofs.Offsets.{reaches_forward, reaches_backward}
use Rattle.rz_layout.proofs.span.reaches.Goals as goal

pub returns-then-i-to : goal.returns-then-i-to
returns-then-i-to c =
    let same = reaches_forward c.args.pieces.now c.args.forms.now c.args.i c.args.to c.requires.short c.if-i-to.true in
    (λ yes. same.0 (c.span_within.ensures.0 yes), λ r. c.span_within.ensures.1 (same.1 r))

pub returns-else-i-to : goal.returns-else-i-to
returns-else-i-to c =
    let same = reaches_backward c.args.pieces.now c.args.forms.now c.args.i c.args.to c.if-i-to.false in
    (λ yes. same.0 (c.span_within-else-i-to.ensures.0 yes), λ r. c.span_within-else-i-to.ensures.1 (same.1 r))
