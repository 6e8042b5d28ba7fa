use Rattle.std.proofs.lemmas.Bool.{OnTrue_from, OnFalse_from, iff_false, not-true, not-false}
use Rattle.std.proofs.Common.{◌≡◌}
use Rattle.rz_isa.specs.declared.rows.Form.TheVariants.{Short}
use Rattle.rz_isa.specs.Plan.{form_at}
use Rattle.rz_layout.specs.Calls.Pieces.{MayBeShortAt, IsTooFar}
use Rattle.rz_layout.proofs.Offsets.{fixed_not_short, short_reaches, may_be_short}
use Rattle.rz_layout.proofs.span.is_too_far.Goals as goal

pub returns-in-Fixed-clause-far : goal.returns-in-Fixed-clause-far
returns-in-Fixed-clause-far c =
    record { short = c.in-Short.is; unreached = fixed_not_short c.args.pieces.now c.args.forms.now c.args.i _ c.in-Fixed.is }

pub returns-in-Jump-clause-far : goal.returns-in-Jump-clause-far
returns-in-Jump-clause-far c =
    let pieces = c.args.pieces.now in
    let forms = c.args.forms.now in
    let i = c.args.i in
    OnTrue_from _ (IsTooFar pieces forms i)
    (λ far.
    record {
      short = c.in-Short.is;
      unreached =
          λ may. iff_false c.reaches.ensures (not-true _ far) (short_reaches pieces forms i c.in-Jump.cond c.in-Jump.to c.in-Jump.is may);
    })

pub returns-in-Jump-clause-near : goal.returns-in-Jump-clause-near
returns-in-Jump-clause-near c =
    let pieces = c.args.pieces.now in
    let forms = c.args.forms.now in
    let i = c.args.i in
    OnFalse_from _ (form_at forms i ≡ Short → MayBeShortAt pieces forms i)
    (λ near. let may : MayBeShortAt pieces forms i = may_be_short pieces forms i c.in-Jump.cond c.in-Jump.to c.in-Jump.is (c.reaches.ensures.0 (not-false _ near)) in λ _. may)
