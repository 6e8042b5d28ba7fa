use Rattle.std.proofs.Common.{ap, ◌∙◌}
use Rattle.rz_machine.specs.Kept.{Kept}
use Rattle.rz_trace.specs.Printed.{printed}
use Rattle.rz_core.specs.Recorded.{trace_report}
use Rattle.rz_core.specs.Calls.Making.{TraceRefusal}
use Rattle.rz_core.proofs.ResultLaws.{handed_on_err}
use Rattle.rz_core.proofs.MadeLaws.{trace_refusal}
use Rattle.rz_core.proofs.making.make_trace.Goals as goal

pub returns-in_err-kept-clause-err : goal.returns-in_err-kept-clause-err
returns-in_err-kept-clause-err c =
    let st = c.in_err-kept.field-0.0 in
    let x = c.args.elf.now.bytes in
    handed_on_err c.from_residual.result st (TraceRefusal c.args.limit x c.args.inputs.now) c.from_residual.ensures.1
    (trace_refusal x c.args.limit c.args.inputs.now st c.in_err-kept.ensures.err)

pub returns-in-Ok-clause-made : goal.returns-in-Ok-clause-made
returns-in-Ok-clause-made c = c.in-Ok.ensures.bytes ∙ ap (λ (kept : Kept). printed kept) c.in_ok-kept.ensures.kept

pub returns-in-Ok-clause-report : goal.returns-in-Ok-clause-report
returns-in-Ok-clause-report c = c.in-Ok.ensures.report ∙ ap (λ (kept : Kept). trace_report kept) c.in_ok-kept.ensures.kept
