use Rattle.std.proofs.Common.{sym, subst}
use Rattle.rz_machine.specs.Traced.{kept_in}
use Rattle.rz_core.specs.Debloated.{sources}
use Rattle.rz_core.specs.Calls.Making.{MakeRefusal}
use Rattle.rz_core.proofs.ResultLaws.{handed_on_err}
use Rattle.rz_core.proofs.MadeLaws.{debloated_of, is_kept, make_refusal, refused_of}
use Rattle.rz_core.proofs.making.make.Goals as goal

pub returns-in-Ok-write_new-clause-made : goal.returns-in-Ok-write_new-clause-made
returns-in-Ok-write_new-clause-made c =
    let from = sources c.args.elf.now.bytes c.args.classes.now c.args.inputs.now in
    let runs = c.in_ok-recorded.ensures in
    let kept = c.in-Ok.ensures in
    let made = c.in-Ok-write_new.ensures in
    debloated_of c.args.level c.args.limit from c.in_ok-recorded.recorded c.in-Ok.kept runs.kept kept.keeps runs.stay c.in-Ok-write_new.made.bytes
    kept.within made.reach made.room made.keeps made.paced made.costs made.inert

pub returns-in-Ok-write_new-clause-report : goal.returns-in-Ok-write_new-clause-report
returns-in-Ok-write_new-clause-report c =
    let from = sources c.args.elf.now.bytes c.args.classes.now c.args.inputs.now in
    (kept_in c.in-Ok.kept, is_kept c.args.level c.args.limit from c.in_ok-recorded.recorded c.in-Ok.kept c.in_ok-recorded.ensures.kept c.in-Ok.ensures.keeps, c.in-Ok-write_new.ensures.report)

pub returns-clause-err : goal.returns-clause-err
returns-clause-err c =
    let from = sources c.args.elf.now.bytes c.args.classes.now c.args.inputs.now in
    let runs = c.in_ok-recorded.ensures in
    subst (MakeRefusal c.args.level c.args.limit from) (sym c.refused.ensures)
    (refused_of c.args.level c.args.limit from c.in_ok-recorded.recorded c.in-Ok.kept runs.kept c.in-Ok.ensures.keeps runs.stay c.in-Err.why c.in-Err.ensures.refused)

pub returns-in_err-recorded-clause-err : goal.returns-in_err-recorded-clause-err
returns-in_err-recorded-clause-err c =
    let st = c.in_err-recorded.field-0.0 in
    let from = sources c.args.elf.now.bytes c.args.classes.now c.args.inputs.now in
    handed_on_err c.from_residual.result st (MakeRefusal c.args.level c.args.limit from) c.from_residual.ensures.1
    (make_refusal c.args.level c.args.limit from st c.in_err-recorded.ensures.err)
