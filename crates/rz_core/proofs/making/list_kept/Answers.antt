use Rattle.rz_machine.specs.Traced.{kept_in}
use Rattle.rz_core.specs.Debloated.{sources}
use Rattle.rz_core.proofs.MadeLaws.{is_kept}
use Rattle.rz_core.proofs.making.list_kept.Goals as goal

pub returns-in-Ok-clause-listing : goal.returns-in-Ok-clause-listing
returns-in-Ok-clause-listing c =
    let from = sources c.args.elf.now.bytes c.args.classes.now c.args.inputs.now in
    let listed = c.in-Ok.ensures in (
      kept_in listed.0,
      is_kept c.args.level c.args.limit from c.in_ok-recorded.recorded listed.0 c.in_ok-recorded.ensures.kept listed.1,
      listed.2,
    )
