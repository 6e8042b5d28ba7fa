use Rattle.std.proofs.Common.{ap₂, refl, ◌∙◌}
use Rattle.rz_core.specs.declared.status.Status.TheVariants as status
use Rattle.rz_core.specs.Reading.{read_in}
use Rattle.rz_core.specs.Paired.{paired_text, report_work}
use Rattle.rz_core.proofs.OutcomeLaws.{said_done}
use Rattle.rz_core.proofs.report.report.Goals as goal

pub returns : goal.returns
returns c =
    said_done report_work (read_in c.args.files.now) c.said.result status.Ok c.in_ok-text.text c.said.ensures tt refl refl
    (c.in_ok-text.ensures ∙ ap₂ paired_text c.exe.ensures.bytes c.new_file.ensures.bytes)
