use Rattle.std.proofs.lemmas.Result.{IfOk-weaker}
use Rattle.rz_core.proofs.DemoLaws.{lines_are}
use Rattle.rz_core.proofs.demo.run_lines.Goals as goal

pub returns : goal.returns
returns c =
    let ran = c.in_ok-ran.ensures in
    IfOk-weaker c.lines_of_run.result _ _
    (λ text is. lines_are c.args.elf.now c.requires c.args.count c.in_ok-ran.ran.steps c.in_ok-ran.ran.machine text ran.steps ran.machine is)
    c.lines_of_run.ensures
