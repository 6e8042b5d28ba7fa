use Rattle.std.proofs.lemmas.Result.{IfOk-weaker}
use Rattle.rz_core.specs.Reading.{read_in}
use Rattle.rz_core.proofs.RunLaws.{ran_done}
use Rattle.rz_core.proofs.run.run.Goals as goal

pub returns : goal.returns
returns c =
    IfOk-weaker c.run_program.result _ _
    (λ o is. ran_done c.args.limit (read_in c.args.files.now) c.exe.result.now.bytes c.input.result.now o c.exe.ensures.bytes c.input.ensures.input is)
    c.run_program.ensures
