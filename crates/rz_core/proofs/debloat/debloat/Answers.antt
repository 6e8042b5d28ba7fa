use Rattle.std.proofs.Common.{◌≡◌, ℕ, List, ap₂}
use Rattle.rz_sys.specs.declared.input.Input.{Input}
use Rattle.rz_core.specs.Reading.{Read, read_in}
use Rattle.rz_core.specs.Debloated.{Sources, sources, sources_in, debloat_work}
use Rattle.rz_core.specs.Calls.Outcomes.{OwnRefusal}
use Rattle.rz_core.proofs.ResultLaws.{handed_on_err}
use Rattle.rz_core.proofs.OutcomeLaws.{debloated_done, undebloated}
use Rattle.rz_core.proofs.debloat.debloat.Goals as goal

pub returns-in-Ok-clause-done : goal.returns-in-Ok-clause-done
returns-in-Ok-clause-done c =
    let r : Read = read_in c.args.files.now in
    let from : Sources = sources c.exe.result.now.bytes r.functions c.as_slice-inputs.result.now in
    let same : from ≡ sources_in r = ap₂ (λ (x : List ℕ) (is : List Input). sources x r.functions is) c.exe.ensures.bytes c.as_slice-inputs.ensures.value in
    let made = c.in_ok-made.ensures in
    debloated_done c.args.level c.args.limit r from same c.in_ok-made.made c.in-Ok.outcome made.made made.report c.in-Ok.ensures

pub returns-in_err-made-clause-refused : goal.returns-in_err-made-clause-refused
returns-in_err-made-clause-refused c =
    let r : Read = read_in c.args.files.now in
    let from : Sources = sources c.exe.result.now.bytes r.functions c.as_slice-inputs.result.now in
    let same : from ≡ sources_in r = ap₂ (λ (x : List ℕ) (is : List Input). sources x r.functions is) c.exe.ensures.bytes c.as_slice-inputs.ensures.value in
    let st = c.in_err-made.field-0.0 in
    handed_on_err c.from_residual.result st (OwnRefusal (debloat_work c.args.level c.args.limit) r) c.from_residual.ensures.1
    (undebloated c.args.level c.args.limit r from same st c.in_err-made.ensures.err)
