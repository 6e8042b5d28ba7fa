use Rattle.std.proofs.Common.{◌≡◌}
use Rattle.std.specs.Prelude.{Ok}
use Rattle.rz_core.specs.declared.plan.Demand.TheVariants.{Unmapped}
use Rattle.rz_core.specs.Reading.{Read, read_in, with_executable, taken_as}
use Rattle.rz_core.specs.Calls.Taking.{Untaken}
use Rattle.rz_core.proofs.ResultLaws.{on_ok, handed_on_err}
use Rattle.rz_core.proofs.TakeLaws.{unmapped_taken, mapped_untaken}
use Rattle.rz_core.proofs.reading.take_unmapped.Goals as goal

pub returns-in_err-check_unmapped-clause-err : goal.returns-in_err-check_unmapped-clause-err
returns-in_err-check_unmapped-clause-err c =
    let r : Read = read_in c.args.files.now in
    let name = c.args.name.now in
    let st = c.in_err-check_unmapped.field-0.0 in
    let accepted = c.in_ok-elf.ensures.accepted in
    handed_on_err c.from_residual-in_err-check_unmapped.result st (Untaken (taken_as Unmapped name r c.args.bytes)) c.from_residual-in_err-check_unmapped.ensures.1
    (mapped_untaken name r c.args.bytes c.in_ok-elf.elf accepted.0 accepted.1 st c.in_err-check_unmapped.ensures.refused)

pub returns-clause-ok : goal.returns-clause-ok
returns-clause-ok c =
    let r : Read = read_in c.args.files.now in
    let after : Read = read_in c.add_executable.new.files in
    let name = c.args.name.now in
    let elf = c.in_ok-elf.elf in
    let accepted = c.in_ok-elf.ensures.accepted in
    on_ok c.add_executable.result (after ≡ with_executable r elf) (taken_as Unmapped name r c.args.bytes ≡ Ok after)
    (λ e. unmapped_taken name r c.args.bytes elf accepted.0 accepted.1 after c.in_ok-check_unmapped.ensures.unmapped e)
    c.add_executable.ensures.ok
