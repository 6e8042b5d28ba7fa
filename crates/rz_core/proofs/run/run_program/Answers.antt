use Rattle.std.proofs.Common.{subst}
use Rattle.rz_elf.specs.Loaded.{IsRead}
use Rattle.rz_core.specs.declared.status.Status.{Status}
use Rattle.rz_core.specs.Calls.Outcomes.{IsSaid}
use Rattle.rz_core.proofs.RunLaws.{is_ran}
use Rattle.rz_core.proofs.run.run_program.Goals as goal

pub returns : goal.returns
returns c =
    let elf = c.args.elf.now in
    let is : IsRead elf = c.requires.read in
    let text = c.in_ok-text.text in
    let o = c.said.result in
    let said = subst (λ (st : Status). IsSaid st text o) c.status_at-status.ensures c.said.ensures in
    is_ran elf is c.args.limit c.args.input.now c.in_ok-machine.machine c.run.new.self c.in_ok-machine.ensures c.in_ok-run.ensures.ok c.stub_word.result text o c.stub_word.ensures c.in_ok-text.ensures said
