use Rattle.rz_elf.specs.Loaded.{IsRead}
use Rattle.rz_core.proofs.DemoLaws.{steps_are, comes_to}
use Rattle.rz_core.proofs.demo.run_on_nothing.Goals as goal

pub returns-clause-steps : goal.returns-clause-steps
returns-clause-steps c =
    let elf = c.args.elf.now in
    let is : IsRead elf = c.requires in
    steps_are elf is c.empty-input.result c.in_ok-machine.machine c.run_counting.new.self c.in_ok-machine.ensures c.in_ok-steps.ensures.ran c.empty-input.ensures
    c.in_ok-steps.steps c.in_ok-steps.ensures.steps

pub returns-clause-machine : goal.returns-clause-machine
returns-clause-machine c =
    let elf = c.args.elf.now in
    let is : IsRead elf = c.requires in
    comes_to elf is c.empty-input.result c.in_ok-machine.machine c.run_counting.new.self c.in_ok-machine.ensures c.in_ok-steps.ensures.ran c.empty-input.ensures
