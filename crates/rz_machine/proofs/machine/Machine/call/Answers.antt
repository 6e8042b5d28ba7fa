use Rattle.std.proofs.Common.{◌≡◌, Some, sym, ◌∙◌}
use Rattle.rz_sys.specs.Answer.{answer}
use Rattle.rz_sys.specs.Laws.Answers.{exit_mem}
use Rattle.rz_machine.specs.MachineState.{MachineState}
use Rattle.rz_machine.proofs.Calls.{call_ends}
use Rattle.rz_machine.proofs.machine.Machine.call.Goals as goal

pub returns-in-Some-clause-ok : goal.returns-in-Some-clause-ok
returns-in-Some-clause-ok c =
    let s : MachineState = record { cpu = c.self.inside.cpu; mem = c.self.inside.mem; world = c.self.inside.world; end = c.self.inside.end } in
    let called = answer s.cpu.regs s.mem s.world in
    let exit : called.exit ≡ Some c.in-Some.status = sym c.in_ok-status.ensures.status ∙ c.in-Some.is in
    let mem : called.mem ≡ s.mem = exit_mem s.cpu.regs s.mem s.world c.in-Some.status exit in
    rw (c.in_ok-status.ensures.regs, c.in_ok-status.ensures.mem, c.in_ok-status.ensures.world, ← c.self.view_is) (call_ends called c.args.next s c.in-Some.status exit mem)
