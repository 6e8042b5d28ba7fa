use Rattle.rz_machine.proofs.InsnSteps.{plain_heap}
use Rattle.rz_machine.proofs.machine.Machine.pass.Goals as goal

pub invariant_of-self : goal.invariant_of-self
invariant_of-self c = plain_heap c.args.insn.now c.self.inside.cpu c.self.inside.mem c.self.inside.world _ c.exec_plain.ensures.done c.self.invariant

pub invariant_of-self-in-Some : goal.invariant_of-self-in-Some
invariant_of-self-in-Some c = plain_heap c.args.insn.now c.self.inside.cpu c.self.inside.mem c.self.inside.world _ c.exec_plain.ensures.done c.self.invariant
