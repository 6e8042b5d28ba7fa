use Rattle.rz_machine.proofs.InsnSteps.{transfer_heap}
use Rattle.rz_machine.proofs.machine.Machine.perform.Goals as goal

pub invariant_of-self-in_default : goal.invariant_of-self-in_default
invariant_of-self-in_default c =
    let s = c.self-in-Transfers.inside in
    transfer_heap c.in-Transfers.how c.args.next s.cpu s.mem s.world _ c.transfer.ensures.done c.self-in-Transfers.invariant
