use Rattle.std.proofs.Common.{Result, Ok, Err, OnOk, subst}
use Rattle.rz_sys.specs.Heap.{HasHeap}
use Rattle.rz_machine.specs.MachineState.{MachineState}
use Rattle.rz_trace.proofs.TraceTurns.{no_memory, HasPart-nothing}
use Rattle.rz_machine.specs.Laws.Recorded.{traced_plausible, traced_uncut}
use Rattle.rz_trace.proofs.tracer.trace.Goals as goal

on_both : {A E : Type 0} (P Q R : Type 0) (r : Result A E) → OnOk r P → OnOk r Q → (P → Q → R) → OnOk r R
on_both P Q R (Ok a) p q f = f p q
on_both P Q R (Err e) p q f = tt

pub returns-in_err-machine-clause-refused : goal.returns-in_err-machine-clause-refused
returns-in_err-machine-clause-refused g c = no_memory _ _ _ _ _ _ c.from_residual.ensures.1 (HasPart-nothing _ _ _ _)

pub returns-clause-plausible : goal.returns-clause-plausible
returns-clause-plausible g c =
    let heap = subst (λ (s : MachineState). HasHeap s.mem s.world) c.machine.view_is c.machine.invariant in
    on_both _ _ _ c.follow.result c.follow.ensures.ok c.follow.ensures.stays (traced_plausible _ _ _ _ _ _ _ heap c.in_ok-machine.ensures)

pub returns-clause-uncut : goal.returns-clause-uncut
returns-clause-uncut g c = on_both _ _ _ c.follow.result c.follow.ensures.ok c.follow.ensures.stays (traced_uncut _ _ _ _ _ _ c.in_ok-machine.ensures)
