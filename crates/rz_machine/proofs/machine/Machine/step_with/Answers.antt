use Rattle.std.proofs.Common.{◌≡◌, is_some, false, sym, ap, ◌∙◌, subst}
use Rattle.rz_isa.specs.Decoded.{decoded}
use Rattle.rz_sys.specs.Heap.{HasHeap}
use Rattle.rz_machine.specs.MachineState.{MachineState}
use Rattle.rz_machine.specs.Nodes.{code_in}
use Rattle.rz_machine.specs.State.{decoded_at}
use Rattle.rz_machine.specs.Calls.Cache.{Serves}
use Rattle.rz_machine.proofs.CacheLaws.{Serves-after, names_from}
use Rattle.rz_machine.proofs.machine.Machine.step_with.Goals as goal

pub act-requires : goal.act-requires
act-requires g c =
    let s = c.self.inside in
    names_from g.T.InsnTable.rows (code_in s.mem s.cpu.rip) s.cpu.rip c.in-Some.spelled.now c.in-Some.ensures

pub returns-in-Some-clause-serves : goal.returns-in-Some-clause-serves
returns-in-Some-clause-serves g c =
    let dec = decoded g.T.InsnTable.rows in
    let s = c.args.self.now in
    let heap = subst (λ (t : MachineState). HasHeap t.mem t.world) c.self.view_is c.self.invariant in
    let runs : is_some s.end ≡ false = ap (λ (t : MachineState). is_some t.end) (sym c.self.view_is) ∙ sym c.is_some.ensures ∙ c.if-is_some.false in
    let spelled = c.in-Some.ensures ∙ ap (λ (t : MachineState). decoded_at dec t) c.self.view_is in
    Serves-after dec c.act.result s c.act.new.self c.args.cache.now c.in-Some.spelled.now heap runs spelled c.act.ensures.ok c.act.ensures.err c.requires
