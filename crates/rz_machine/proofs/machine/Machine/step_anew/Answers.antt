use Rattle.std.proofs.Common.{◌≡◌, is_some, false, sym, ap, ◌∙◌, subst}
use Rattle.rz_isa.specs.Decoded.{decoded}
use Rattle.rz_sys.specs.Heap.{HasHeap}
use Rattle.rz_machine.specs.MachineState.{MachineState}
use Rattle.rz_machine.specs.Nodes.{code_in}
use Rattle.rz_machine.specs.State.{decoded_at}
use Rattle.rz_machine.specs.Calls.Cache.{Serves}
use Rattle.rz_machine.proofs.CacheLaws.{Serves-after, names_from}
use Rattle.rz_machine.proofs.machine.Machine.step_anew.Goals as goal

pub act-requires : goal.act-requires
act-requires g c =
    names_from g.T.InsnTable.rows (code_in c.self.inside.mem c.self.inside.cpu.rip) c.self.inside.cpu.rip c.decode-spelled.result c.decode-spelled.ensures.spelled

pub returns-clause-serves : goal.returns-clause-serves
returns-clause-serves g c =
    let dec = decoded g.T.InsnTable.rows in
    let s = c.args.self.now in
    let heap = subst (λ (t : MachineState). HasHeap t.mem t.world) c.self.view_is c.self.invariant in
    let runs : is_some s.end ≡ false = ap (λ (t : MachineState). is_some t.end) (sym c.self.view_is) ∙ sym c.is_some.ensures ∙ c.if-is_some.false in
    let spelled = c.decode-spelled.ensures.spelled ∙ ap (λ (t : MachineState). decoded_at dec t) c.self.view_is in
    let serves = subst (λ (t : MachineState). Serves dec t.mem c.decode-spelled.new.self) c.self.view_is c.decode-spelled.ensures.serves in
    Serves-after dec c.act.result s c.act.new.self c.decode-spelled.new.self c.decode-spelled.result heap runs spelled c.act.ensures.ok c.act.ensures.err serves
