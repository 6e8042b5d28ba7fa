use Rattle.std.proofs.Common.{◌+◌, ◌*◌, List, length, not, ap, ◌∙◌}
use Rattle.rz_isa.specs.Decoded.{decoded}
use Rattle.rz_sys.specs.declared.event.Event.{Event}
use Rattle.rz_machine.specs.Until.{steps_until}
use Rattle.rz_replay.specs.Verdict.{is_decided, new_run}
use Rattle.rz_replay.proofs.VerdictLaws.{decided_run}
use Rattle.rz_replay.proofs.compare.run_beside.Goals as goal

pub returns : goal.returns
returns g c =
    let dec = decoded g.T.InsnTable.rows in
    let wanted = c.args.wanted.now in
    let size = c.executable_size.result in
    let s = c.in_ok-machine.machine in
    let steps = c.in_ok-observe.ensures.steps ∙ ap (λ (xs : List Event). steps_until (is_decided (length xs)) dec (c.args.limit * (64 + size)) s) c.as_slice.ensures in
    decided_run dec c.args.limit c.args.elf.now wanted.events wanted.end s c.observe.new.self c.in_ok-observe.field-0 size
    (c.is_none.ensures ∙ ap not c.if-is_none.false) c.executable_size.ensures.size steps c.in_ok-observe.ensures.ran
    ∙ ap (new_run dec c.args.limit c.args.elf.now wanted) c.in_ok-machine.ensures
