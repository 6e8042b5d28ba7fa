use Rattle.std.proofs.Common.{sym, subst}
use Rattle.std.specs.Prelude.{IfOk}
use Rattle.rz_core.specs.declared.plan.Verb.{Verb}
use Rattle.rz_core.specs.Reading.{Read, read_in}
use Rattle.rz_core.specs.Command.{IsDoneBy}
use Rattle.rz_core.specs.Words.{places_of}
use Rattle.rz_core.specs.Commands.{work_of}
use Rattle.rz_core.specs.Generated.{generate_work}
use Rattle.rz_core.specs.Calls.Planned.{writes_in}
use Rattle.rz_core.proofs.ResultLaws.{if_ok}
use Rattle.rz_core.proofs.OutcomeLaws.{or_memory_done}
use Rattle.rz_core.proofs.perform.perform.Goals as goal

pub returns-in-Generate-clause-done : goal.returns-in-Generate-clause-done
returns-in-Generate-clause-done c =
    let r : Read = read_in c.args.files.now in
    subst (λ (v : Verb). IfOk c.or_memory-in-Generate.result (IsDoneBy (work_of v c.args.values) (writes_in (places_of v)) r)) (sym c.in-Generate.is)
    (or_memory_done (generate_work c.args.values.number) 1 r c.generate.result c.or_memory-in-Generate.result c.or_memory-in-Generate.ensures c.generate.ensures)

pub returns-in-Demo-clause-done : goal.returns-in-Demo-clause-done
returns-in-Demo-clause-done c =
    let r : Read = read_in c.args.files.now in
    subst (λ (v : Verb). IfOk c.demo.result (IsDoneBy (work_of v c.args.values) (writes_in (places_of v)) r)) (sym c.in-Demo.is)
    (if_ok c.demo.result _ _ (λ o h. h r) c.demo.ensures.done)
