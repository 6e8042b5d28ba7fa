use Rattle.rz_outside.specs.StoreCalls.{StoreCalls, store_calls}
use Rattle.rz_outside.specs.SinkCalls.{SinkCalls, sink_calls}
use Rattle.rz_core.specs.Commands.{command_of}
use Rattle.rz_core.specs.Calls.Planned.{planned}
use Rattle.rz_core.proofs.CauseLaws.{put, refused}
use Rattle.rz_core.proofs.driver.run_plan.Goals as goal

pub returns-in-Ok-clause-run : goal.returns-in-Ok-clause-run
returns-in-Ok-clause-run g c =
    let s : StoreCalls = store_calls g.S.Store c.args.store.now c.carry_out.new.store in
    let k : SinkCalls = sink_calls g.K.Sink c.args.out.now c.put.new.out in
    put (command_of (planned c.args.plan.now)) s k c.in-Ok.outcome c.in-Ok.ensures.carried c.put.result c.put.ensures.after

pub returns-in-Err-clause-run : goal.returns-in-Err-clause-run
returns-in-Err-clause-run g c =
    let s : StoreCalls = store_calls g.S.Store c.args.store.now c.carry_out.new.store in
    let k : SinkCalls = sink_calls g.K.Sink c.args.out.now c.refuse.new.out in
    refused (command_of (planned c.args.plan.now)) s k c.in-Err.status c.refuse.result c.in-Err.ensures.carried c.refuse.ensures.after
