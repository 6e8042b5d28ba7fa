use Rattle.std.proofs.Common.{◌≤◌, length, ap, arith}
use Rattle.rz_aset.specs.declared.kept.Record.{Record}
use Rattle.rz_core.specs.Calls.Making.{RunsRefusal}
use Rattle.rz_core.proofs.ResultLaws.{handed_on_err}
use Rattle.rz_core.proofs.UnionLaws.{unites_none, unites_more, unites_not, unites_all}
use Rattle.rz_machine.specs.Traced.{kept_in}
use Rattle.rz_core.proofs.making.record_runs.Goals as goal

pub returns-in_err-record_run-clause-err : goal.returns-in_err-record_run-clause-err
returns-in_err-record_run-clause-err c =
    let st = c.in_err-record_run.field-0.0 in
    let x = c.args.elf.now.bytes in
    handed_on_err c.from_residual.result st (RunsRefusal c.args.limit x c.args.inputs.now) c.from_residual.ensures.1
    (unites_not c.args.limit x c.args.inputs.now c.loop-k.k c.index-inputs-k.result c.loop-k-test.true c.index-inputs-k.is (kept_in c.loop-k.kept) st c.loop-k.invariant c.in_err-record_run.ensures.err)

pub returns-clause-stay : goal.returns-clause-stay
returns-clause-stay c =
    let past : length c.args.inputs.now ≤ c.loop-k.k = omega (arith, c.loop-k-test.false) in
    (unites_all c.args.limit c.args.elf.now.bytes c.args.inputs.now c.loop-k.k (kept_in c.loop-k.kept) past c.loop-k.invariant).stay tt

pub loop-k-init : goal.loop-k-init
loop-k-init c = unites_none c.args.limit c.args.elf.now.bytes c.args.inputs.now (kept_in c.new-kept.result) (ap (λ (r : Record). kept_in r) c.new-kept.ensures)

pub loop-k-preserved : goal.loop-k-preserved
loop-k-preserved c =
    let run = c.in_ok-record_run.ensures in
    unites_more c.args.limit c.args.elf.now.bytes c.args.inputs.now c.loop-k.k c.index-inputs-k.result c.loop-k-test.true c.index-inputs-k.is (kept_in c.loop-k.kept) (kept_in c.record_run.new.kept) c.loop-k.invariant run.added run.stays run.plausible
