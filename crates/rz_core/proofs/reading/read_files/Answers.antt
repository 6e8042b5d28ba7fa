use Rattle.std.proofs.Common.{arith, ◌∙◌, refl}
use Rattle.rz_outside.specs.StoreCalls.{StoreCalls, store_calls}
use Rattle.rz_core.proofs.ResultLaws.{handed_on_err}
use Rattle.rz_core.specs.declared.plan.Wanted.{Wanted}
use Rattle.rz_core.specs.Reading.{Read, read_in, nothing, IsUnread}
use Rattle.rz_core.proofs.CourseLaws.{later_refusal, later_taken}
use Rattle.rz_core.proofs.ReachedLaws.{reached_next, reached_not}
use Rattle.rz_core.proofs.reading.read_files.Goals as goal

pub returns-in_err-read_one-clause-cause : goal.returns-in_err-read_one-clause-cause
returns-in_err-read_one-clause-cause g c =
    let s : StoreCalls = store_calls g.S.Store c.args.store.now c.read_one.new.store in
    let t : StoreCalls = store_calls g.S.Store c.loop-wanted.store c.read_one.new.store in
    let loop = c.loop-wanted.invariant in
    let w : Wanted = c.wanted-item.result in
    let r : Read = read_in c.loop-wanted.files in
    let st = c.in_err-read_one.field-0.0 in
    let refusal = later_refusal w r s t st loop.telling loop.kept loop.count refl refl c.in_err-read_one.ensures.cause in
    handed_on_err c.from_residual.result st (IsUnread c.args.reads.now nothing s) c.from_residual.ensures.1
    (reached_not s.told s.old c.args.reads.now c.loop-wanted.wanted-index w c.loop-wanted-test.true c.wanted-item.is r loop.reached s st refl refl refusal)

pub loop-wanted-preserved : goal.loop-wanted-preserved
loop-wanted-preserved g c =
    let s : StoreCalls = store_calls g.S.Store c.args.store.now c.read_one.new.store in
    let t : StoreCalls = store_calls g.S.Store c.loop-wanted.store c.read_one.new.store in
    let loop = c.loop-wanted.invariant in
    let one = c.in_ok-read_one.ensures in
    let w : Wanted = c.wanted-item.result in
    let r : Read = read_in c.loop-wanted.files in
    let next : Read = read_in c.read_one.new.files in
    let more = loop.count in
    let most = one.count in
    record {
      telling = one.telling ∙ loop.telling;
      kept = λ q. one.kept q ∙ loop.kept q;
      count = omega (arith, more, most);
      valid = one.valid loop.valid;
      reached = reached_next s.told s.old c.args.reads.now c.loop-wanted.wanted-index w c.loop-wanted-test.true c.wanted-item.is r loop.reached next
          (later_taken w r next s t loop.telling loop.kept one.read);
    }
