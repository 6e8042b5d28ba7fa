use Rattle.std.proofs.Common.{◌≡◌, ℕ, subst}
use Rattle.std.specs.Prelude.{Ok}
use Rattle.rz_outside.specs.StoreAnswers.{ReadsFirst}
use Rattle.rz_outside.specs.StoreCalls.{StoreCalls, store_calls, Held}
use Rattle.rz_core.specs.declared.plan.Wanted.{Wanted}
use Rattle.rz_core.specs.Reading.{Read, read_in, taken, IsTaken, FileRefusal}
use Rattle.rz_core.specs.Calls.Taking.{most_of, Untaken}
use Rattle.rz_core.proofs.ResultLaws.{on_ok, if_err}
use Rattle.rz_core.proofs.TakeLaws.{taken_held, untaken}
use Rattle.rz_core.proofs.reading.read_one.Goals as goal

pub returns-clause-read : goal.returns-clause-read
returns-clause-read g c =
    let s : StoreCalls = store_calls g.S.Store c.args.store.now c.read.new.store in
    let w : Wanted = c.args.wanted.now in
    let r : Read = read_in c.args.files.now in
    let next : Read = read_in c.take.new.files in
    let bytes = c.in_ok-bytes.bytes in
    let reads : ReadsFirst s.told s.old w.name (most_of w.demand) bytes =
    subst (λ (n : ℕ). ReadsFirst s.told s.old w.name n bytes) c.most.ensures c.in_ok-bytes.ensures.read in
    on_ok c.take.result (taken w r bytes ≡ Ok next) (IsTaken (Held s) w r next) (taken_held s w r bytes reads (Ok next)) c.take.ensures.ok

pub returns-clause-cause : goal.returns-clause-cause
returns-clause-cause g c =
    let s : StoreCalls = store_calls g.S.Store c.args.store.now c.read.new.store in
    let w : Wanted = c.args.wanted.now in
    let r : Read = read_in c.args.files.now in
    let bytes = c.in_ok-bytes.bytes in
    let reads : ReadsFirst s.told s.old w.name (most_of w.demand) bytes =
    subst (λ (n : ℕ). ReadsFirst s.told s.old w.name n bytes) c.most.ensures c.in_ok-bytes.ensures.read in
    if_err c.take.result (Untaken (taken w r bytes)) (FileRefusal w r s) (untaken s w r bytes reads) c.take.ensures.err
