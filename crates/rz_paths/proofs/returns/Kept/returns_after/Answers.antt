use Rattle.std.proofs.Common.{◌≡◌, ◌<◌, length, take, arith}
use Rattle.std.proofs.lemmas.List.{take_more, take_all}
use Rattle.std.proofs.lemmas.Option.{slice_get-get_or}
use Rattle.rz_aset.specs.Laws.Places.{has_at}
use Rattle.rz_paths.proofs.ReturnLemmas.{Gathered-none, Gathered-more, Gathered-all}
use Rattle.rz_paths.proofs.returns.Kept.returns_after.Goals as goal

pub add_returns-requires-clause-kept : goal.add_returns-requires-clause-kept
add_returns-requires-clause-kept g c =
    let below : c.loop-f.f-index < length c.as_slice-f-items.result.now = omega arith in
    let lt : c.loop-f.f-index < length c.args.callees.now = rw c.as_slice-f-items.ensures.value at below in
    rw c.as_slice-f-items.ensures.value (c.requires.grouped.kept _ (has_at c.args.callees.now c.loop-f.f-index _ (slice_get-get_or c.args.callees.now c.loop-f.f-index 0 lt)))

pub add_returns-requires-clause-known : goal.add_returns-requires-clause-known
add_returns-requires-clause-known g c =
    let below : c.loop-f.f-index < length c.as_slice-f-items.result.now = omega arith in
    let lt : c.loop-f.f-index < length c.args.callees.now = rw c.as_slice-f-items.ensures.value at below in
    rw c.as_slice-f-items.ensures.value (c.requires.grouped.known _ (has_at c.args.callees.now c.loop-f.f-index _ (slice_get-get_or c.args.callees.now c.loop-f.f-index 0 lt)))

pub loop-f-init : goal.loop-f-init
loop-f-init g c = rw c.new-found.ensures (Gathered-none _ _ _)

pub loop-f-preserved : goal.loop-f-preserved
loop-f-preserved g c =
    let below : c.loop-f.f-index < length c.as_slice-f-items.result.now = omega arith in
    let lt : c.loop-f.f-index < length c.args.callees.now = rw c.as_slice-f-items.ensures.value at below in
    rw (take_more c.args.callees.now c.loop-f.f-index 0 lt)
    (Gathered-more _ _ _ _ _ _ _ _ c.loop-f.invariant (c.requires.grouped.returns _)
    (rw c.as_slice-f-items.ensures.value at c.in_ok-add_returns.ensures))

pub returns : goal.returns
returns g c =
    let all : take c.loop-f.f-index c.as_slice-f-items.result.now ≡ c.as_slice-f-items.result.now = take_all _ _ (omega arith) in
    let whole : take c.loop-f.f-index c.args.callees.now ≡ c.args.callees.now = rw c.as_slice-f-items.ensures.value at all in
    Gathered-all _ _ _ _ _ (rw whole at c.loop-f.invariant) c.requires.grouped.all
