use Rattle.std.proofs.Common.{◌≡◌, ◌<◌, arith, true, get_or, length}
use Rattle.std.proofs.lemmas.Option.{slice_get-get_or}
use Rattle.rz_aset.specs.Sets.{has}
use Rattle.rz_aset.specs.Laws.Places.{All_of}
use Rattle.rz_flow.proofs.Reaching.{next_known, reaching_end, reaching_step}
use Rattle.rz_flow.proofs.flow.Flow.reach.Goals as goal

pub neighbours-requires : goal.neighbours-requires
neighbours-requires c =
    let found = c.loop-followed.found in
    let k = c.loop-followed.followed in
    let lt : k < length found = omega (arith, c.len.ensures.len) in
    rw c.as_slice.ensures.value
    (next_known c.args.family c.args.self.now c.args.starts.now found k (get_or found k 0) (slice_get-get_or found k 0 lt) c.loop-followed.invariant)

pub loop-followed-preserved : goal.loop-followed-preserved
loop-followed-preserved c =
    let found = c.loop-followed.found in
    let k = c.loop-followed.followed in
    let lt : k < length found = omega (arith, c.len.ensures.len) in
    let ends = rw (c.in_ok-next.ensures.all, c.as_slice.ensures.value) at c.in_ok-next.ensures.nodes in
    rw (c.in_ok-insert_all.ensures.ok, c.deref.ensures.value, c.in_ok-next.ensures.all, c.as_slice.ensures.value)
    (reaching_step c.args.family c.args.self.now c.args.starts.now found k (get_or found k 0) (slice_get-get_or found k 0 lt) c.loop-followed.invariant ends)

pub returns-clause-exact : goal.returns-clause-exact
returns-clause-exact c =
    reaching_end c.args.family c.args.self.now c.args.starts.now c.loop-followed.found c.loop-followed.followed (omega (arith, c.len.ensures.len)) c.loop-followed.invariant

pub returns-clause-nodes : goal.returns-clause-nodes
returns-clause-nodes c = All_of (λ b. has c.args.self.now.nodes b ≡ true) c.loop-followed.found c.loop-followed.invariant.known
