use Rattle.std.proofs.Common.{◌<◌, arith, get_or, length}
use Rattle.std.proofs.lemmas.Option.{slice_get-get_or}
use Rattle.rz_paths.proofs.Searching.{searched_start, searched_step, searched_end}
use Rattle.rz_paths.proofs.search.reach.Goals as goal

pub loop-followed-init : goal.loop-followed-init
loop-followed-init g c = rw (c.in_ok-insert_all.ensures.ok, c.new-found.ensures) (searched_start _ _)

pub loop-followed-preserved : goal.loop-followed-preserved
loop-followed-preserved g c =
    let found = c.loop-followed.found in
    let k = c.loop-followed.followed in
    let lt : k < length found = omega (arith, c.len.ensures.len) in
    rw (c.in_ok-insert_all-2.ensures.ok, c.deref.ensures.value)
    (searched_step _ _ found c.in_ok-next.next.items k (get_or found k 0) (slice_get-get_or found k 0 lt)
    (rw c.as_slice.ensures.value at c.in_ok-next.ensures) c.loop-followed.invariant)

pub returns : goal.returns
returns g c = searched_end _ _ c.loop-followed.found c.loop-followed.followed (omega (arith, c.len.ensures.len)) c.loop-followed.invariant
