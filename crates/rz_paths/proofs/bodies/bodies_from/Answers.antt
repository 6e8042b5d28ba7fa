use Rattle.std.proofs.Common.{◌<◌, arith, get_or, length}
use Rattle.std.proofs.lemmas.Option.{slice_get-get_or}
use Rattle.rz_paths.proofs.BodyLemmas.{bringing_start, bringing_step, bringing_end}
use Rattle.rz_paths.proofs.bodies.bodies_from.Goals as goal

pub loop-followed-init : goal.loop-followed-init
loop-followed-init g c =
    rw (c.in_ok-insert_all.ensures.ok, c.new-starts.ensures, c.new-bodies.ensures, c.deref.ensures.value)
    (bringing_start _ _ _ _ _ _ (rw c.as_slice.ensures.value at c.in_ok-first.ensures))

pub loop-followed-preserved : goal.loop-followed-preserved
loop-followed-preserved g c =
    let starts = c.loop-followed.starts in
    let k = c.loop-followed.followed in
    let lt : k < length starts = omega (arith, c.len.ensures.len) in
    rw (c.in_ok-insert_all-2.ensures.ok, c.in_ok-add_set.ensures, c.deref-in-loop-followed.ensures.value)
    (bringing_step _ _ _ _ _ starts c.loop-followed.bodies c.in_ok-body.body c.in_ok-called.called.items k (get_or starts k 0) (slice_get-get_or starts k 0 lt)
    (rw c.as_slice-in-loop-followed.ensures.value at c.in_ok-body.ensures)
    (rw c.as_slice-in-loop-followed-2.ensures.value at c.in_ok-called.ensures) c.loop-followed.invariant)

pub returns : goal.returns
returns g c = bringing_end _ _ _ _ _ c.loop-followed.starts c.loop-followed.bodies c.loop-followed.followed (omega (arith, c.len.ensures.len)) c.loop-followed.invariant
