use Rattle.std.proofs.Common.{◌≡◌, take, arith}
use Rattle.std.proofs.lemmas.List.{take_all}
use Rattle.std.proofs.lemmas.Result.{IfOk-weaker}
use Rattle.rz_paths.proofs.walks.beginnings.Goals as goal

pub returns : goal.returns
returns g c =
    let all : take c.loop-j.j-index c.as_slice-j-items.result.now ≡ c.as_slice-j-items.result.now = take_all _ _ (omega arith) in
    let whole : take c.loop-j.j-index c.args.recorded.now ≡ c.args.recorded.now = rw c.as_slice-j-items.ensures.value at all in
    IfOk-weaker c.outside.result _ _
    (λ found e a. rw (e a, c.deref-2.ensures.value, c.loop-j.invariant a, whole))
    c.outside.ensures
