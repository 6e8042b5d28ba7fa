use Rattle.std.proofs.Common.{◌≡◌, ◌<◌, length, take, arith}
use Rattle.std.proofs.lemmas.List.{take_more, take_all}
use Rattle.rz_paths.proofs.LinkLemmas.{stepped_none, stepped_more, stepped_all}
use Rattle.rz_paths.proofs.returns.Kept.inside_flow.Goals as goal

pub loop-a-init : goal.loop-a-init
loop-a-init g c = stepped_none _ _ _ _ c.in_ok-flow.ensures

pub loop-a-preserved : goal.loop-a-preserved
loop-a-preserved g c =
    let below : c.loop-a.a-index < length c.as_slice-a-items.result.now = omega arith in
    let lt : c.loop-a.a-index < length c.args.self.now.nodes.now = rw c.as_slice-a-items.ensures.value at below in
    rw (take_more c.args.self.now.nodes.now c.loop-a.a-index 0 lt)
    (stepped_more _ _ _ _ c.in_ok-next.next.items _ _ _ c.loop-a.invariant
    (rw c.as_slice-a-items.ensures.value at c.in_ok-next.ensures)
    (rw (c.as_slice-a-items.ensures.value, c.deref.ensures.value) at c.in_ok-link_all.ensures.nodes)
    (rw (c.as_slice-a-items.ensures.value, c.deref.ensures.value) at c.in_ok-link_all.ensures.edges))

pub returns : goal.returns
returns g c =
    let all : take c.loop-a.a-index c.as_slice-a-items.result.now ≡ c.as_slice-a-items.result.now = take_all _ _ (omega arith) in
    let whole : take c.loop-a.a-index c.args.self.now.nodes.now ≡ c.args.self.now.nodes.now = rw c.as_slice-a-items.ensures.value at all in
    stepped_all _ _ _ _ (rw whole at c.loop-a.invariant)
