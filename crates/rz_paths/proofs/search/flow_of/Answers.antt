use Rattle.std.proofs.Common.{◌≡◌, ◌<◌, length, take, arith}
use Rattle.std.proofs.lemmas.List.{take_more, take_all}
use Rattle.rz_paths.proofs.LinkLemmas.{flow_more}
use Rattle.rz_paths.proofs.search.flow_of.Goals as goal

pub loop-a-preserved : goal.loop-a-preserved
loop-a-preserved g c =
    let lt : c.loop-a.a-index < length c.args.nodes.now = omega arith in
    rw (take_more c.args.nodes.now c.loop-a.a-index 0 lt)
    (flow_more _ _ c.in_ok-found.found.items _ _ _ c.loop-a.invariant c.in_ok-found.ensures
    (rw c.deref.ensures.value at c.in_ok-link_all.ensures.nodes)
    (rw c.deref.ensures.value at c.in_ok-link_all.ensures.edges))

pub returns-clause-nodes : goal.returns-clause-nodes
returns-clause-nodes g c =
    let whole : take c.loop-a.a-index c.args.nodes.now ≡ c.args.nodes.now = take_all _ _ (omega arith) in
    (rw whole at c.loop-a.invariant).0

pub returns-clause-edges : goal.returns-clause-edges
returns-clause-edges g c =
    let whole : take c.loop-a.a-index c.args.nodes.now ≡ c.args.nodes.now = take_all _ _ (omega arith) in
    (rw whole at c.loop-a.invariant).1
