use Rattle.std.proofs.Common.{◌<◌, length, arith}
use Rattle.std.proofs.lemmas.List.{take_more}
use Rattle.rz_paths.proofs.LinkLemmas.{linked_more}
use Rattle.rz_paths.proofs.returns.flow_of_edges.Goals as goal

pub loop-edge-preserved : goal.loop-edge-preserved
loop-edge-preserved c =
    let below : c.loop-edge.edge-index < length c.as_slice-edge-items.result.now = omega arith in
    let lt : c.loop-edge.edge-index < length c.args.edges.now = rw c.as_slice-edge-items.ensures.value at below in
    rw (take_more c.args.edges.now c.loop-edge.edge-index (0, 0) lt)
    (linked_more _ _ _ _ c.loop-edge.invariant
    (rw c.as_slice-edge-items.ensures.value at c.in_ok-link.ensures.nodes)
    (rw c.as_slice-edge-items.ensures.value at c.in_ok-link.ensures.edges))
