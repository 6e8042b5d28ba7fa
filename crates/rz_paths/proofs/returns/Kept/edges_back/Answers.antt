use Rattle.std.proofs.Common.{◌<◌, length, arith}
use Rattle.std.proofs.lemmas.List.{take_more}
use Rattle.rz_paths.proofs.LinkLemmas.{back_more}
use Rattle.rz_paths.proofs.returns.Kept.edges_back.Goals as goal

pub loop-edge-preserved : goal.loop-edge-preserved
loop-edge-preserved g c =
    let below : c.loop-edge.edge-index < length c.as_slice-edge-items.result.now = omega arith in
    let lt : c.loop-edge.edge-index < length c.args.self.now.edges.now = rw c.as_slice-edge-items.ensures.value at below in
    rw (take_more c.args.self.now.edges.now c.loop-edge.edge-index (0, 0) lt)
    (back_more (g.P.Program.code c.args.self.now.program.now) c.args.self.now.nodes.now c.args.self.now.edges.now _ _ _ _ c.in_ok-next.next.items c.loop-edge.invariant
    (rw c.as_slice-edge-items.ensures.value at c.in_ok-next.ensures)
    (rw (c.as_slice-edge-items.ensures.value, c.deref.ensures.value) at c.in_ok-add_edges_from.ensures))
