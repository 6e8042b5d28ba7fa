use Rattle.std.proofs.Common.{◌<◌, sym, ◌∙◌, length, arith}
use Rattle.std.proofs.lemmas.List.{take_more}
use Rattle.rz_paths.specs.Calls.Inside.{is_along_at}
use Rattle.rz_paths.proofs.LinkLemmas.{along_kept, along_passed}
use Rattle.rz_paths.proofs.returns.flow_along.Goals.{then-is_along+in_ok-link, else-is_along}
use Rattle.rz_paths.proofs.returns.flow_along.Goals as goal

pub loop-edge-preserved : goal.loop-edge-preserved
loop-edge-preserved g c =
    let below : c.loop-edge.edge-index < length c.as_slice-edge-items.result.now = omega arith in
    let lt : c.loop-edge.edge-index < length c.args.edges.now = rw c.as_slice-edge-items.ensures.value at below in
    rw (take_more c.args.edges.now c.loop-edge.edge-index (0, 0) lt)
    (elim c.if-is_along.branch [
      | then-is_along+in_ok-link w ↦
          rw w.flow-is
          (along_kept (is_along_at (g.P.Program.code c.args.program.now)) _ _ _ c.loop-edge.invariant _
          (sym (rw c.as_slice-edge-items.ensures.value at c.is_along.ensures) ∙ w.if-is_along.true)
          (rw c.as_slice-edge-items.ensures.value at w.in_ok-link.ensures.edges))
      | else-is_along w ↦
          rw w.flow-is
          (along_passed (is_along_at (g.P.Program.code c.args.program.now)) _ _ _ c.loop-edge.invariant
          (sym (rw c.as_slice-edge-items.ensures.value at c.is_along.ensures) ∙ w.if-is_along.false))
    ])
