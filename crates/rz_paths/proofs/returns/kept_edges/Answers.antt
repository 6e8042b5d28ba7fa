use Rattle.std.proofs.lemmas.Result.{IfOk-weaker}
use Rattle.rz_paths.proofs.ReturnLemmas.{edges_kept, first_joined}
use Rattle.rz_paths.proofs.returns.kept_edges.Goals as goal

pub return_edges-requires : goal.return_edges-requires
return_edges-requires g c = first_joined _ _ _ c.in_ok-first.first c.requires c.in_ok-first.ensures

pub returns : goal.returns
returns g c =
    IfOk-weaker c.edge_union.result _ _
    (λ set h. edges_kept (g.P.Program.code c.args.program.now) c.args.recorded.now c.args.nodes.now c.in_ok-first.first c.in_ok-back.back set c.in_ok-first.ensures c.in_ok-back.ensures h)
    c.edge_union.ensures
