use Rattle.rz_paths.specs.Laws.Plausible.{recorded_kept}
use Rattle.rz_paths.proofs.level.expand_in.Goals as goal

pub level_edges-requires-clause-kept : goal.level_edges-requires-clause-kept
level_edges-requires-clause-kept g c = λ a i. (c.in_ok-nodes.ensures a).1 (recorded_kept _ _ _ _ _ a i)

pub returns : goal.returns
returns g c = record { nodes = c.in_ok-nodes.ensures; edges = c.in_ok-edges.ensures }
