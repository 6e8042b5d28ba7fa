use Rattle.rz_paths.proofs.LinkLemmas.{grouped}
use Rattle.rz_paths.proofs.returns.Kept.returns_back.Goals as goal

pub returns_after-requires-clause-grouped : goal.returns_after-requires-clause-grouped
returns_after-requires-clause-grouped g c =
    grouped _ _ _ c.requires.joined _ c.requires.back c.in_ok-callees.callees c.in_ok-after.after c.in_ok-callees.ensures c.in_ok-after.ensures.nodes c.in_ok-after.ensures.edges
