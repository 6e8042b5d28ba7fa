use Rattle.std.proofs.Common.{◌≡◌}
use Rattle.graph_tests.proofs.flow.link_all.Given as goal

abbrev pub invariant-loop-from : goal.invariant-loop-from
invariant-loop-from g l = l.flow.nodes ≡ l.known
