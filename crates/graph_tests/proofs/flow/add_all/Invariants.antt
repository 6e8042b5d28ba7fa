use Rattle.std.proofs.Common.{◌≡◌}
use Rattle.graph_tests.proofs.flow.add_all.Given as goal

abbrev pub invariant-loop-at : goal.invariant-loop-at
invariant-loop-at l = l.flow.nodes ≡ l.known
