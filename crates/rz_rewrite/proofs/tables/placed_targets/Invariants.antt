use Rattle.std.proofs.Common.{◌≡◌, ◌++◌, map, drop}
use Rattle.rz_machine.specs.Tables.{placed}
use Rattle.rz_rewrite.specs.Calls.Places.{beside_or_zero}
use Rattle.rz_rewrite.specs.Fragments.{targets_from}
use Rattle.rz_rewrite.proofs.tables.placed_targets.Given as goal

abbrev pub invariant-loop-to : goal.invariant-loop-to
invariant-loop-to l =
    l.pairs ++ placed (beside_or_zero l.places) (map (λ e. e.1) (drop l.to-index l.to-items))
    ≡ placed (beside_or_zero l.places) (targets_from l.edges l.fn.at)
