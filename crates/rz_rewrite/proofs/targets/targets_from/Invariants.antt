use Rattle.std.proofs.Common.{◌≡◌, ◌++◌, map, drop}
use Rattle.rz_rewrite.specs.Fragments.{targets_from}
use Rattle.rz_rewrite.proofs.targets.targets_from.Given as goal

abbrev pub invariant-loop-to : goal.invariant-loop-to
invariant-loop-to l = l.words ++ map (λ e. e.1) (drop l.to-index l.to-items) ≡ targets_from l.edges l.fn.at
