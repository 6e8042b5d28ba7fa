use Rattle.std.proofs.Common.{◌≡◌, ℕ, ◌||◌, take}
use Rattle.rz_paths.specs.Sets.{joins}
use Rattle.rz_paths.proofs.sets.add_edges.Given as goal

abbrev pub invariant-loop-edge : goal.invariant-loop-edge
invariant-loop-edge l = (a b : ℕ) → joins l.set a b ≡ (joins l.initial.set a b || joins (take l.edge-index l.list) a b)
