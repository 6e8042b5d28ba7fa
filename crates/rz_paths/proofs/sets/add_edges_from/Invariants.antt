use Rattle.std.proofs.Common.{◌≡◌, ℕ, ◌&&◌, ◌||◌, nat_eq, take}
use Rattle.rz_aset.specs.Sets.{has}
use Rattle.rz_paths.specs.Sets.{joins}
use Rattle.rz_paths.proofs.sets.add_edges_from.Given as goal

abbrev pub invariant-loop-b : goal.invariant-loop-b
invariant-loop-b l = (a b : ℕ) → joins l.set a b ≡ (joins l.initial.set a b || (nat_eq a l.from && has (take l.b-index l.to) b))
