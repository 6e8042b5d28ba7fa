use Rattle.std.proofs.Common.{◌≡◌, ℕ, ◌&&◌, ◌||◌, take}
use Rattle.rz_aset.specs.Sets.{has}
use Rattle.rz_paths.specs.Sets.{joins}
use Rattle.rz_paths.proofs.sets.add_product.Given as goal

abbrev pub invariant-loop-a : goal.invariant-loop-a
invariant-loop-a l = (a b : ℕ) → joins l.set a b ≡ (joins l.initial.set a b || (has (take l.a-index l.from) a && has l.to b))
