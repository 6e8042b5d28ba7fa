use Rattle.std.proofs.Common.{◌≡◌, ℕ, ◌&&◌, take}
use Rattle.rz_aset.specs.Sets.{has}
use Rattle.rz_paths.proofs.returns.kept_among.Given as goal

abbrev pub invariant-loop-b : goal.invariant-loop-b
invariant-loop-b l = (b : ℕ) → has l.found.items b ≡ (has (take l.b-index l.list) b && has l.nodes b)
