use Rattle.std.proofs.Common.{◌≡◌, ℕ, ◌&&◌, ◌==◌, take}
use Rattle.std.specs.List.{list_any}
use Rattle.rz_aset.specs.Sets.{has}
use Rattle.rz_paths.proofs.passing.recorded_starts.Given as goal

abbrev pub invariant-loop-a : goal.invariant-loop-a
invariant-loop-a l = (t : ℕ) → has l.set t ≡ (list_any (λ f. f.lo == t) l.classes && has (take l.a-index l.recorded) t)
