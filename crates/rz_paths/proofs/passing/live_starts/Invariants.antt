use Rattle.std.proofs.Common.{◌≡◌, ℕ, ◌&&◌, ◌==◌, take}
use Rattle.rz_aset.specs.Sets.{has}
use Rattle.std.specs.List.{list_any}
use Rattle.rz_paths.specs.Levels.{is_live}
use Rattle.rz_paths.proofs.passing.live_starts.Given as goal

abbrev pub invariant-loop-i : goal.invariant-loop-i
invariant-loop-i l = (t : ℕ) → has l.set t ≡ list_any (λ f. f.lo == t && is_live l.fn.classes l.fn.recorded f.class) (take l.i l.fn.classes)
