use Rattle.std.proofs.Common.{◌≡◌, ℕ, List, take}
use Rattle.rz_paths.specs.Levels.{is_live}
use Rattle.rz_paths.specs.Calls.Noted.{is_noted}
use Rattle.rz_paths.proofs.passing.live_classes.Given as goal

abbrev pub invariant-loop-i : goal.invariant-loop-i
invariant-loop-i l = (class : List ℕ) → is_noted l.set class ≡ is_live (take l.i l.classes) l.recorded class
