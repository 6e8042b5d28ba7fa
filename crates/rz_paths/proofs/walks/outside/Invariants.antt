use Rattle.std.proofs.Common.{◌≡◌, ℕ, ◌&&◌, take}
use Rattle.rz_aset.specs.Sets.{has}
use Rattle.rz_paths.specs.Walks.{is_outside}
use Rattle.rz_paths.proofs.walks.outside.Given as goal

abbrev pub invariant-loop-b : goal.invariant-loop-b
invariant-loop-b g l = (b : ℕ) → has l.found.items b ≡ (has (take l.b-index l.list) b && is_outside (g.P.Program.code l.program) l.recorded b)
