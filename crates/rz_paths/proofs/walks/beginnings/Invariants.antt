use Rattle.std.proofs.Common.{◌≡◌, ℕ, take}
use Rattle.rz_aset.specs.Sets.{has}
use Rattle.rz_paths.specs.Walks.{begins}
use Rattle.rz_paths.proofs.walks.beginnings.Given as goal

abbrev pub invariant-loop-j : goal.invariant-loop-j
invariant-loop-j g l = (a : ℕ) → has l.found.items a ≡ begins (g.P.Program.code l.program) (take l.j-index l.recorded) a
