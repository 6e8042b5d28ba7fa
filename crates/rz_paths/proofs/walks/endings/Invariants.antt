use Rattle.std.proofs.Common.{◌≡◌, ℕ, ◌&&◌, take}
use Rattle.rz_aset.specs.Sets.{has}
use Rattle.rz_paths.specs.Walks.{ends}
use Rattle.rz_paths.proofs.walks.endings.Given as goal

abbrev pub invariant-loop-a : goal.invariant-loop-a
invariant-loop-a g l = (a : ℕ) → has l.found a ≡ (has (take l.a-index l.list) a && ends (g.P.Program.code l.program) (has l.passing) l.recorded a)
