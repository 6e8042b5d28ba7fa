use Rattle.std.proofs.Common.{◌≡◌, ℕ, ◌&&◌, take}
use Rattle.rz_aset.specs.Sets.{has}
use Rattle.rz_paths.specs.Bodies.{is_inner_at, is_in, function_at}
use Rattle.rz_paths.proofs.bodies.members.Given as goal

abbrev pub invariant-loop-b : goal.invariant-loop-b
invariant-loop-b g l = (b : ℕ) → has l.found.items b ≡ (has (take l.b-index l.list) b && (is_inner_at (g.P.Program.code l.program) (has l.passing) b && is_in (function_at l.classes l.start) b))
