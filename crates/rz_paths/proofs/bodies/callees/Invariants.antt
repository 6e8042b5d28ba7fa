use Rattle.std.proofs.Common.{◌≡◌, ℕ, take}
use Rattle.rz_aset.specs.Sets.{has}
use Rattle.rz_paths.specs.Calls.Brought.{called_among}
use Rattle.rz_paths.proofs.bodies.callees.Given as goal

abbrev pub invariant-loop-c : goal.invariant-loop-c
invariant-loop-c g l = (f : ℕ) → has l.found.items f ≡ called_among (g.P.Program.code l.program) (has l.passing) l.recorded (take l.c-index l.list) f
