use Rattle.std.proofs.Common.{◌≡◌, ℕ, ◌&&◌, ◌||◌, take}
use Rattle.rz_aset.specs.Sets.{has}
use Rattle.rz_paths.specs.Sets.{joins}
use Rattle.rz_paths.specs.Program.{direct_at}
use Rattle.rz_paths.proofs.returns.first_edges.Given as goal

abbrev pub invariant-loop-a : goal.invariant-loop-a
invariant-loop-a g l = (a b : ℕ) → joins l.set a b ≡ (joins l.recorded a b || (has (take l.a-index l.nodes) a && (has (direct_at (g.P.Program.code l.program) a) b && has l.nodes b)))
