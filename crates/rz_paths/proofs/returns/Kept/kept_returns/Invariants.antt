use Rattle.std.proofs.Common.{◌≡◌, ℕ, ◌&&◌, take}
use Rattle.rz_aset.specs.Sets.{has}
use Rattle.rz_paths.specs.Program.{is_ret_at}
use Rattle.rz_paths.proofs.returns.Kept.kept_returns.Given as goal

abbrev pub invariant-loop-x : goal.invariant-loop-x
invariant-loop-x g l = (x : ℕ) → has l.found.items x ≡ (has (take l.x-index l.list) x && (is_ret_at (g.P.Program.code l.self.program.now) x && has l.self.nodes.now x))
