use Rattle.std.proofs.Common.{◌≡◌, ◌&&◌, ℕ, take}
use Rattle.rz_aset.specs.Sets.{has}
use Rattle.rz_flow.proofs.flow.known.Given as goal

abbrev pub invariant-loop-start : goal.invariant-loop-start
invariant-loop-start l = (b : ℕ) → has l.known b ≡ (has (take l.start-index l.starts) b && has l.nodes b)
