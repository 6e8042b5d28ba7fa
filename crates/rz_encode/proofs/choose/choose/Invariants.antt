use Rattle.std.proofs.Common.{◌≡◌, drop}
use Rattle.rz_isa.specs.Canonical.{chosen}
use Rattle.rz_encode.proofs.Tried.{tried}
use Rattle.rz_encode.proofs.choose.choose.Given as goal

-- what is chosen is what the rest of the numbers gives
abbrev pub invariant-loop-number : goal.invariant-loop-number
invariant-loop-number g l = tried l.form l.insn g.T.InsnTable.rows (drop l.number-index l.number-items) ≡ chosen g.T.InsnTable.rows l.form l.insn
