use Rattle.rz_isa.specs.Decoded.{decoded}
use Rattle.rz_lookup.proofs.LookedUp.{routine_looks_up}
use Rattle.rz_lookup.proofs.laws.routine_looks_up.Goals as goal

pub returns : goal.returns
returns g c = routine_looks_up (decoded g.T.InsnTable.rows)
