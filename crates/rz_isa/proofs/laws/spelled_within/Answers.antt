use Rattle.rz_isa.proofs.Within.{spelled_within}
use Rattle.rz_isa.proofs.laws.spelled_within.Goals as goal

pub returns : goal.returns
returns g c = spelled_within g.T.InsnTable.rows g.met.T.InsnTable.regular g.met.T.InsnTable.suited
