use Rattle.rz_isa.specs.Laws.Elsewhere.{spelled_elsewhere}
use Rattle.rz_isa.proofs.laws.spelled_elsewhere.Goals as goal

pub returns : goal.returns
returns g c = spelled_elsewhere g.T.InsnTable.rows g.met.T.InsnTable.regular g.met.T.InsnTable.suited
