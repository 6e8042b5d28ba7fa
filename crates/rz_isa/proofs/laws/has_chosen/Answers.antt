use Rattle.rz_isa.specs.Laws.Choice.{has_chosen}
use Rattle.rz_isa.proofs.laws.has_chosen.Goals as goal

pub returns : goal.returns
returns g c = has_chosen g.T.InsnTable.rows g.met.T.InsnTable.regular
