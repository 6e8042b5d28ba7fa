use Rattle.rz_isa.specs.Laws.Choice.{canonical_spells}
use Rattle.rz_isa.proofs.laws.canonical_spells.Goals as goal

pub returns : goal.returns
returns g c = canonical_spells g.T.InsnTable.rows g.met.T.InsnTable.regular
