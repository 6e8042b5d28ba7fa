use Rattle.rz_isa.specs.Laws.Choice.{one_canonical_row}
use Rattle.rz_isa.proofs.laws.one_canonical_row.Goals as goal

pub returns : goal.returns
returns g c = one_canonical_row g.T.InsnTable.rows g.met.T.InsnTable.regular
