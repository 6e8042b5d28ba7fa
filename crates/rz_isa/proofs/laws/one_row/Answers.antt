use Rattle.rz_isa.specs.Laws.OneRow.{one_row}
use Rattle.rz_isa.proofs.laws.one_row.Goals as goal

pub returns : goal.returns
returns g c = one_row g.T.InsnTable.rows g.met.T.InsnTable.plain g.met.T.InsnTable.exclude
