use Rattle.rz_isa.specs.Laws.Shortest.{canonical_shortest}
use Rattle.rz_isa.proofs.laws.canonical_shortest.Goals as goal

pub returns : goal.returns
returns g c = canonical_shortest g.T.InsnTable.rows g.met.T.InsnTable.regular
