use Rattle.rz_isa.specs.Laws.Prefixed.{canonical_prefixes}
use Rattle.rz_isa.proofs.laws.canonical_prefixes.Goals as goal

pub returns : goal.returns
returns g c = canonical_prefixes g.T.InsnTable.rows g.met.T.InsnTable.plain g.met.T.InsnTable.regular g.met.T.InsnTable.suited
