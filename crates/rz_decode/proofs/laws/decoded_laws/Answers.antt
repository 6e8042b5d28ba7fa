use Rattle.rz_decode.specs.Laws.Exactness.{decodes_exactly, fifteen_law}
use Rattle.rz_decode.proofs.laws.decoded_laws.Goals as goal

pub returns-clause-exact : goal.returns-clause-exact
returns-clause-exact g c = decodes_exactly g.T.InsnTable.rows (record { plain = g.met.T.InsnTable.plain; exclude = g.met.T.InsnTable.exclude; regular = g.met.T.InsnTable.regular })

pub returns-clause-fifteen : goal.returns-clause-fifteen
returns-clause-fifteen g c = fifteen_law g.T.InsnTable.rows (record { plain = g.met.T.InsnTable.plain; exclude = g.met.T.InsnTable.exclude; regular = g.met.T.InsnTable.regular })
