use Rattle.rz_encode.proofs.Lengths.{chosen_lengths, same_lengths, canonical_lengths}
use Rattle.rz_encode.proofs.laws.canonical_lengths.Goals as goal

pub returns-clause-chosen : goal.returns-clause-chosen
returns-clause-chosen g c = chosen_lengths g.T.InsnTable.rows g.met.T.InsnTable.regular

pub returns-clause-same : goal.returns-clause-same
returns-clause-same g c = same_lengths g.T.InsnTable.rows

pub returns-clause-short : goal.returns-clause-short
returns-clause-short g c = canonical_lengths g.T.InsnTable.rows g.met.T.InsnTable.regular
