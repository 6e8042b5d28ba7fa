use Rattle.rz_lookup.proofs.LookupSized.{routine_is_sized}
use Rattle.rz_lookup.proofs.laws.routine_is_sized.Goals as goal

pub returns : goal.returns
returns g c =
    routine_is_sized g.T.InsnTable.rows c.emits.ensures.emits c.emits.ensures.lookup c.spelled_within.ensures c.canonical_lengths.ensures.chosen
