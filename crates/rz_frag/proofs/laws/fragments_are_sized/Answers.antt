use Rattle.rz_frag.proofs.Sized.{fragments_are_sized}
use Rattle.rz_frag.proofs.laws.fragments_are_sized.Goals as goal

pub returns : goal.returns
returns g c =
    fragments_are_sized g.T.InsnTable.rows c.emits.ensures.emits c.spelled_within.ensures c.spelled_elsewhere.ensures c.canonical_lengths.ensures.chosen c.canonical_lengths.ensures.same
