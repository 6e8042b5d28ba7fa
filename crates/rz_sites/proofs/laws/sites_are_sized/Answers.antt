use Rattle.rz_sites.proofs.Sized.{sites_are_sized}
use Rattle.rz_sites.proofs.laws.sites_are_sized.Goals as goal

pub returns : goal.returns
returns g c =
    sites_are_sized g.T.InsnTable.rows c.emits.ensures.emits c.spelled_within.ensures c.targets.ensures.indirect c.canonical_lengths.ensures.chosen
