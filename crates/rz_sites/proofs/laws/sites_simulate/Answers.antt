use Rattle.rz_isa.specs.Decoded.{decoded}
use Rattle.rz_sites.proofs.Simulated.{sites_simulate}
use Rattle.rz_sites.proofs.laws.sites_simulate.Goals as goal

pub returns : goal.returns
returns g c = sites_simulate (decoded g.T.InsnTable.rows)
