use Rattle.rz_isa.specs.Decoded.{decoded}
use Rattle.rz_frag.proofs.Simulated.{fragments_simulate}
use Rattle.rz_frag.proofs.laws.fragments_simulate.Goals as goal

pub returns : goal.returns
returns g c = fragments_simulate (decoded g.T.InsnTable.rows)
