use Rattle.rz_isa.specs.Decoded.{decoded}
use Rattle.rz_machine.specs.Laws.PlacedRuns.{placements_keep}
use Rattle.rz_machine.proofs.law.placements_keep.Goals as goal

pub returns : goal.returns
returns g c = placements_keep (decoded g.T.InsnTable.rows)
