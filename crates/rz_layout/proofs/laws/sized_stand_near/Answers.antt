use Rattle.rz_layout.proofs.NearPlans.{stands_near}
use Rattle.rz_layout.proofs.laws.sized_stand_near.Goals as goal

pub returns : goal.returns
returns c rows frags base most routine can = stands_near rows frags base most routine can
