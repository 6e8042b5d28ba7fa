use Rattle.rz_layout.proofs.LeastPlans.{least_is_shortest}
use Rattle.rz_layout.proofs.laws.least_is_shortest.Goals as goal

pub returns : goal.returns
returns c = least_is_shortest
