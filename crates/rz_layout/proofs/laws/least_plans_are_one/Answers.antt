use Rattle.rz_layout.proofs.LeastPlans.{least_plans_are_one}
use Rattle.rz_layout.proofs.laws.least_plans_are_one.Goals as goal

pub returns : goal.returns
returns c = least_plans_are_one
