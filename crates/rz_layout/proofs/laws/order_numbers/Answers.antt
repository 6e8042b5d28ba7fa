use Rattle.rz_layout.proofs.Labels.{number_same}
use Rattle.rz_layout.proofs.laws.order_numbers.Goals as goal

pub returns : goal.returns
returns c frags order s to is = number_same frags order is s to
