use Rattle.rz_image.specs.Memory.{zeros}
use Rattle.rz_machine.proofs.start.filled.Goals as goal

pub returns : goal.returns
unfolding zeros
returns c = c.new.ensures
