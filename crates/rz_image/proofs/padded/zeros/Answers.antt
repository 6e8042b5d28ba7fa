use Rattle.rz_image.proofs.PaddedLaws.{zero_front}
use Rattle.rz_image.proofs.padded.zeros.Goals as goal

pub returns-clause-zeros : goal.returns-clause-zeros
returns-clause-zeros c = zero_front _ 64
