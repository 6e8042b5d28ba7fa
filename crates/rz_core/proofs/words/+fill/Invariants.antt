use Rattle.std.proofs.Common.{length}
use Rattle.rz_core.proofs.words.+fill.Given as goal

abbrev pub decreases-fill : goal.decreases-fill
decreases-fill l = length l.places.now
