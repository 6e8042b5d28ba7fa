use Rattle.std.proofs.Common.{length}
use Rattle.rz_decode.proofs.number.+numbers.Given as goal

abbrev pub decreases-numbers : goal.decreases-numbers
decreases-numbers l = length l.bytes.now
