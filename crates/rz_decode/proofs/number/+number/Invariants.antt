use Rattle.std.proofs.Common.{length}
use Rattle.rz_decode.proofs.number.+number.Given as goal

abbrev pub decreases-number : goal.decreases-number
decreases-number l = length l.bytes.now
