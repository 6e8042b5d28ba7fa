use Rattle.std.proofs.Common.{◌≡◌, length, take}
use Rattle.rz_image.specs.Memory.{bytes_at}
use Rattle.rz_image.proofs.words.bytes_from.Given as goal

abbrev pub invariant-loop-k : goal.invariant-loop-k
invariant-loop-k l = record { len : length l.bytes ≡ 8; read : take l.k l.bytes ≡ bytes_at l.regions l.at l.k }
