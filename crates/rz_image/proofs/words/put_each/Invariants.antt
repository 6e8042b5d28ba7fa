use Rattle.std.proofs.Common.{◌≡◌, take}
use Rattle.rz_image.specs.Memory.{Ascend, put_bytes}
use Rattle.rz_image.proofs.words.put_each.Given as goal

abbrev pub invariant-loop-k : goal.invariant-loop-k
invariant-loop-k l = record { done : l.regions ≡ put_bytes l.fn.regions l.at (take l.k l.bytes); ascend : Ascend l.regions }
