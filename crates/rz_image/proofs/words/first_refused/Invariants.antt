use Rattle.std.proofs.Common.{◌≡◌, ◌+◌, ◌-◌}
use Rattle.rz_image.specs.Memory.{refused}
use Rattle.rz_image.specs.Run.{allows}
use Rattle.rz_image.proofs.words.first_refused.Given as goal

abbrev pub invariant-loop-k : goal.invariant-loop-k
invariant-loop-k l = refused (allows l.access) l.regions (l.at + l.k) (l.len - l.k) ≡ refused (allows l.access) l.regions l.at l.len
