use Rattle.std.proofs.Common.{◌-◌, ◌^◌}
use Rattle.rz_paths.specs.Program.{program_of}
use Rattle.rz_paths.specs.Calls.Listed.{IsListed}
use Rattle.rz_paths.proofs.listing.listed.Given as goal

abbrev pub invariant-loop-followed : goal.invariant-loop-followed
invariant-loop-followed g l = IsListed (program_of g.T.InsnTable.rows l.elf.bytes) l.nodes

abbrev pub decreases-loop-followed : goal.decreases-loop-followed
decreases-loop-followed g l = 2 ^ 63 - l.followed
