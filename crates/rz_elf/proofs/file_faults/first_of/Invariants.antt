use Rattle.std.proofs.Common.{◌≡◌, drop}
use Rattle.rz_elf.specs.Elf.{first_of}
use Rattle.rz_elf.proofs.file_faults.first_of.Given as goal

abbrev pub invariant-loop-holds : goal.invariant-loop-holds
invariant-loop-holds l = first_of (drop l.holds-index l.conditions) ≡ first_of l.conditions
