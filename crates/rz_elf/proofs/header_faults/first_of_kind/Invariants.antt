use Rattle.std.proofs.Common.{◌≡◌, drop}
use Rattle.rz_elf.specs.Elf.{first_of}
use Rattle.rz_elf.specs.HeaderFaults.{of_kind}
use Rattle.rz_elf.proofs.header_faults.first_of_kind.Given as goal

abbrev pub invariant-loop-header : goal.invariant-loop-header
invariant-loop-header l = first_of (of_kind l.len (drop l.header-index l.headers) l.kind) ≡ first_of (of_kind l.len l.headers l.kind)
