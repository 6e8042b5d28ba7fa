use Rattle.std.proofs.Common.{◌≡◌, drop}
use Rattle.rz_elf.specs.Elf.{first_of, header_conditions}
use Rattle.rz_elf.specs.HeaderFaults.{of_kinds}
use Rattle.rz_elf.specs.Laws.Conditions.{all_kinds}
use Rattle.rz_elf.proofs.header_faults.header_fault.Given as goal

abbrev pub invariant-loop-kind : goal.invariant-loop-kind
invariant-loop-kind l = first_of (of_kinds l.len l.headers (drop l.kind-index all_kinds)) ≡ first_of (header_conditions l.len l.headers)
