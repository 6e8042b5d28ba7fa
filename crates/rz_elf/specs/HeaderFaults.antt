-- The faults of program headers by their kinds, in the order in which they are tried.
use Rattle.std.specs.Prelude.{ℕ, Bool, List, [], ◌∷◌, ◌++◌}
use Rattle.rz_elf.specs.declared.fault.ElfFault.{ElfFault}
use Rattle.rz_elf.specs.declared.fault.ElfFault.TheVariants as fault
use Rattle.rz_elf.specs.declared.header_faults.HeaderFault.{HeaderFault}
use Rattle.rz_elf.specs.declared.header_faults.HeaderFault.TheVariants as kind
use Rattle.rz_elf.specs.Elf.{Placed, Condition, each, of_segment, against, is_dynamic, is_stack_code, has_other_flags, is_writable_code, is_larger_in_file, leaves_file, is_misaligned, is_far, isnt_above, shares_page}

-- when a fault of a kind holds for a header of a file of so many bytes
abbrev pub holds_for : HeaderFault → ℕ → Placed → Bool
holds_for kind.Dynamic len = of_segment is_dynamic
holds_for kind.StackCode len = of_segment is_stack_code
holds_for kind.Flags len = of_segment has_other_flags
holds_for kind.WritableCode len = of_segment is_writable_code
holds_for kind.SizeOrder len = of_segment is_larger_in_file
holds_for kind.FileRange len = of_segment (leaves_file len)
holds_for kind.Align len = of_segment is_misaligned
holds_for kind.Address len = of_segment is_far
holds_for kind.Order len = against isnt_above
holds_for kind.SharedPage len = against shares_page

-- the fault of a kind at the header of a number
abbrev pub fault_at : HeaderFault → ℕ → ElfFault
fault_at kind.Dynamic i = fault.Dynamic i
fault_at kind.StackCode i = fault.StackCode i
fault_at kind.Flags i = fault.Flags i
fault_at kind.WritableCode i = fault.WritableCode i
fault_at kind.SizeOrder i = fault.SizeOrder i
fault_at kind.FileRange i = fault.FileRange i
fault_at kind.Align i = fault.Align i
fault_at kind.Address i = fault.Address i
fault_at kind.Order i = fault.Order i
fault_at kind.SharedPage i = fault.SharedPage i

-- the conditions of one kind
abbrev pub of_kind : ℕ → List Placed → HeaderFault → List Condition
of_kind len ps k = each (holds_for k len) (fault_at k) ps

-- the conditions of some kinds, one after the other
abbrev pub of_kinds : ℕ → List Placed → List HeaderFault → List Condition
of_kinds len ps [] = []
of_kinds len ps (k ∷ ks) = of_kind len ps k ++ of_kinds len ps ks
