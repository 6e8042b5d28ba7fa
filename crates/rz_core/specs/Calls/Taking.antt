-- How a file is taken for what it has to be.
use Rattle.std.specs.Prelude.{◌≡◌, ◌≢◌, ◌⊎◌, ℕ, false, List, Some, None, Result, Ok, Err}
use Rattle.rz_elf.specs.declared.fault.ElfFault.{ElfFault}
use Rattle.rz_elf.specs.Elf.{fault_of}
use Rattle.rz_elf.specs.Loaded.{ElfFile}
use Rattle.rz_elf.specs.Stamped.{stamp_of}
use Rattle.rz_label.specs.Labelled.{maps_header}
use Rattle.rz_syms.specs.declared.fault.SymFault.{SymFault}
use Rattle.rz_syms.specs.Fault.{fault_of as symbol_fault_of}
use Rattle.rz_syms.specs.declared.fault.SymError.{SymError}
use Rattle.rz_syms.specs.declared.fault.SymError.TheVariants as symbol_error
use Rattle.rz_classes.specs.declared.listed.Function.{Function}
use Rattle.rz_classes.specs.declared.error.ClassError.{ClassError}
use Rattle.rz_classes.specs.Fault.{fault_of as class_fault_of, functions_of}
use Rattle.rz_classes.specs.declared.error.ClassError.TheVariants as class_error
use Rattle.rz_input.specs.declared.error.InputError.{InputError}
use Rattle.rz_input.specs.declared.error.InputError.TheVariants as error
use Rattle.rz_trace.specs.declared.error.TraceFault.{TraceFault}
use Rattle.rz_trace.specs.declared.error.TraceFault.TheVariants as trace_error
use Rattle.rz_core.specs.declared.status.Status.{Status}
use Rattle.rz_core.specs.declared.status.Status.TheVariants as status
use Rattle.rz_core.specs.declared.plan.Demand.{Demand}
use Rattle.rz_core.specs.declared.plan.Demand.TheVariants as demand
use Rattle.rz_core.specs.Reading.{Read, unmapped}

-- how many bytes of it are asked for: one more than it may have
abbrev pub most_of : Demand → ℕ
most_of demand.Accepted = 67108865
most_of demand.Named = 67108865
most_of demand.Unmapped = 67108865
most_of demand.ClassFile = 16777217
most_of demand.Input = 16777217
most_of demand.Trace = 16777217

-- the refusal of an executable of these bytes, or want of memory
abbrev pub IsRefusedFor : List ℕ → List ℕ → Status → Type 0
IsRefusedFor name x answer =
    (answer ≡ status.OutOfMemory) ⊎ ((f : ElfFault) × (fault_of x ≡ Some f) × (answer ≡ status.Refused name f))

-- a file that can be labelled: it is stamped, and its header isn't mapped
abbrev pub CanLabel : ElfFile → Type 0
CanLabel elf = (stamp_of elf ≢ None) × (maps_header elf ≡ false)

-- so it is taken
abbrev pub IsUnmapped : List ℕ → ElfFile → Type 0
IsUnmapped name elf = (next : Result Read Status) → unmapped name elf next ≡ next

-- the refusal of a file of this name that can't be, or want of memory
abbrev pub IsMapped : List ℕ → ElfFile → Status → Type 0
IsMapped name elf answer = (answer ≡ status.OutOfMemory) ⊎ ((next : Result Read Status) → unmapped name elf next ≡ Err answer)

-- the refusal of a file whose symbols aren't read, or want of memory
abbrev pub IsMisnamed : List ℕ → Status → Type 0
IsMisnamed x answer = (answer ≡ status.OutOfMemory) ⊎ ((f : SymFault) × (symbol_fault_of x ≡ Some f) × (answer ≡ status.BadSymbols f))

abbrev pub symbol_refusal : SymError → Status
symbol_refusal symbol_error.OutOfMemory = status.OutOfMemory
symbol_refusal (symbol_error.Fault f) = status.BadSymbols f

-- a class text gives these functions, or the fault
abbrev pub IsClassFile : List ℕ → Result (List Function) ClassError → Type 0
IsClassFile text (Ok functions) = (class_fault_of text ≡ None) × (functions ≡ functions_of text)
IsClassFile text (Err e) = e ≢ class_error.OutOfMemory → class_fault_of text ≡ Some e

abbrev pub class_refusal : ClassError → Status
class_refusal class_error.OutOfMemory = status.OutOfMemory
class_refusal (class_error.BadLine line) = status.BadClasses line
class_refusal (class_error.Overlap line) = status.BadClasses line

abbrev pub input_refusal : ℕ → InputError → Status
input_refusal k error.OutOfMemory = status.OutOfMemory
input_refusal k (error.BadLine line) = status.BadInput k line
input_refusal k (error.TooBig line) = status.BadInput k line

abbrev pub trace_refusal : TraceFault → Status
trace_refusal trace_error.OutOfMemory = status.OutOfMemory
trace_refusal (trace_error.BadLine line) = status.BadTrace line

-- it isn't taken
abbrev pub Untaken : Result Read Status → Status → Type 0
Untaken outcome answer = (answer ≡ status.OutOfMemory) ⊎ (outcome ≡ Err answer)
