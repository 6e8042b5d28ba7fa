-- The files that a command reads, in order: what each gives, in the light of those before it, and how it is refused.
use Rattle.std.specs.Prelude.{◌≡◌, ◌⊎◌, ℕ, ◌+◌, if◌then◌else◌, List, [], ◌∷◌, ◌++◌, length, Option, Some, None, Result, Ok, Err}
use Rattle.rz_outside.specs.Counts.{Rose}
use Rattle.rz_outside.specs.StoreAnswers.{IsMissing}
use Rattle.rz_outside.specs.StoreCalls.{StoreCalls, Held}
use Rattle.rz_elf.specs.Elf.{fault_of}
use Rattle.rz_elf.specs.Loaded.{ElfFile, elf_of}
use Rattle.rz_elf.specs.Stamped.{stamp_of}
use Rattle.rz_label.specs.Labelled.{maps_header}
use Rattle.rz_syms.specs.declared.function.Function.{Function as Named}
use Rattle.rz_syms.specs.Fault.{fault_of as symbol_fault_of}
use Rattle.rz_syms.specs.Resolved.{resolved}
use Rattle.rz_classes.specs.declared.listed.Function.{Function}
use Rattle.rz_classes.specs.Fault.{fault_of as class_fault_of, functions_of}
use Rattle.rz_sys.specs.declared.input.Input.{Input}
use Rattle.rz_sys.specs.Input.{empty_input}
use Rattle.rz_input.specs.Fault.{fault_of as input_fault_of}
use Rattle.rz_input.specs.Value.{input_of}
use Rattle.rz_aset.specs.declared.kept.Record.{Record}
use Rattle.rz_trace.specs.Fault.{fault_of as trace_fault_of}
use Rattle.rz_trace.specs.Value.{no_record, record_of}
use Rattle.rz_core.specs.declared.status.Status.{Status}
use Rattle.rz_core.specs.declared.status.Status.TheVariants as status
use Rattle.rz_core.specs.declared.files.Files.{Files}
use Rattle.rz_core.specs.declared.plan.Demand.{Demand}
use Rattle.rz_core.specs.declared.plan.Demand.TheVariants as demand
use Rattle.rz_core.specs.declared.plan.Wanted.{Wanted}
use Rattle.rz_core.specs.Inputs.{line_of}
use Rattle.rz_core.specs.Classes.{line_of as class_line_of, names_of_first}
use Rattle.rz_core.specs.Traces.{line_of as trace_line_of}

-- what was read so far, each kind in the order of the reads
pub record Read : Type 0 where
  pub executables : List ElfFile
  pub functions : List Function
  pub inputs : List Input
  pub trace : Record

abbrev pub nothing : Read
nothing = record { executables = []; functions = []; inputs = []; trace = no_record }

-- as the code holds it
abbrev pub read_in : Files → Read
read_in f = record { executables = f.executables.items; functions = f.functions; inputs = f.inputs.items; trace = f.trace }

-- the bytes of the first executable
abbrev first_bytes : List ElfFile → List ℕ
first_bytes [] = []
first_bytes (elf ∷ elves) = elf.bytes

abbrev pub exe_of : Read → List ℕ
exe_of r = first_bytes r.executables

-- and of the second
abbrev second_bytes : List ElfFile → List ℕ
second_bytes [] = []
second_bytes (elf ∷ elves) = first_bytes elves

abbrev pub new_file_of : Read → List ℕ
new_file_of r = second_bytes r.executables

-- the functions that the first executable names
abbrev pub named_in : Read → List Named
named_in r = names_of_first r.executables

-- a class text, with its functions by address
abbrev pub class_text : Read → List ℕ → List ℕ
class_text r x = resolved (named_in r) x

-- the first input
abbrev first_input : List Input → Input
first_input [] = empty_input
first_input (input ∷ inputs) = input

abbrev pub input_in : Read → Input
input_in r = first_input r.inputs

abbrev pub with_executable : Read → ElfFile → Read
with_executable r elf = record { executables = r.executables ++ (elf ∷ []); functions = r.functions; inputs = r.inputs; trace = r.trace }

abbrev pub with_functions : Read → List Function → Read
with_functions r functions = record { executables = r.executables; functions = functions; inputs = r.inputs; trace = r.trace }

abbrev pub with_input : Read → Input → Read
with_input r input = record { executables = r.executables; functions = r.functions; inputs = r.inputs ++ (input ∷ []); trace = r.trace }

abbrev pub with_trace : Read → Record → Read
with_trace r trace = record { executables = r.executables; functions = r.functions; inputs = r.inputs; trace = trace }

-- the refusal of a fault, or else what follows
abbrev pub judged : {E : Type 0} → Option E → (E → Status) → Result Read Status → Result Read Status
judged None refusal next = next
judged (Some f) refusal next = Err (refusal f)

-- the refusal where there is none, or else what follows
abbrev pub asked : {A : Type 0} → Option A → Status → Result Read Status → Result Read Status
asked None refusal next = Err refusal
asked (Some a) refusal next = next

-- the refusal of a file that can't be labelled, or else what follows
abbrev pub unmapped : List ℕ → ElfFile → Result Read Status → Result Read Status
unmapped name elf next =
    asked (stamp_of elf) (status.NotStamped name) (if maps_header elf then Err (status.HeaderMapped name) else next)

-- what has been read once the file of this name holds these bytes, or the status that refuses it
abbrev pub taken_as : Demand → List ℕ → Read → List ℕ → Result Read Status
taken_as demand.Accepted name r x = judged (fault_of x) (λ f. status.Refused name f) (Ok (with_executable r (elf_of x)))
taken_as demand.Named name r x =
    judged (fault_of x) (λ f. status.Refused name f)
    (judged (symbol_fault_of x) (λ f. status.BadSymbols f) (Ok (with_executable r (elf_of x))))
taken_as demand.Unmapped name r x =
    judged (fault_of x) (λ f. status.Refused name f) (unmapped name (elf_of x) (Ok (with_executable r (elf_of x))))
taken_as demand.ClassFile name r x =
    judged (class_fault_of (class_text r x)) (λ f. status.BadClasses (class_line_of f))
    (Ok (with_functions r (functions_of (class_text r x))))
taken_as demand.Input name r x =
    judged (input_fault_of x) (λ f. status.BadInput (length r.inputs + 1) (line_of f)) (Ok (with_input r (input_of x)))
taken_as demand.Trace name r x =
    judged (trace_fault_of x) (λ f. status.BadTrace (trace_line_of f)) (Ok (with_trace r (record_of x)))

abbrev pub taken : Wanted → Read → List ℕ → Result Read Status
taken w r x = taken_as w.demand w.name r x

-- a read of this name may fail
abbrev pub ReadCause : StoreCalls → List ℕ → Type 0
ReadCause s name = (Rose s.before s.now × (s.failed ≡ name)) ⊎ IsMissing s.told s.old name

-- a read of this name failed, or there was no memory
abbrev pub ReadRefusal : List ℕ → StoreCalls → Status → Type 0
ReadRefusal name s (status.ReadFault file) = (file ≡ name) × ReadCause s name
ReadRefusal name s status.OutOfMemory = Unit {0}
ReadRefusal name s _ = ⊥

-- a file was read; `Holds` says which bytes a name holds
abbrev pub IsTaken : (List ℕ → List ℕ → Type 0) → Wanted → Read → Read → Type 0
IsTaken Holds w r next = (x : List ℕ) × Holds w.name x × (taken w r x ≡ Ok next)

-- these files were read in order
abbrev pub AreTaken : (List ℕ → List ℕ → Type 0) → List Wanted → Read → Read → Type 0
AreTaken Holds [] r last = r ≡ last
AreTaken Holds (w ∷ ws) r last = (next : Read) × IsTaken Holds w r next × AreTaken Holds ws next last

-- a file is refused
abbrev pub FileRefusal : Wanted → Read → StoreCalls → Status → Type 0
FileRefusal w r s answer = ReadRefusal w.name s answer ⊎ ((x : List ℕ) × Held s w.name x × (taken w r x ≡ Err answer))

-- how a command that reads these files answers: by the first that is refused, and where all were read, as `End` says
abbrev pub Course : List Wanted → Read → StoreCalls → (Read → Status → Type 0) → Status → Type 0
Course [] r s End answer = End r answer
Course (w ∷ ws) r s End answer =
    FileRefusal w r s answer ⊎ ((next : Read) × IsTaken (Held s) w r next × Course ws next s End answer)

-- one of these files is refused
abbrev pub IsUnread : List Wanted → Read → StoreCalls → Status → Type 0
IsUnread ws r s answer = Course ws r s (λ last st. ⊥) answer
