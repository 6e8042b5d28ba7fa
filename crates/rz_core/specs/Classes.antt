-- The functions that class files list, and those of a file that they may name.
use Rattle.std.specs.Prelude.{◌≡◌, ℕ, List, [], ◌∷◌, Option, Some, None}
use Rattle.rz_elf.specs.Loaded.{ElfFile}
use Rattle.rz_syms.specs.declared.fault.SymFault.{SymFault}
use Rattle.rz_syms.specs.declared.function.Function.{Function as Named}
use Rattle.rz_syms.specs.Fault.{fault_of as symbol_fault_of}
use Rattle.rz_syms.specs.Symbols.{functions_of as functions_named}
use Rattle.rz_syms.specs.Resolved.{resolved}
use Rattle.rz_classes.specs.declared.error.ClassError.{ClassError}
use Rattle.rz_classes.specs.declared.error.ClassError.TheVariants as error
use Rattle.rz_classes.specs.declared.listed.Function.{Function}
use Rattle.rz_classes.specs.Fault.{fault_of, functions_of}

-- the line that a fault names
abbrev pub line_of : ClassError → ℕ
line_of (error.BadLine line) = line
line_of (error.Overlap line) = line
line_of error.OutOfMemory = 0

abbrev sound_names : Option SymFault → List Named → List Named
sound_names None names = names
sound_names (Some fault) names = []

-- the functions that a file names: none where its symbol table has a fault
abbrev pub names_of : ElfFile → List Named
names_of elf = sound_names (symbol_fault_of elf.bytes) (functions_named elf)

abbrev pub names_of_first : List ElfFile → List Named
names_of_first [] = []
names_of_first (elf ∷ elves) = names_of elf

-- the class file of this name, if there is one, lists these functions, where a file names some; `Holds` says which bytes
-- a name holds
abbrev pub HoldsClasses : (List ℕ → List ℕ → Type 0) → List Named → Option (List ℕ) → List Function → Type 0
HoldsClasses Holds names None functions = functions ≡ []
HoldsClasses Holds names (Some name) functions =
    (text : List ℕ) × Holds name text × (fault_of (resolved names text) ≡ None) × (functions ≡ functions_of (resolved names text))
