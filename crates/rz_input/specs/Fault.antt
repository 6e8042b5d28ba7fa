-- The first fault of an input text.
use Rattle.std.specs.Prelude.{ℕ, ◌++◌, nat_lt, if◌then◌else◌, List, [], ◌∷◌, length, Option, Some, None}
use Rattle.rz_text.specs.Lines.{Line, words}
use Rattle.rz_text.specs.Fault.{text_fault}
use Rattle.rz_sys.specs.Input.{strings}
use Rattle.rz_input.specs.declared.entry.Entry.{Entry}
use Rattle.rz_input.specs.declared.entry.Entry.TheVariants.{Arg, Stdin, Reply}
use Rattle.rz_input.specs.declared.error.InputError.{InputError}
use Rattle.rz_input.specs.declared.error.InputError.TheVariants.{BadLine, TooBig}
use Rattle.rz_input.specs.Grammar.{entry_of}
use Rattle.rz_input.specs.Value.{entries, input_from}

-- the fault of line n, where it says this, if anything, behind the arguments of earlier lines
abbrev pub fault_behind : List (List ℕ) → ℕ → Option Entry → Option InputError
fault_behind args n None = Some (BadLine n)
fault_behind args n (Some (Arg arg)) = if nat_lt 65536 (length (strings (args ++ arg ∷ []))) then Some (TooBig n) else None
fault_behind args n (Some (Stdin bytes)) = None
fault_behind args n (Some (Reply reply)) = None

-- the fault of line n of this text behind the arguments of earlier lines
abbrev pub line_fault : List (List ℕ) → ℕ → List ℕ → Option InputError
line_fault args n text = fault_behind args n (entry_of (words text))

-- the fault of a line behind earlier ones
abbrev pub fault_of_line : List Line → Line → Option InputError
fault_of_line earlier line = line_fault (input_from (entries earlier)).args line.0 line.1

-- the first fault of a text
abbrev pub fault_of : List ℕ → Option InputError
fault_of text = text_fault BadLine fault_of_line text
