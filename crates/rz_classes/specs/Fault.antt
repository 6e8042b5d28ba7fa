-- The functions of a class text, and its first fault.
use Rattle.std.specs.Prelude.{ℕ, if◌then◌else◌, List, Option, Some, None}
use Rattle.std.specs.List.{filter_map, list_any}
use Rattle.rz_text.specs.Lines.{Line, content, words}
use Rattle.rz_text.specs.Fault.{text_fault}
use Rattle.rz_classes.specs.declared.listed.Function.{Function}
use Rattle.rz_classes.specs.declared.error.ClassError.{ClassError}
use Rattle.rz_classes.specs.declared.error.ClassError.TheVariants.{BadLine, Overlap}
use Rattle.rz_classes.specs.Function.{meets}
use Rattle.rz_classes.specs.Grammar.{function_of}

-- the functions that some lines list
abbrev pub functions : List Line → List Function
functions lines = filter_map (λ l. function_of (words l.1)) lines

-- the fault of line n, where it lists this function, if any, behind others
abbrev pub fault_behind : List Function → ℕ → Option Function → Option ClassError
fault_behind others n None = Some (BadLine n)
fault_behind others n (Some f) = if list_any (meets f) others then Some (Overlap n) else None

-- the fault of line n of this text behind other functions
abbrev pub line_fault : List Function → ℕ → List ℕ → Option ClassError
line_fault others n text = fault_behind others n (function_of (words text))

-- the fault of a line behind earlier ones
abbrev pub fault_of_line : List Line → Line → Option ClassError
fault_of_line earlier line = line_fault (functions earlier) line.0 line.1

-- the first fault of a text
abbrev pub fault_of : List ℕ → Option ClassError
fault_of text = text_fault BadLine fault_of_line text

-- the functions of a text
abbrev pub functions_of : List ℕ → List Function
functions_of text = functions (content text)
