-- An input with one more entry, and why a line adds none.
use Rattle.std.specs.Prelude.{◌≡◌, ◌≢◌, ℕ, List, ◌++◌, [], ◌∷◌, Option, Some, None}
use Rattle.rz_sys.specs.declared.input.Input.{Input}
use Rattle.rz_input.specs.Fault.{line_fault}
use Rattle.rz_input.specs.declared.error.InputError.{InputError}
use Rattle.rz_input.specs.declared.error.InputError.TheVariants as error
use Rattle.rz_input.specs.declared.entry.Entry.{Entry}
use Rattle.rz_input.specs.declared.entry.Entry.TheVariants.{Arg, Stdin, Reply}

abbrev pub with_entry : Input → Entry → Input
with_entry input (Arg arg) = record input { args = input.args ++ arg ∷ [] }
with_entry input (Stdin bytes) = record input { stdin = input.stdin ++ bytes }
with_entry input (Reply reply) = record input { replies = input.replies ++ reply ∷ [] }

abbrev pub with_some : Input → Option Entry → Input
with_some input None = input
with_some input (Some entry) = with_entry input entry

-- the error of line n is its fault, or want of memory
abbrev pub LineRefusal : List (List ℕ) → ℕ → List ℕ → InputError → Type 0
LineRefusal args n line e = e ≢ error.OutOfMemory → line_fault args n line ≡ Some e
