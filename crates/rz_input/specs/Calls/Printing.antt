-- The lines of each kind of entry, and replies whose numbers have 64 bits, as all have in the code.
use Rattle.std.specs.Prelude.{ℕ, ◌<◌, ◌^◌, List, flat_map}
use Rattle.rz_sys.specs.declared.input.Reply.{Reply}
use Rattle.rz_sys.specs.declared.input.Reply.TheVariants.{Full, AtMost, Error}
use Rattle.rz_input.specs.declared.entry.Entry.TheVariants as entry
use Rattle.rz_input.specs.Printed.{ended_line, pieces}

abbrev pub HasWord : Reply → Type 0
HasWord Full = Unit {0}
HasWord (AtMost n) = n < 2 ^ 64
HasWord (Error n) = n < 2 ^ 64

-- the lines of arguments
abbrev pub arg_lines : List (List ℕ) → List ℕ
arg_lines args = flat_map (λ arg. ended_line (entry.Arg arg)) args

-- the lines of the standard input
abbrev pub stdin_lines : List ℕ → List ℕ
stdin_lines bytes = flat_map (λ piece. ended_line (entry.Stdin piece)) (pieces bytes)

-- the lines of replies
abbrev pub reply_lines : List Reply → List ℕ
reply_lines replies = flat_map (λ reply. ended_line (entry.Reply reply)) replies
