-- The input that lines give.
use Rattle.std.specs.Prelude.{ℕ, List, [], flat_map, Option, Some, None}
use Rattle.std.specs.List.{filter_map}
use Rattle.rz_text.specs.Lines.{Line, content, words}
use Rattle.rz_sys.specs.declared.input.Input.{Input}
use Rattle.rz_sys.specs.declared.input.Reply.{Reply as ReplyOf}
use Rattle.rz_input.specs.declared.entry.Entry.{Entry}
use Rattle.rz_input.specs.declared.entry.Entry.TheVariants.{Arg, Stdin, Reply}
use Rattle.rz_input.specs.Grammar.{entry_of}

-- the argument that a line gives
abbrev pub arg_of : Entry → Option (List ℕ)
arg_of (Arg bytes) = Some bytes
arg_of (Stdin bytes) = None
arg_of (Reply reply) = None

-- the bytes of the standard input that a line gives
abbrev pub stdin_of : Entry → List ℕ
stdin_of (Arg bytes) = []
stdin_of (Stdin bytes) = bytes
stdin_of (Reply reply) = []

-- the reply that a line gives
abbrev pub reply_of : Entry → Option ReplyOf
reply_of (Arg bytes) = None
reply_of (Stdin bytes) = None
reply_of (Reply reply) = Some reply

-- the input of some entries: their arguments, their bytes joined, their replies
abbrev pub input_from : List Entry → Input
input_from entries =
    record { args = filter_map arg_of entries; stdin = flat_map stdin_of entries; replies = filter_map reply_of entries }

-- what some lines say
abbrev pub entries : List Line → List Entry
entries lines = filter_map (λ l. entry_of (words l.1)) lines

-- the input of a text
abbrev pub input_of : List ℕ → Input
input_of text = input_from (entries (content text))
