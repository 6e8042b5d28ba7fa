-- The text of an input: the arguments, then the bytes of the standard input, 32 on a line, then the replies.
use Rattle.std.specs.Prelude.{◌≡◌, ◌≤◌, None, ℕ, zero, suc, false, List, [], ◌∷◌, ◌++◌, codes, drop, flat_map, length, map, take}
use Rattle.std.specs.List.{join_with_byte}
use Rattle.std.specs.Fmt.{digits}
use Rattle.hex.specs.Hex.{encode_lower}
use Rattle.rz_sys.specs.declared.input.Input.{Input}
use Rattle.rz_sys.specs.declared.input.Reply.{Reply as ReplyOf}
use Rattle.rz_sys.specs.declared.input.Reply.TheVariants.{Full, AtMost, Error}
use Rattle.rz_sys.specs.Input.{IsValid}
use Rattle.rz_input.specs.Fault.{fault_of}
use Rattle.rz_input.specs.Value.{input_of}
use Rattle.rz_input.specs.declared.entry.Entry.{Entry}
use Rattle.rz_input.specs.declared.entry.Entry.TheVariants.{Arg, Stdin, Reply}

-- the words that say a reply
abbrev pub reply_words : ReplyOf → List (List ℕ)
reply_words Full = codes "reply" ∷ codes "full" ∷ []
reply_words (AtMost n) = codes "reply" ∷ codes "atmost" ∷ digits 10 false n ∷ []
reply_words (Error n) = codes "reply" ∷ codes "error" ∷ digits 10 false n ∷ []

-- the words that say an entry
abbrev pub entry_words : Entry → List (List ℕ)
entry_words (Arg []) = codes "arg" ∷ []
entry_words (Arg (b ∷ bs)) = codes "arg" ∷ encode_lower (b ∷ bs) ∷ []
entry_words (Stdin bytes) = codes "in" ∷ encode_lower bytes ∷ []
entry_words (Reply reply) = reply_words reply

-- the line of an entry, without its end and with it
abbrev pub entry_line : Entry → List ℕ
entry_line entry = join_with_byte 32 (entry_words entry)

abbrev pub ended_line : Entry → List ℕ
ended_line entry = entry_line entry ++ 10 ∷ []

-- bytes in pieces of 32, at most so many; the last piece may be shorter
abbrev pub pieces_within : ℕ → List ℕ → List (List ℕ)
pieces_within zero bytes = []
pieces_within (suc n) [] = []
pieces_within (suc n) (b ∷ bs) = take 32 (b ∷ bs) ∷ pieces_within n (drop 32 (b ∷ bs))

unfoldable pub pieces : List ℕ → List (List ℕ)
pieces bytes = pieces_within (length bytes) bytes

-- what the lines of an input say
abbrev pub printed_entries : Input → List Entry
printed_entries input =
    map (λ arg. Arg arg) input.args ++ (map (λ bytes. Stdin bytes) (pieces input.stdin) ++ map (λ reply. Reply reply) input.replies)

-- the text of an input
abbrev pub printed : Input → List ℕ
printed input = flat_map ended_line (printed_entries input)

-- a text is in the grammar, and gives this input
pub record IsReadAs (text : List ℕ) (input : Input) : Type 0 where
  pub sound : fault_of text ≡ None
  pub value : input_of text ≡ input

-- a valid input is read back from its text, where that is no longer than an input file may be
abbrev pub ReadsBack : List ℕ → Input → Type 0
ReadsBack text input = IsValid input → length text ≤ 16777216 → IsReadAs text input
