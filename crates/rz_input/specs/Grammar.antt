-- The grammar of a line: `arg`, `arg HEX`, `in HEX`, `reply full`, `reply atmost N`, `reply error N`.
use Rattle.std.specs.Prelude.{ℕ, ◌==◌, ◌&&◌, nat_le, if◌then◌else◌, List, [], ◌∷◌, codes, bytes_eq, Option, Some, None, Result, Ok, Err}
use Rattle.std.specs.List.{list_any}
use Rattle.hex.specs.Hex.{decode_of}
use Rattle.hex.specs.declared.error.FromHexError.{FromHexError}
use Rattle.rz_text.specs.Number.{decimal}
use Rattle.rz_sys.specs.declared.input.Reply.TheVariants.{Full, AtMost, Error}
use Rattle.rz_input.specs.declared.entry.Entry.{Entry}
use Rattle.rz_input.specs.declared.entry.Entry.TheVariants.{Arg, Stdin, Reply}

-- bytes, where there are any
abbrev pub some_bytes : Result (List ℕ) FromHexError → Option (List ℕ)
some_bytes (Ok (b ∷ bs)) = Some (b ∷ bs)
some_bytes (Ok []) = None
some_bytes (Err e) = None

-- the bytes of a word of hexadecimal digits of either case
abbrev pub bytes_of : List ℕ → Option (List ℕ)
bytes_of word = some_bytes (decode_of word)

-- an argument has no zero byte
abbrev pub argument : Option (List ℕ) → Option Entry
argument None = None
argument (Some bytes) = if list_any (λ b. b == 0) bytes then None else Some (Arg bytes)

abbrev pub input_bytes : Option (List ℕ) → Option Entry
input_bytes None = None
input_bytes (Some bytes) = Some (Stdin bytes)

-- at most 1 byte or more, or an error number of 1 to 4095
abbrev pub numbered_reply : List ℕ → Result ℕ ℕ → Option Entry
numbered_reply kind (Err place) = None
numbered_reply kind (Ok n) =
    if bytes_eq kind (codes "atmost") && nat_le 1 n then Some (Reply (AtMost n))
    else if bytes_eq kind (codes "error") && nat_le 1 n && nat_le n 4095 then Some (Reply (Error n))
    else None

abbrev pub entry_of_one : List ℕ → Option Entry
entry_of_one key = if bytes_eq key (codes "arg") then Some (Arg []) else None

abbrev pub entry_of_two : List ℕ → List ℕ → Option Entry
entry_of_two key value =
    if bytes_eq key (codes "arg") then argument (bytes_of value)
    else if bytes_eq key (codes "in") then input_bytes (bytes_of value)
    else if bytes_eq key (codes "reply") && bytes_eq value (codes "full") then Some (Reply Full)
    else None

abbrev pub entry_of_three : List ℕ → List ℕ → List ℕ → Option Entry
entry_of_three key kind number = if bytes_eq key (codes "reply") then numbered_reply kind (decimal number) else None

-- what the words of a line say
unfoldable pub entry_of : List (List ℕ) → Option Entry
entry_of (key ∷ []) = entry_of_one key
entry_of (key ∷ value ∷ []) = entry_of_two key value
entry_of (key ∷ kind ∷ number ∷ []) = entry_of_three key kind number
entry_of _ = None
