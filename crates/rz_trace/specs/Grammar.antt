-- The grammar of a line: `razor-trace 1` or `razor-trace 2`, `profile 1` or `profile 2`, `n ADDR`, `e ADDR ADDR` or `end`. 48 is `0`, 65 to 70 are `A` to `F`.
use Rattle.std.specs.Prelude.{ℕ, ◌&&◌, ◌==◌, not, Bool, nat_le, nat_lt, if◌then◌else◌, List, [], ◌∷◌, length, codes, bytes_eq, slice_index, Option, Some, None, Result, Ok, Err}
use Rattle.std.specs.List.{list_all}
use Rattle.rz_text.specs.Number.{hexadecimal}
use Rattle.rz_trace.specs.declared.entry.Entry.{Entry}
use Rattle.rz_trace.specs.declared.entry.Entry.TheVariants.{Begin, Profile, Node, Edge, End}

-- no upper-case digit
abbrev pub is_small : ℕ → Bool
is_small b = not (nat_le 65 b && nat_le b 70)

-- no upper-case digits, and no leading zero behind `0x`
abbrev pub is_plain : List ℕ → Bool
is_plain word = list_all is_small word && not (nat_lt 3 (length word) && slice_index word 2 == 48)

abbrev pub number_read : Result ℕ ℕ → Option ℕ
number_read (Ok at) = Some at
number_read (Err place) = None

-- the address that a word spells: `0x` and 1 to 16 lower-case digits without leading zeros
abbrev pub address_of : List ℕ → Option ℕ
address_of word = if is_plain word then number_read (hexadecimal word) else None

-- a version, and a profile
abbrev pub one_or_two : List ℕ → Option ℕ
one_or_two word = if bytes_eq word (codes "1") then Some 1 else if bytes_eq word (codes "2") then Some 2 else None

abbrev pub begin_of : Option ℕ → Option Entry
begin_of (Some version) = Some (Begin version)
begin_of None = None

abbrev pub profile_of : Option ℕ → Option Entry
profile_of (Some profile) = Some (Profile profile)
profile_of None = None

abbrev pub node_at : Option ℕ → Option Entry
node_at (Some at) = Some (Node at)
node_at None = None

abbrev pub edge_between : Option ℕ → Option ℕ → Option Entry
edge_between (Some from) (Some to) = Some (Edge from to)
edge_between _ _ = None

-- what one word, two and three words say
abbrev pub entry_of_one : List ℕ → Option Entry
entry_of_one key = if bytes_eq key (codes "end") then Some End else None

abbrev pub entry_of_two : List ℕ → List ℕ → Option Entry
entry_of_two key value =
    if bytes_eq key (codes "razor-trace") then begin_of (one_or_two value)
    else if bytes_eq key (codes "profile") then profile_of (one_or_two value)
    else if bytes_eq key (codes "n") then node_at (address_of value) else None

abbrev pub entry_of_three : List ℕ → List ℕ → List ℕ → Option Entry
entry_of_three key from to = if bytes_eq key (codes "e") then edge_between (address_of from) (address_of to) else None

-- what the words of a line say
unfoldable pub entry_of : List (List ℕ) → Option Entry
entry_of (key ∷ []) = entry_of_one key
entry_of (key ∷ value ∷ []) = entry_of_two key value
entry_of (key ∷ from ∷ to ∷ []) = entry_of_three key from to
entry_of _ = None
