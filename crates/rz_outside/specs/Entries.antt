-- Files as a list of names and contents. Where a name stands twice its first entry counts.
use Rattle.std.specs.Prelude.{ℕ, List, Option, bytes_eq}
use Rattle.std.specs.Map.{lookup, keys_of}
use Rattle.std.specs.List.{IsDistinct}

-- what a name holds
abbrev pub contents_of : List (List ℕ × List ℕ) → List ℕ → Option (List ℕ)
contents_of entries name = lookup (λ key. bytes_eq key name) entries

-- no name is given twice
abbrev pub HasDistinctNames : List (List ℕ × List ℕ) → Type 0
HasDistinctNames entries = IsDistinct bytes_eq (keys_of entries)
