-- The text of a record: the first line, the profile, the nodes and then the edges in ascending order, the last line.
use Rattle.std.specs.Prelude.{◌≡◌, ℕ, ◌+◌, List, [], ◌∷◌, ◌++◌, codes, flat_map, map, IsSorted, ◌≤◌, length, true, All, None}
use Rattle.std.specs.Ordering.{nat_cmp}
use Rattle.std.specs.List.{join_with_byte}
use Rattle.rz_num.specs.Texts.{hex_text}
use Rattle.rz_trace.specs.Fault.{fault_of}
use Rattle.rz_trace.specs.Value.{file_of, record_of}
use Rattle.std.specs.List.Sorted.{IsPermutation}
use Rattle.rz_aset.specs.declared.kept.Record.{Record}
use Rattle.rz_aset.specs.Sets.{edge_cmp, has}
use Rattle.rz_machine.specs.Kept.{Kept, sorted, sorted_edges}
use Rattle.rz_trace.specs.declared.entry.Entry.{Entry}
use Rattle.rz_trace.specs.declared.entry.Entry.TheVariants.{Begin, Profile, Node, Edge, End}

-- an address: `0x` and lower-case digits without leading zeros
abbrev pub address_word : ℕ → List ℕ
address_word at = hex_text at

-- a number of one digit: 48 is `0`
abbrev pub digit_word : ℕ → List ℕ
digit_word n = (48 + n) ∷ []

-- the words that say an entry
abbrev pub entry_words : Entry → List (List ℕ)
entry_words (Begin version) = codes "razor-trace" ∷ digit_word version ∷ []
entry_words (Profile profile) = codes "profile" ∷ digit_word profile ∷ []
entry_words (Node at) = codes "n" ∷ address_word at ∷ []
entry_words (Edge from to) = codes "e" ∷ address_word from ∷ address_word to ∷ []
entry_words End = codes "end" ∷ []

-- the line of an entry, without its end and with it
abbrev pub entry_line : Entry → List ℕ
entry_line entry = join_with_byte 32 (entry_words entry)

abbrev pub ended_line : Entry → List ℕ
ended_line entry = entry_line entry ++ 10 ∷ []

-- what the lines of nodes and edges say: the version and the profile are 2
abbrev pub entries_of : List ℕ → List (ℕ × ℕ) → List Entry
entries_of nodes edges = Begin 2 ∷ Profile 2 ∷ (map (λ at. Node at) nodes ++ (map (λ edge. Edge edge.0 edge.1) edges ++ End ∷ []))

-- the text of nodes and edges
abbrev pub text_of : List ℕ → List (ℕ × ℕ) → List ℕ
text_of nodes edges = flat_map ended_line (entries_of nodes edges)

-- the text of a kept set: its nodes and its edges in ascending order
abbrev pub printed : Kept → List ℕ
printed kept = text_of (sorted kept.nodes) (sorted_edges kept.edges)

-- the ends of the edges are among the nodes
abbrev pub HasEnds : Record → Type 0
HasEnds kept = All (λ edge. (has kept.nodes edge.0 ≡ true) × (has kept.nodes edge.1 ≡ true)) kept.edges

-- a text is in the grammar, names profile 2, and lists a record's nodes and edges in ascending order
pub record IsReadAs (text : List ℕ) (kept : Record) : Type 0 where
  pub sound : fault_of text ≡ None
  pub profile : (file_of text).profile ≡ 2
  pub nodes_ascend : IsSorted nat_cmp (record_of text).nodes
  pub edges_ascend : IsSorted edge_cmp (record_of text).edges
  pub same_nodes : IsPermutation kept.nodes (record_of text).nodes
  pub same_edges : IsPermutation kept.edges (record_of text).edges

-- a record is read back from its text, where that is no longer than a trace file may be
abbrev pub ReadsBack : List ℕ → Record → Type 0
ReadsBack text kept = HasEnds kept → length text ≤ 16777216 → IsReadAs text kept
