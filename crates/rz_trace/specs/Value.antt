-- The profile that a text names, and the nodes and edges that it lists.
use Rattle.std.specs.Prelude.{ℕ, List, [], fold, Option, Some, None}
use Rattle.std.specs.List.{filter_map}
use Rattle.rz_text.specs.Lines.{Line, lines_from, words}
use Rattle.rz_aset.specs.declared.kept.Record.{Record}
use Rattle.rz_aset.specs.Sets.{with_address, with_edge}
use Rattle.rz_trace.specs.declared.entry.Entry.{Entry}
use Rattle.rz_trace.specs.declared.entry.Entry.TheVariants.{Begin, Profile, Node, Edge, End}
use Rattle.rz_trace.specs.declared.file.TraceFile.{TraceFile}
use Rattle.rz_trace.specs.Grammar.{entry_of}

abbrev pub with_node : Record → ℕ → Record
with_node kept at = record kept { nodes = with_address kept.nodes at }

abbrev pub with_link : Record → ℕ × ℕ → Record
with_link kept edge = record kept { edges = with_edge kept.edges edge }

-- the file with what a line says
abbrev pub with_entry : TraceFile → Entry → TraceFile
with_entry file (Begin version) = file
with_entry file (Profile profile) = record file { profile = profile }
with_entry file (Node at) = record file { rec = with_node file.rec at }
with_entry file (Edge from to) = record file { rec = with_link file.rec (from, to) }
with_entry file End = file

abbrev pub with_some : TraceFile → Option Entry → TraceFile
with_some file None = file
with_some file (Some entry) = with_entry file entry

-- the record of no nodes and no edges
abbrev pub no_record : Record
no_record = record { nodes = []; edges = [] }

-- a file that lists nothing, and names no profile, is one of profile 1
abbrev pub no_file : TraceFile
no_file = record { profile = 1; rec = no_record }

-- the file of entries
abbrev pub file_from : List Entry → TraceFile
file_from entries = fold with_entry no_file entries

-- what lines say
abbrev pub entries : List Line → List Entry
entries lines = filter_map (λ l. entry_of (words l.1)) lines

-- the file of a text, and its record
abbrev pub file_of : List ℕ → TraceFile
file_of text = file_from (entries (lines_from 1 text))

abbrev pub record_of : List ℕ → Record
record_of text = (file_of text).rec
