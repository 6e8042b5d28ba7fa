-- The fragments of what is kept, without the jumps that lead to what follows, the tables of its sites, and the stubs.
use Rattle.std.specs.Prelude.{ℕ, ◌+◌, Bool, false, ◌==◌, if◌then◌else◌, List, [], ◌∷◌, ◌++◌, length, map, filter, Option, Some, None}
use Rattle.rz_isa.specs.declared.item_list.Label.{Label}
use Rattle.rz_isa.specs.declared.item_list.Label.TheVariants as label
use Rattle.rz_isa.specs.declared.item_list.Item.{Item}
use Rattle.rz_isa.specs.declared.item_list.Item.TheVariants as item
use Rattle.rz_isa.specs.declared.fragment_list.Fragment.{Fragment}
use Rattle.rz_isa.specs.declared.fragment_list.Fragments.{Fragments}
use Rattle.rz_isa.specs.Nodes.{Decoder, Code}
use Rattle.rz_elf.specs.Format.{stub_size}
use Rattle.rz_elf.specs.AddedRange.{Added}
use Rattle.rz_machine.specs.Added.{sites}
use Rattle.rz_machine.specs.Kept.{Edges, targets_of}
use Rattle.rz_machine.specs.Sequence.{node_items}
use Rattle.rz_machine.specs.Tables.{table_of, table_size, placed}
use Rattle.rz_lookup.specs.Routine.{lookup_items}

-- ---- the last jump of a fragment

abbrev pub is_following : Option ℕ → Label → Bool
is_following (Some b) (label.Place a) = a == b
is_following _ _ = false

-- a jump to the fragment that follows
abbrev pub is_needless : Option ℕ → Item → Bool
is_needless following (item.Jump None to) = is_following following to
is_needless following i = false

-- without a last jump to the fragment that follows, where it isn't the only item
abbrev pub trimmed : Option ℕ → List Item → List Item
trimmed following [] = []
trimmed following (i ∷ []) = i ∷ []
trimmed following (i ∷ j ∷ []) = if is_needless following j then i ∷ [] else (i ∷ j ∷ [])
trimmed following (i ∷ j ∷ k ∷ rest) = i ∷ trimmed following (j ∷ k ∷ rest)

-- ---- all of them

abbrev pub first_node : List ℕ → Option ℕ
first_node [] = None
first_node (a ∷ rest) = Some a

-- the fragments of ascending nodes, by the items of each
abbrev pub fragment_list : (ℕ → List Item) → List ℕ → List Fragment
fragment_list items [] = []
fragment_list items (a ∷ rest) = record { at = a; items = trimmed (first_node rest) (items a) } ∷ fragment_list items rest

-- each node with the place of its stub
abbrev pub stub_pairs : ℕ → List ℕ → List (ℕ × ℕ)
stub_pairs from [] = []
stub_pairs from (a ∷ rest) = (a, from) ∷ stub_pairs (from + stub_size) rest

-- ---- tables, by the targets of each site

-- of edges in their order, where those from an address lead
abbrev pub targets_from : Edges → ℕ → List ℕ
targets_from edges a = map (λ e. e.1) (filter (λ e. e.0 == a) edges)

-- the bytes that the tables of sites take
abbrev pub tables_sum : (targets : ℕ → List ℕ) → List ℕ → ℕ
tables_sum targets [] = 0
tables_sum targets (a ∷ rest) = table_size (length (targets a)) + tables_sum targets rest

-- each site with the place of its table, one table after the other from an address on
abbrev pub table_pairs : (targets : ℕ → List ℕ) → ℕ → List ℕ → List (ℕ × ℕ)
table_pairs targets from [] = []
table_pairs targets from (a ∷ rest) = (a, from) ∷ table_pairs targets (from + table_size (length (targets a))) rest

-- the tables of sites, by the places of fragments and of stubs
abbrev pub all_tables : (targets : ℕ → List ℕ) → (place stub : ℕ → ℕ) → List ℕ → List ℕ
all_tables targets place stub [] = []
all_tables targets place stub (a ∷ rest) =
    table_of (stub a) (placed place (targets a)) ++ all_tables targets place stub rest

-- the routine stands where there is a site
abbrev pub routine_for : (scratch : ℕ) → (sites : List ℕ) → List Item
routine_for scratch [] = []
routine_for scratch (a ∷ rest) = lookup_items scratch

-- for ascending nodes and edges between them, with parts that lie so
abbrev pub fragments : Decoder → Code → Added → Edges → List ℕ → Fragments
fragments dec code parts edges nodes =
    record {
      list = fragment_list (node_items dec code parts.scratch edges) nodes;
      routine = routine_for parts.scratch (sites dec code nodes);
      tables = table_pairs (targets_of edges) parts.tables (sites dec code nodes);
      stubs = stub_pairs parts.stubs nodes;
    }
