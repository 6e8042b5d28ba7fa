-- The lines of each kind of entry.
use Rattle.std.specs.Prelude.{ℕ, List, flat_map}
use Rattle.rz_trace.specs.declared.entry.Entry.TheVariants as entry
use Rattle.rz_trace.specs.Printed.{ended_line}

-- the lines of nodes
abbrev pub node_lines : List ℕ → List ℕ
node_lines nodes = flat_map (λ at. ended_line (entry.Node at)) nodes

-- the lines of edges
abbrev pub edge_lines : List (ℕ × ℕ) → List ℕ
edge_lines edges = flat_map (λ edge. ended_line (entry.Edge edge.0 edge.1)) edges
