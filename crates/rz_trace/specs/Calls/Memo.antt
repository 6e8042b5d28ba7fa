-- What a memo of edges says of a kept set.
use Rattle.std.specs.Prelude.{◌≡◌, true, All}
use Rattle.rz_machine.specs.Kept.{Kept, has_node, has_edge}
use Rattle.rz_trace.specs.declared.memo.Edge.{Edge}
use Rattle.rz_trace.specs.declared.memo.Memo.{Memo}

-- the set has the edge, and the node that it leads to
abbrev pub IsKept : Kept → Edge → Type 0
IsKept kept e = (has_edge kept.edges e.from e.to ≡ true) × (has_node kept.nodes e.to ≡ true)

-- so with each edge of the memo
abbrev pub Knows : Kept → Memo → Type 0
Knows kept memo = All (IsKept kept) memo.edges.items
