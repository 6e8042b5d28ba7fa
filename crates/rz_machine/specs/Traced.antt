-- What a trace adds to what is kept.
use Rattle.std.specs.Prelude.{ℕ}
use Rattle.rz_aset.specs.declared.kept.Record.{Record}
use Rattle.rz_isa.specs.Nodes.{Decoder}
use Rattle.rz_machine.specs.declared.machine.Machine.{Machine}
use Rattle.rz_machine.specs.Begun.{begun, neighbours}
use Rattle.rz_machine.specs.Kept.{Kept, with_nodes, with_edges}

-- what a record keeps
abbrev pub kept_in : Record → Kept
kept_in rec = record { nodes = rec.nodes; edges = rec.edges }

-- a kept set with the nodes and the edges of the first n steps
unfoldable pub with_run : Decoder → ℕ → Machine → Kept → Kept
with_run dec n s kept =
    record { nodes = with_nodes kept.nodes (begun dec n s); edges = with_edges kept.edges (neighbours (begun dec n s)) }
