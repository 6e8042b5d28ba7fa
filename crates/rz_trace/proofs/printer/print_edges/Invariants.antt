use Rattle.std.proofs.Common.{◌≡◌, ◌++◌, take}
use Rattle.rz_trace.specs.Calls.Printing.{edge_lines}
use Rattle.rz_trace.proofs.printer.print_edges.Given as goal

abbrev pub invariant-loop-edge : goal.invariant-loop-edge
invariant-loop-edge l = l.text ≡ l.initial.text ++ edge_lines (take l.edge-index l.edges)
