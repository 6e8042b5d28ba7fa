use Rattle.std.proofs.Common.{◌≡◌, ◌++◌, take}
use Rattle.rz_trace.specs.Calls.Printing.{node_lines}
use Rattle.rz_trace.proofs.printer.print_nodes.Given as goal

abbrev pub invariant-loop-node : goal.invariant-loop-node
invariant-loop-node l = l.text ≡ l.initial.text ++ node_lines (take l.node-index l.nodes)
