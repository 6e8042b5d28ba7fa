use Rattle.std.proofs.Common.{◌≡◌, ◌++◌, drop}
use Rattle.rz_isa.specs.Decoded.{decoded}
use Rattle.rz_elf.specs.Elf.{image_of}
use Rattle.rz_machine.specs.Nodes.{code_in}
use Rattle.rz_machine.specs.Sequence.{node_items}
use Rattle.rz_rewrite.specs.Fragments.{fragment_list}
use Rattle.rz_rewrite.proofs.fragments.fragment_list.Given as goal

abbrev pub invariant-loop-i : goal.invariant-loop-i
invariant-loop-i g l =
    let items = node_items (decoded g.T.InsnTable.rows) (code_in (image_of l.elf.bytes).loads) l.scratch l.kept.edges in
    l.list.items ++ fragment_list items (drop l.i l.nodes) ≡ fragment_list items l.nodes
