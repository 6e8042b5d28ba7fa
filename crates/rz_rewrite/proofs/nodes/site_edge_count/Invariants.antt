use Rattle.std.proofs.Common.{◌≡◌, ◌+◌, ◌≤◌, length, drop}
use Rattle.rz_isa.specs.Decoded.{decoded}
use Rattle.rz_elf.specs.Elf.{image_of}
use Rattle.rz_machine.specs.Nodes.{code_in}
use Rattle.rz_machine.specs.Added.{site_edges}
use Rattle.rz_rewrite.proofs.nodes.site_edge_count.Given as goal

abbrev pub invariant-loop-from : goal.invariant-loop-from
invariant-loop-from g l =
    let find = site_edges (decoded g.T.InsnTable.rows) (code_in (image_of l.elf.bytes).loads) in
    record {
      value : l.count + length (find (drop l.from-index l.edges)) ≡ length (find l.edges);
      few : l.count ≤ l.from-index;
    }
