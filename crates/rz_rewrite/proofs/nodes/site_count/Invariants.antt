use Rattle.std.proofs.Common.{◌≡◌, ◌+◌, ◌≤◌, length, drop}
use Rattle.rz_isa.specs.Decoded.{decoded}
use Rattle.rz_elf.specs.Elf.{image_of}
use Rattle.rz_machine.specs.Nodes.{code_in}
use Rattle.rz_machine.specs.Added.{sites}
use Rattle.rz_rewrite.proofs.nodes.site_count.Given as goal

abbrev pub invariant-loop-at : goal.invariant-loop-at
invariant-loop-at g l =
    let find = sites (decoded g.T.InsnTable.rows) (code_in (image_of l.elf.bytes).loads) in
    record {
      value : l.count + length (find (drop l.at-index l.nodes)) ≡ length (find l.nodes);
      few : l.count ≤ l.at-index;
    }
