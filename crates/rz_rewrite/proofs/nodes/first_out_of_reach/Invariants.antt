use Rattle.std.proofs.Common.{◌≡◌, drop}
use Rattle.rz_isa.specs.Decoded.{decoded}
use Rattle.rz_elf.specs.Elf.{image_of}
use Rattle.rz_machine.specs.Nodes.{code_in}
use Rattle.rz_rewrite.specs.Reach.{first_out_of_reach}
use Rattle.rz_rewrite.proofs.nodes.first_out_of_reach.Given as goal

abbrev pub invariant-loop-at : goal.invariant-loop-at
invariant-loop-at g l =
    let find = first_out_of_reach (decoded g.T.InsnTable.rows) (code_in (image_of l.elf.bytes).loads) in
    find (drop l.at-index l.nodes) ≡ find l.nodes
