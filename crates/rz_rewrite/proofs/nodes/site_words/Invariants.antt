use Rattle.std.proofs.Common.{◌≡◌, ◌++◌, drop}
use Rattle.rz_isa.specs.Decoded.{decoded}
use Rattle.rz_elf.specs.Elf.{image_of}
use Rattle.rz_machine.specs.Nodes.{code_in}
use Rattle.rz_machine.specs.Added.{sites}
use Rattle.rz_rewrite.proofs.nodes.site_words.Given as goal

abbrev pub invariant-loop-at : goal.invariant-loop-at
invariant-loop-at g l =
    let find = sites (decoded g.T.InsnTable.rows) (code_in (image_of l.elf.bytes).loads) in
    l.words ++ find (drop l.at-index l.nodes) ≡ find l.nodes
