use Rattle.std.proofs.Common.{◌≡◌, ℕ, max, drop}
use Rattle.rz_isa.specs.Decoded.{decoded}
use Rattle.rz_elf.specs.Elf.{image_of}
use Rattle.rz_machine.specs.Tables.{site_steps}
use Rattle.rz_rewrite.specs.Fragments.{targets_from}
use Rattle.rz_rewrite.specs.Rewritten.{greatest, site_targets}
use Rattle.rz_rewrite.proofs.bounds.greatest_bound.Given as goal

abbrev pub invariant-loop-at : goal.invariant-loop-at
invariant-loop-at g l =
    let steps : ℕ → ℕ = λ a. site_steps (site_targets (decoded g.T.InsnTable.rows) (image_of l.elf.bytes) (targets_from l.edges) a) in
    max l.bound (greatest steps (drop l.at-index l.nodes)) ≡ greatest steps l.nodes
