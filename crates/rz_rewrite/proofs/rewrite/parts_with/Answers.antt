use Rattle.std.proofs.Common.{ℕ, ◌-◌, List, ◌++◌, length, replicate, ap, ◌∙◌, arith}
use Rattle.rz_image.specs.Memory.{zeros}
use Rattle.rz_elf.specs.Format.{int3}
use Rattle.rz_rewrite.proofs.Parts.{length-all_stubs}
use Rattle.rz_rewrite.proofs.rewrite.parts_with.Goals as goal

pub filled-requires-2 : goal.filled-requires-2
filled-requires-2 c =
    let same = ap length (c.in_ok-stubs.ensures c.args.range.now.stubs) in
    let n = length-all_stubs c.args.range.now.stubs c.args.nodes.now in
    omega (arith, same, n, c.requires.stubs)

pub returns-clause-tables : goal.returns-clause-tables
unfolding zeros
returns-clause-tables c = c.in_ok-tables.ensures

pub returns-clause-stubs : goal.returns-clause-stubs
returns-clause-stubs c =
    let n = c.args.range.now.stop - c.args.range.now.stubs in
    c.in_ok-stubs-2.ensures ∙ ap (λ (l : List ℕ). l ++ replicate (n - length l) int3) (c.in_ok-stubs.ensures c.args.range.now.stubs)
