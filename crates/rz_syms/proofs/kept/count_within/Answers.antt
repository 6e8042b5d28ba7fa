use Rattle.std.proofs.Common.{arith}
use Rattle.rz_syms.proofs.Counts.{count_parts}
use Rattle.rz_syms.proofs.kept.count_within.Goals as goal

pub overflow_sub-result : goal.overflow_sub-result
overflow_sub-result c =
    let hi = c.count_below.ensures in
    let lo = c.count_below-2.ensures in
    let parts = count_parts c.args.lo c.args.hi c.args.nodes.now c.requires.order in
    omega (arith, hi, lo, parts)

pub returns : goal.returns
returns c =
    let hi = c.count_below.ensures in
    let lo = c.count_below-2.ensures in
    let parts = count_parts c.args.lo c.args.hi c.args.nodes.now c.requires.order in
    omega (arith, hi, lo, parts)
