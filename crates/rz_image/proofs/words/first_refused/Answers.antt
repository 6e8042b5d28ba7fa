use Rattle.std.proofs.Common.{◌≡◌, ◌+◌, ◌-◌, ◌<◌, length, sym, ap, ◌∙◌, arith}
use Rattle.rz_image.specs.Memory.{refused, wrap, cell_at}
use Rattle.rz_image.specs.Run.{allows}
use Rattle.rz_image.specs.Laws.Run.{refused_here, refused_all, refused_next}
use Rattle.rz_image.proofs.words.first_refused.Goals as goal

pub returns-then-is_empty : goal.returns-then-is_empty
returns-then-is_empty c =
    let m = c.args.regions.now in
    let test = allows c.args.access in
    let z : length c.run_at.result.now ≡ 0 = grind (arith, c.if-is_empty.ensures) in
    sym (refused_here test m (c.args.at + c.loop-k.k) (c.args.len - c.loop-k.k) (omega arith) (c.run_at.ensures.none z)) ∙ c.loop-k.invariant

pub loop-k-preserved : goal.loop-k-preserved
loop-k-preserved c =
    let m = c.args.regions.now in
    let run = c.run_at.result.now in
    let a = wrap (c.args.at + c.loop-k.k) in
    let some : 0 < length run = grind (arith, c.if-is_empty.ensures) in
    let z : a + 0 ≡ a = omega arith in
    refused_next (allows c.args.access) m c.args.at c.loop-k.k c.args.len c.loop-k-test.true (ap (λ x. allows c.args.access (cell_at m x)) (sym z) ∙ c.run_at.ensures.allowed 0 some) ∙ c.loop-k.invariant

pub returns : goal.returns
returns c =
    let m = c.args.regions.now in
    let test = allows c.args.access in
    let a = c.args.at + c.loop-k.k in
    let left : c.args.len - c.loop-k.k ≡ 0 = omega (arith, c.loop-k-test.false) in
    sym (refused_all test m a) ∙ ap (refused test m a) (sym left) ∙ c.loop-k.invariant
