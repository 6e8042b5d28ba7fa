use Rattle.std.proofs.Common.{◌≡◌, ◌+◌, ◌-◌, ◌≤◌, is_none, sym, ap, ◌∙◌, arith, mod-eq_of_lt}
use Rattle.rz_image.specs.Memory.{refused, wrap, cell_at}
use Rattle.rz_image.specs.Run.{allows}
use Rattle.rz_image.specs.Laws.Run.{refused_here, refused_all, refused_run}
use Rattle.rz_image.proofs.runs.all_allow.Goals as goal

pub returns-then-count-eq0 : goal.returns-then-count-eq0
returns-then-count-eq0 c =
    let m = c.args.regions.now in
    let a = c.args.at + c.loop-done.done in
    let test = allows c.args.access in
    let low : wrap a ≡ a = mod-eq_of_lt (omega (arith, c.requires.fits)) in
    let here = refused_here test m a (c.args.len - c.loop-done.done) (omega arith) (ap (λ x. test (cell_at m x)) low ∙ c.count_at-count.ensures.1.none (c.count_at-count.ensures.2 ∙ c.if-count-eq0.true)) in
    ap is_none (sym here ∙ c.loop-done.invariant.left)

pub loop-done-preserved : goal.loop-done-preserved
loop-done-preserved c =
    let m = c.args.regions.now in
    let done = c.loop-done.done in
    let more = c.min-done.result in
    let test = allows c.args.access in
    let le : more ≤ c.args.len - done = omega arith in
    let next = refused_run c.args.access m (c.args.at + done) c.count_at-count.ensures.0 c.count_at-count.ensures.1 more (c.args.len - done) (let n = c.count_at-count.ensures.2 in omega (arith, n)) le in
    let up : c.args.at + (done + more) ≡ c.args.at + done + more = omega arith in
    let left : c.args.len - (done + more) ≡ c.args.len - done - more = omega arith in
    record {
      low = omega arith;
      left = ap (λ x. refused test m x (c.args.len - (done + more))) up ∙ ap (refused test m (c.args.at + done + more)) left ∙ next ∙ c.loop-done.invariant.left;
    }

pub returns : goal.returns
returns c =
    let m = c.args.regions.now in
    let test = allows c.args.access in
    let low = c.loop-done.invariant.low in
    let left : c.args.len - c.loop-done.done ≡ 0 = omega (arith, low, c.loop-done-test.false) in
    ap is_none (sym (refused_all test m (c.args.at + c.loop-done.done)) ∙ ap (refused test m (c.args.at + c.loop-done.done)) (sym left) ∙ c.loop-done.invariant.left)
