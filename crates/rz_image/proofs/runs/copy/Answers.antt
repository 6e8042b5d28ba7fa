use Rattle.std.proofs.Common.{◌≡◌, ◌+◌, ◌-◌, ◌≤◌, ◌++◌, ℕ, List, length, take, ap, ap₂, sym, ◌∙◌, arith, append_assoc, append-nil}
use Rattle.rz_image.specs.declared.access.Access.TheVariants.{Read}
use Rattle.rz_image.specs.Memory.{bytes_at}
use Rattle.rz_image.specs.Laws.Turns.{bytes_turn}
use Rattle.rz_image.specs.Laws.Run.{bytes_split, bytes_run, bytes_all}
use Rattle.rz_image.proofs.runs.copy.Goals as goal

pub loop-done-preserved-then-is_empty : goal.loop-done-preserved-then-is_empty
loop-done-preserved-then-is_empty c =
    let m = c.args.regions.now in
    let done = c.loop-done.done in
    record {
      low = omega arith;
      left = ap (λ l. l ++ bytes_at m (c.args.at + (done + 1)) (c.args.len - (done + 1))) c.in_ok-push.ensures.ok ∙ bytes_turn m c.args.at c.args.len done c.loop-done.out c.byte_at.result c.loop-done-test.true c.requires.fits c.byte_at.ensures ∙ c.loop-done.invariant.left;
    }

pub loop-done-preserved : goal.loop-done-preserved
loop-done-preserved c =
    let m = c.args.regions.now in
    let done = c.loop-done.done in
    let more = c.min-more.result in
    let run : List ℕ = c.run_at-run.result.now in
    let a = c.args.at + done in
    let in_run : more ≤ length run = omega arith in
    let le : more ≤ c.args.len - done = omega arith in
    let up : c.args.at + (done + more) ≡ a + more = omega arith in
    let left : c.args.len - (done + more) ≡ c.args.len - done - more = omega arith in
    let read = bytes_run Read m a run c.run_at-run.ensures more in_run in
    record {
      low = omega arith;
      left =
          ap₂ ◌++◌ c.in_ok-push_all.ensures.ok (ap₂ (λ x y. bytes_at m x y) up left) ∙ append_assoc c.loop-done.out (take more run) _
          ∙ ap (λ l. c.loop-done.out ++ l) (ap (λ l. l ++ bytes_at m (a + more) (c.args.len - done - more)) (sym read) ∙ bytes_split m a more (c.args.len - done) le) ∙ c.loop-done.invariant.left;
    }

pub returns : goal.returns
returns c =
    let m = c.args.regions.now in
    let a = c.args.at + c.loop-done.done in
    let low = c.loop-done.invariant.low in
    let left : c.args.len - c.loop-done.done ≡ 0 = omega (arith, low, c.loop-done-test.false) in
    sym (append-nil c.loop-done.out) ∙ ap (λ l. c.loop-done.out ++ l) (sym (ap (bytes_at m a) left ∙ bytes_all m a)) ∙ c.loop-done.invariant.left
