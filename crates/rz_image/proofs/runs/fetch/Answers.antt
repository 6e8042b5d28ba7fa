use Rattle.std.proofs.Common.{◌≡◌, ◌+◌, ◌-◌, ◌≤◌, ◌++◌, List, ℕ, length, take, None, ap, ap₂, sym, ◌∙◌, arith, append-nil, append_assoc}
use Rattle.std.proofs.lemmas.List.{length-take-le}
use Rattle.rz_image.specs.Memory.{fetch, code_of, cell_at}
use Rattle.rz_image.specs.Laws.Find.{regions_fit}
use Rattle.rz_image.specs.Laws.Turns.{fetch_stops, fetch_ends, code_of_none}
use Rattle.rz_image.specs.Laws.Run.{fetch_run, fetch_none, put_front}
use Rattle.rz_image.proofs.runs.fetch.Goals as goal

pub returns-in_default-clause-bytes : goal.returns-in_default-clause-bytes
returns-in_default-clause-bytes c =
    let past = c.in_default.ensures in
    fetch_stops c.args.regions.now c.args.at c.loop-n.n c.loop-n.out (regions_fit c.args.regions.now 0 c.requires) (omega (arith, past)) c.loop-n.invariant.left

pub returns-then-is_empty-clause-bytes : goal.returns-then-is_empty-clause-bytes
returns-then-is_empty-clause-bytes c =
    let m = c.args.regions.now in
    let n = c.loop-n.n in
    let at : c.in-Some.a ≡ c.args.at + n = c.in-Some.ensures.1 in
    let z : length c.run_at-run.result.now ≡ 0 = grind (arith, c.if-is_empty.ensures) in
    let e : code_of (cell_at m (c.args.at + n)) ≡ None = ap (λ a. code_of (cell_at m a)) (sym at) ∙ code_of_none (cell_at m c.in-Some.a) (c.run_at-run.ensures.none z) in
    sym (append-nil (take n c.loop-n.out)) ∙ ap (λ l. take n c.loop-n.out ++ l) (sym (fetch_ends m (c.args.at + n) (15 - n) e)) ∙ c.loop-n.invariant.left

pub loop-n-preserved : goal.loop-n-preserved
loop-n-preserved c =
    let m = c.args.regions.now in
    let n = c.loop-n.n in
    let out : List ℕ = c.loop-n.out in
    let more = c.min-more.result in
    let run : List ℕ = c.run_at-run.result.now in
    let at : c.in-Some.a ≡ c.args.at + n = c.in-Some.ensures.1 in
    let le : more ≤ 15 - n = omega arith in
    let in_run : more ≤ length run = omega arith in
    let next = fetch_run m c.in-Some.a more (15 - n) run c.run_at-run.ensures in_run le in
    let up : c.args.at + (n + more) ≡ c.in-Some.a + more = omega (arith, at) in
    let left : 15 - (n + more) ≡ 15 - n - more = omega arith in
    let copied : c.copy_from_slice.new.self ≡ take more run = c.copy_from_slice.ensures.after in
    let written = put_front n more (n + more - n) out c.copy_from_slice.new.self (let k = c.loop-n.invariant.low in omega (arith, k, c.told-out)) (ap length copied ∙ length-take-le more run in_run) (omega arith) in
    record {
      low = omega arith;
      left =
          ap₂ ◌++◌ (written ∙ ap (λ l. take n out ++ l) copied) (ap₂ (λ x y. fetch m x y) up left) ∙ append_assoc (take n out) (take more run) _
          ∙ ap (λ l. take n out ++ l) (next ∙ ap (λ a. fetch m a (15 - n)) at) ∙ c.loop-n.invariant.left;
    }

pub returns-clause-bytes : goal.returns-clause-bytes
returns-clause-bytes c =
    let m = c.args.regions.now in
    let n = c.loop-n.n in
    let left : 15 - n ≡ 0 = omega (arith, c.loop-n-test.false) in
    sym (append-nil (take n c.loop-n.out)) ∙ ap (λ l. take n c.loop-n.out ++ l) (sym (ap (fetch m (c.args.at + n)) left ∙ fetch_none m (c.args.at + n))) ∙ c.loop-n.invariant.left
