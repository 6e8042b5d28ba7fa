use Rattle.std.proofs.Common.{◌≡◌, take, sym, ◌∙◌, arith}
use Rattle.std.proofs.lemmas.List.{take_all}
use Rattle.rz_paths.specs.Laws.Passing.{start_added, start_left}
use Rattle.rz_paths.proofs.passing.live_starts.Goals as goal
use Rattle.rz_paths.proofs.passing.live_starts.Goals.{then-is_noted+in_ok-add, else-is_noted}

pub loop-i-preserved : goal.loop-i-preserved
loop-i-preserved c =
    elim c.if-is_noted.branch [
      | then-is_noted+in_ok-add w ↦
          rw w.set-is
          (start_added c.args.classes.now c.loop-i.i c.range-start.result c.class.result.now c.range-start.ensures.value c.class.ensures c.args.recorded.now
          c.loop-i.set w.add.new.set c.loop-i.invariant w.in_ok-add.ensures (sym (c.is_noted.ensures ∙ c.in_ok-live.ensures c.class.result.now) ∙ w.if-is_noted.true))
      | else-is_noted w ↦
          rw w.set-is
          (start_left c.args.classes.now c.loop-i.i c.range-start.result c.class.result.now c.range-start.ensures.value c.class.ensures c.args.recorded.now
          c.loop-i.set c.loop-i.invariant (sym (c.is_noted.ensures ∙ c.in_ok-live.ensures c.class.result.now) ∙ w.if-is_noted.false))
    ]

pub returns : goal.returns
returns c =
    let all : take c.loop-i.i c.args.classes.now ≡ c.args.classes.now = take_all _ _ (omega (arith, c.len-i-end.ensures)) in
    rw all at c.loop-i.invariant
