use Rattle.std.proofs.Common.{sym, ◌∙◌}
use Rattle.rz_paths.specs.Calls.Noted.{is_noted}
use Rattle.rz_paths.specs.Laws.Passing.{class_noted, class_left}
use Rattle.rz_paths.proofs.passing.live_classes.Goals as goal
use Rattle.rz_paths.proofs.passing.live_classes.Goals.{then-contains+in_ok-note, else-contains}

pub loop-i-preserved : goal.loop-i-preserved
loop-i-preserved c =
    elim c.if-contains.branch [
      | then-contains+in_ok-note w ↦
          rw w.set-is
          (class_noted c.args.classes.now c.loop-i.i c.range.result c.class-class.result.now c.range.ensures.value c.class-class.ensures c.args.recorded.now
          (is_noted c.loop-i.set) (is_noted w.note.new.set) c.loop-i.invariant w.in_ok-note.ensures (sym c.contains.ensures ∙ w.if-contains.true))
      | else-contains w ↦
          rw w.set-is
          (class_left c.args.classes.now c.loop-i.i c.range.result c.class-class.result.now c.range.ensures.value c.class-class.ensures c.args.recorded.now
          (is_noted c.loop-i.set) c.loop-i.invariant (sym c.contains.ensures ∙ w.if-contains.false))
    ]
