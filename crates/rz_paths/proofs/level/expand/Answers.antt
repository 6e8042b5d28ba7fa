use Rattle.std.proofs.lemmas.Result.{IfOk-weaker}
use Rattle.rz_elf.specs.Elf.{image_of}
use Rattle.rz_aset.specs.Sets.{has}
use Rattle.rz_paths.specs.Program.{program_of}
use Rattle.rz_paths.specs.Laws.Plausible.{plausible_kept, stands_sound}
use Rattle.rz_paths.specs.Laws.Growing.{keeps_same, levels_grow, recorded_within}
use Rattle.rz_paths.proofs.level.expand.Goals as goal

pub expand_in-requires : goal.expand_in-requires
expand_in-requires g c = rw c.in_ok-program.ensures (stands_sound _ _ _ c.requires.stands)

pub returns-clause-exact : goal.returns-clause-exact
returns-clause-exact g c =
    IfOk-weaker c.expand_in.result _ _
    (λ kept k. keeps_same c.args.level (program_of g.T.InsnTable.rows c.args.elf.now.bytes) c.args.classes.now c.args.rec.now kept (has c.in_ok-passing.passing) c.in_ok-passing.ensures k)
    (rw c.in_ok-program.ensures at c.expand_in.ensures)

pub returns-clause-recorded : goal.returns-clause-recorded
returns-clause-recorded g c =
    IfOk-weaker c.expand_in.result _ _
    (λ kept k. recorded_within c.args.level (program_of g.T.InsnTable.rows c.args.elf.now.bytes) c.args.classes.now c.args.rec.now kept
    (keeps_same c.args.level (program_of g.T.InsnTable.rows c.args.elf.now.bytes) c.args.classes.now c.args.rec.now kept (has c.in_ok-passing.passing) c.in_ok-passing.ensures k))
    (rw c.in_ok-program.ensures at c.expand_in.ensures)

pub returns-clause-grows : goal.returns-clause-grows
returns-clause-grows g c =
    IfOk-weaker c.expand_in.result _ _
    (λ kept k few f. levels_grow c.args.level (program_of g.T.InsnTable.rows c.args.elf.now.bytes) c.args.classes.now c.args.rec.now few kept f
    (keeps_same c.args.level (program_of g.T.InsnTable.rows c.args.elf.now.bytes) c.args.classes.now c.args.rec.now kept (has c.in_ok-passing.passing) c.in_ok-passing.ensures k))
    (rw c.in_ok-program.ensures at c.expand_in.ensures)

pub returns-clause-plausible : goal.returns-clause-plausible
returns-clause-plausible g c =
    IfOk-weaker c.expand_in.result _ _
    (λ kept k. plausible_kept c.args.level g.T.InsnTable.rows c.args.elf.now.bytes (has c.in_ok-passing.passing) c.args.classes.now (image_of c.args.elf.now.bytes).entry c.args.rec.now kept c.requires k)
    (rw c.in_ok-program.ensures at c.expand_in.ensures)
