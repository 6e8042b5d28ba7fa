use Rattle.std.proofs.lemmas.Result.{IfOk-weaker}
use Rattle.rz_aset.specs.Sets.{has}
use Rattle.rz_paths.proofs.BodyLemmas.{body_starts}
use Rattle.rz_paths.proofs.bodies.body_of.Goals as goal

pub returns : goal.returns
returns g c =
    IfOk-weaker c.reach.result _ _
    (λ set h. body_starts (g.P.Program.code c.args.program.now) (has c.args.passing.now) c.args.classes.now c.args.start c.in_ok-first.first.items set c.in_ok-first.ensures h)
    (rw c.deref.ensures.value at c.reach.ensures)
