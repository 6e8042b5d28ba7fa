use Rattle.std.proofs.lemmas.Result.{IfOk-weaker}
use Rattle.rz_aset.specs.Sets.{has}
use Rattle.rz_paths.proofs.LevelLemmas.{or_walk}
use Rattle.rz_paths.proofs.level.with_walks.Goals as goal

pub returns : goal.returns
returns g c =
    IfOk-weaker c.union.result _ _
    (λ set h a. or_walk (has set a) (has c.args.recorded.now a) (has c.in_ok-walks.walks a) (h a) (c.in_ok-walks.ensures a))
    c.union.ensures
