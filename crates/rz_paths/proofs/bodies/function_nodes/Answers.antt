use Rattle.std.proofs.lemmas.Result.{IfOk-weaker}
use Rattle.rz_aset.specs.Sets.{has}
use Rattle.rz_paths.proofs.BodyLemmas.{functions_found, three}
use Rattle.rz_paths.proofs.bodies.function_nodes.Goals as goal

pub returns : goal.returns
returns g c =
    let all = functions_found (g.P.Program.code c.args.program.now) (has c.args.passing.now) c.args.classes.now c.args.recorded.now
    c.in_ok-walks.walks c.in_ok-bodies.bodies c.in_ok-walks.ensures c.in_ok-bodies.ensures in
    IfOk-weaker c.union-2.result _ _
    (λ set h a. three (has set a) (has c.args.recorded.now a) (has c.in_ok-most.most a) (has c.in_ok-walks.walks a) (has c.in_ok-bodies.bodies a) (h a) (c.in_ok-most.ensures a) (all a))
    c.union-2.ensures
