use Rattle.std.proofs.Common.{◌-◌, ◌∙◌, length, take, drop}
use Rattle.rz_elfw.proofs.Lowest.{least_turn, lowest_found}
use Rattle.rz_elfw.proofs.extent.lowest_load.Goals as goal

pub loop-load-preserved : goal.loop-load-preserved
loop-load-preserved c =
    let loads = c.args.loads.now in
    least_turn c.loop-load.least c.min-least.result (take (length loads - 1) (drop 1 loads)) c.loop-load.load-index _ c.loop-load-test.true c.min-least.ensures ∙ c.loop-load.invariant

pub returns : goal.returns
returns c bytes = lowest_found bytes c.args.loads.now _ c.loop-load.least c.loop-load.load-index c.in-len1-up.len_at_least c.loop-load-test.false c.loop-load.invariant
