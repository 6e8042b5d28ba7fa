use Rattle.rz_rewrite.proofs.TargetRange.{nothing_beside, first_is_beside}
use Rattle.rz_rewrite.proofs.ranges.place_beside.Goals as goal

pub returns-in-empty : goal.returns-in-empty
returns-in-empty c = nothing_beside c.args.pairs.now c.pairs_from.result.now c.args.at c.pairs_from.ensures c.in-empty.len_below

pub returns-in-len1-up : goal.returns-in-len1-up
returns-in-len1-up c = first_is_beside c.args.pairs.now c.pairs_from.result.now c.args.at c.pairs_from.ensures c.in-len1-up.len_at_least
