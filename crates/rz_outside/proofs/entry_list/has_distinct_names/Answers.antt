use Rattle.std.proofs.Common.{◌+◌, false, true, drop, rules}
use Rattle.std.proofs.lemmas.List.{take_rest}
use Rattle.rz_outside.proofs.Names.{IsListed, distinct_step, distinct_stop, distinct_end}
use Rattle.rz_outside.proofs.entry_list.has_distinct_names.Goals as goal

pub returns-then-is_listed : goal.returns-then-is_listed
returns-then-is_listed c =
    let listed : IsListed c.index-files-at.result (drop (c.loop-at.at + 1) c.args.files.now) true = search (rules, take_rest) in
    (search rules, λ h. absurd (distinct_stop c.args.files.now c.loop-at.at c.index-files-at.result c.loop-at-test.true c.index-files-at.is listed c.loop-at.invariant h))

pub loop-at-preserved : goal.loop-at-preserved
loop-at-preserved c =
    let unlisted : IsListed c.index-files-at.result (drop (c.loop-at.at + 1) c.args.files.now) false = search (rules, take_rest) in
    distinct_step c.args.files.now c.loop-at.at c.index-files-at.result c.loop-at-test.true c.index-files-at.is unlisted c.loop-at.invariant

pub returns : goal.returns
returns c = (λ _. distinct_end c.args.files.now c.loop-at.at c.loop-at-test.false c.loop-at.invariant, λ _. search rules)
