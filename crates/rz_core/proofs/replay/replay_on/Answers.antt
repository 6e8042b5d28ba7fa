use Rattle.std.proofs.Common.{◌∙◌}
use Rattle.rz_core.proofs.ReplayLaws.{is_replayed, verdict_is}
use Rattle.rz_core.proofs.replay.replay_on.Goals as goal

pub returns : goal.returns
returns c =
    let limit = c.args.limit in
    let input = c.args.input.now in
    let is = verdict_is c.args.old.now c.args.new.now c.requires.old c.requires.new limit input c.in_ok-verdict.verdict c.in_ok-verdict.ensures.verdict in
    is_replayed limit c.args.old.now.bytes c.args.new.now.bytes input c.in_ok-verdict.verdict c.status_of.result c.in_ok-bytes.bytes c.said.result is c.status_of.ensures
    (c.in_ok-bytes.ensures ∙ c.as_bytes.ensures.value ∙ c.in_ok-text.ensures) c.said.ensures
