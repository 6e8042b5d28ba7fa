use Rattle.std.proofs.Common.{sym, ap, ◌∙◌, length, nat_lt}
use Rattle.rz_replay.proofs.VerdictLaws.{prefix_place}
use Rattle.rz_replay.proofs.compare.is_prefix.Goals as goal

pub returns : goal.returns
returns c = ap (nat_lt (length c.args.new.now)) c.requires ∙ sym (prefix_place c.args.old.now c.args.new.now)
