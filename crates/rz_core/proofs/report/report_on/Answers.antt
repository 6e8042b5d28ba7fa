use Rattle.rz_core.proofs.ResultLaws.{if_ok}
use Rattle.rz_core.proofs.ReplayLaws.{report_is}
use Rattle.rz_core.proofs.report.report_on.Goals as goal

pub returns : goal.returns
returns c =
    if_ok c.pair_report.result _ _ (λ text e. report_is c.args.old.now c.args.new.now c.requires.old c.requires.new text e) c.pair_report.ensures
