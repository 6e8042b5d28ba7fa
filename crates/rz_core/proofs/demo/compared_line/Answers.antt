use Rattle.std.proofs.Common.{ap, ◌∙◌}
use Rattle.rz_gen.specs.declared.file.TheConstants.{GEN_STEPS_LIMIT}
use Rattle.rz_sys.specs.declared.input.Input.{Input}
use Rattle.rz_core.specs.Replayed.{replayed}
use Rattle.rz_core.specs.Texts.{compared_text}
use Rattle.rz_core.proofs.ReplayLaws.{verdict_is}
use Rattle.rz_core.proofs.demo.compared_line.Goals as goal

pub returns : goal.returns
returns c =
    let old = c.args.old.now in
    let new = c.args.new.now in
    let is = verdict_is old new c.requires.old c.requires.new GEN_STEPS_LIMIT c.empty-input.result c.in_ok-verdict.verdict c.in_ok-verdict.ensures.verdict in
    c.in_ok-line.ensures ∙ ap compared_text (is ∙ ap (λ (i : Input). replayed GEN_STEPS_LIMIT old.bytes new.bytes i) c.empty-input.ensures)
