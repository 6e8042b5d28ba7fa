use Rattle.std.proofs.Common.{◌∙◌, ◌++◌, [], ◌∷◌, List, ℕ, ap}
use Rattle.std.proofs.lemmas.Result.{IfOk-weaker}
use Rattle.serde_json.specs.Written.{compact_text, has_float}
use Rattle.rz_report.proofs.JsonTexts.{pair_written}
use Rattle.rz_report.proofs.pair.pair_line.Goals as goal

pub returns : goal.returns
returns c =
    let built = c.in_ok-value.ensures in
    IfOk-weaker c.to_string.result _ _ (λ s h. ap (λ (line : List ℕ). line ++ 10 ∷ []) (h (ap has_float built) ∙ ap compact_text built) ∙ pair_written c.args.old_executable c.args.new_executable c.args.instructions c.args.old_length c.args.new_length) c.to_string.ensures.text
