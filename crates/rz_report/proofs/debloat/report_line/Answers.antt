use Rattle.std.proofs.Common.{rules, ◌≡◌, ◌∙◌, ◌++◌, [], ◌∷◌, List, ℕ, ap, codes}
use Rattle.std.proofs.lemmas.Result.{IfOk-weaker}
use Rattle.serde_json.specs.Data.{string, number, unsigned, object, member, no_members}
use Rattle.serde_json.specs.View.{view}
use Rattle.serde_json.specs.Written.{compact_text, has_float}
use Rattle.rz_num.specs.Texts.{hex_text}
use Rattle.rz_report.proofs.JsonTexts.{report_written}
use Rattle.rz_report.proofs.debloat.report_line.Goals as goal

pub returns : goal.returns
returns c =
    let a = c.args in
    let built : view c.in_ok-value.value ≡ object
    (member (codes "added") (string (hex_text a.added))
    (member (codes "edges") (number (unsigned a.edges))
    (member (codes "instructions") (number (unsigned a.instructions))
    (member (codes "site_edges") (number (unsigned a.site_edges))
    (member (codes "sites") (number (unsigned a.sites)) no_members))))) = search rules in
    IfOk-weaker c.to_string.result _ _
    (λ s h. ap (λ (line : List ℕ). line ++ 10 ∷ []) (h (ap has_float built) ∙ ap compact_text built) ∙ report_written a.added a.edges a.instructions a.site_edges a.sites)
    c.to_string.ensures.text
