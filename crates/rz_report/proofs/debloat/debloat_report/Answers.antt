use Rattle.std.proofs.Common.{ℕ, List, [], ◌∷◌, ◌++◌, length, ap, ◌∙◌}
use Rattle.std.proofs.lemmas.Result.{IfOk-weaker}
use Rattle.rz_isa.specs.Decoded.{decoded}
use Rattle.rz_elf.specs.AddedRange.{tables_size, code_size, stubs_size, parts_below}
use Rattle.rz_machine.specs.Kept.{Kept}
use Rattle.rz_machine.specs.Traced.{kept_in}
use Rattle.rz_rewrite.specs.Calls.Plan.{range_of}
use Rattle.rz_report.proofs.DebloatLaws.{counted}
use Rattle.rz_report.proofs.debloat.debloat_report.Goals as goal

pub returns : goal.returns
returns g c =
    let kept : Kept = kept_in c.args.kept.now in
    let nodes = c.as_slice-nodes.result.now in
    let edges = c.as_slice-edges.result.now in
    let nodes_are = c.as_slice-nodes.ensures.value ∙ c.in_ok-words.ensures.value in
    let edges_are = c.as_slice-edges.ensures ∙ c.in_ok-pairs.ensures.value in
    let j = c.site_count-sites.result in
    let e = c.site_edge_count-site_edges.result in
    let range = c.in-Ok.ensures.range ∙ ap (λ x. parts_below (tables_size j e) (code_size (length nodes) j e) (stubs_size (length nodes)) x.floor) c.extent_of.ensures in
    let text = counted (decoded g.T.InsnTable.rows) c.args.elf.now.bytes kept nodes edges nodes_are edges_are j e c.site_count-sites.ensures c.site_edge_count-site_edges.ensures (range_of c.in-Ok.range) range in
    IfOk-weaker c.with_line_end.result _ _ (λ bytes h. h ∙ ap (λ (line : List ℕ). line ++ 10 ∷ []) c.deref.ensures ∙ c.in_ok-text.ensures ∙ text) c.with_line_end.ensures
