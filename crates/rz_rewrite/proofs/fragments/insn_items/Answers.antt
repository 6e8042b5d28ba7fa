use Rattle.std.proofs.Common.{◌+◌, ◌==◌, map, filter, sym, ap, ◌∙◌, subst}
use Rattle.std.proofs.lemmas.Bool.{cond-true}
use Rattle.std.specs.List.Sorted.{IsNonDecreasingBy}
use Rattle.rz_machine.specs.Kept.{Edges}
use Rattle.rz_machine.specs.Sequence.{site_items}
use Rattle.rz_rewrite.proofs.OkLaws.{if_ok_is}
use Rattle.rz_rewrite.proofs.TargetRange.{sources_ascend}
use Rattle.rz_rewrite.proofs.fragments.insn_items.Goals as goal

pub targets_from-requires : goal.targets_from-requires
targets_from-requires g c = subst (IsNonDecreasingBy (λ e. e.0)) (sym c.requires.edges) (sources_ascend c.args.kept.now.edges)

pub returns-in_ok-targets : goal.returns-in_ok-targets
returns-in_ok-targets g c =
    let targets = c.in_ok-targets.ensures ∙ ap (λ (l : Edges). map (λ e. e.1) (filter (λ e. e.0 == c.args.at) l)) c.requires.edges in
    if_ok_is c.site.result _ _
    (ap (λ l. site_items c.args.scratch l c.args.at (c.args.at + c.args.len) c.args.insn.now) targets ∙ sym (cond-true _ _ _ (sym c.is_site.ensures ∙ c.if-is_site.true)))
    c.site.ensures.value
