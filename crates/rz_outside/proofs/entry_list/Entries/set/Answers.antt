use Rattle.std.proofs.Common.{◌≡◌, List, [], ◌∷◌, ◌++◌, ℕ, Some, None, position, get_or, rules, ap, ◌∙◌}
use Rattle.rz_outside.specs.Entries.{contents_of}
use Rattle.rz_outside.proofs.Lookups.{has_name, contents_set, contents_set_other, contents_push, contents_push_other}
use Rattle.rz_outside.proofs.entry_list.Entries.set.Goals as goal

pub returns-in-Some-clause-holds : goal.returns-in-Some-clause-holds
returns-in-Some-clause-holds c = search (rules, contents_set)

pub returns-in-Some-clause-others : goal.returns-in-Some-clause-others
returns-in-Some-clause-others c =
    let found : position (has_name c.args.name.now) c.self.inside.items.items ≡ Some c.in-Some.at = search rules in
    let here : c.index_mut.result.now ≡ get_or c.self.inside.items.items c.in-Some.at c.index_mut.result.now = search rules in
    λ q other. contents_set_other c.args.name.now c.args.contents q c.self.inside.items.items c.in-Some.at c.index_mut.result.now found here other
    ∙ ap (λ (l : List (List ℕ × List ℕ)). contents_of l q) c.self.view_is

pub returns-in_ok-push-in-None-clause-holds : goal.returns-in_ok-push-in-None-clause-holds
returns-in_ok-push-in-None-clause-holds c =
    let nowhere : position (has_name c.args.name.now) c.self.inside.items.items ≡ None = search rules in
    let pushed : c.push.new.self.items ≡ c.self.inside.items.items ++ (c.args.name.now, c.args.contents) ∷ [] = c.in_ok-push-in-None.ensures.items ∙ ap (λ (key : List ℕ). c.self.inside.items.items ++ (key, c.args.contents) ∷ []) c.in_ok-key-in-None.ensures in
    ap (λ (l : List (List ℕ × List ℕ)). contents_of l c.args.name.now) pushed ∙ contents_push c.args.name.now c.args.contents c.self.inside.items.items nowhere

pub returns-in_ok-push-in-None-clause-others : goal.returns-in_ok-push-in-None-clause-others
returns-in_ok-push-in-None-clause-others c =
    let pushed : c.push.new.self.items ≡ c.self.inside.items.items ++ (c.args.name.now, c.args.contents) ∷ [] = c.in_ok-push-in-None.ensures.items ∙ ap (λ (key : List ℕ). c.self.inside.items.items ++ (key, c.args.contents) ∷ []) c.in_ok-key-in-None.ensures in
    λ q other. ap (λ (l : List (List ℕ × List ℕ)). contents_of l q) pushed ∙ contents_push_other c.args.name.now c.args.contents q c.self.inside.items.items other ∙ ap (λ (l : List (List ℕ × List ℕ)). contents_of l q) c.self.view_is
