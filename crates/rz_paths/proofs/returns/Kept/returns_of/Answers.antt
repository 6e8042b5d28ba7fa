use Rattle.std.proofs.Common.{◌≡◌, ℕ, List, [], ◌∷◌, nat_eq, sym, ◌∙◌}
use Rattle.std.proofs.lemmas.Result.{IfOk-weaker}
use Rattle.rz_aset.specs.Sets.{has}
use Rattle.rz_paths.specs.Laws.Booleans.{eqb_turned, or_false}
use Rattle.rz_paths.proofs.LinkLemmas.{returns_found}
use Rattle.rz_paths.proofs.returns.Kept.returns_of.Goals as goal

pub returns : goal.returns
returns g c =
    let start : List ℕ = c.add.new.set in
    let only : (a : ℕ) → has start a ≡ has (c.args.from ∷ []) a = λ a. (rw c.new-start.ensures at c.in_ok-add.ensures) a ∙ eqb_turned a c.args.from ∙ sym (or_false (nat_eq c.args.from a)) in
    IfOk-weaker c.kept_returns.result _ _
    (λ list h. returns_found (g.P.Program.code c.args.self.now.program.now) c.args.self.now.nodes.now c.args.self.now.edges.now c.requires.joined c.args.inside.now c.requires.inside c.args.from c.requires.from start c.in_ok-reached.reached list.items only c.in_ok-reached.ensures.exact h)
    (rw c.as_slice.ensures.value at c.kept_returns.ensures)
