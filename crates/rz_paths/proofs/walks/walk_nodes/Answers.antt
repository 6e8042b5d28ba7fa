use Rattle.std.proofs.Common.{◌≡◌, ◌&&◌, ℕ, sym, ◌∙◌}
use Rattle.std.specs.Prelude.{◌↔◌}
use Rattle.std.proofs.lemmas.Result.{IfOk-weaker}
use Rattle.rz_aset.specs.Sets.{has}
use Rattle.rz_paths.specs.Sets.{In, Reached, joins}
use Rattle.rz_paths.specs.Walks.{ends}
use Rattle.rz_paths.specs.Laws.Booleans.{and_left}
use Rattle.rz_paths.proofs.FlowLemmas.{reaches_to}
use Rattle.rz_paths.proofs.WalkLemmas.{marked_are_walks, walk_leads}
use Rattle.rz_paths.proofs.walks.walk_nodes.Goals as goal

pub returns : goal.returns
returns g c =
    let program = g.P.Program.code c.args.program.now in
    let passing = has c.args.passing.now in
    let recorded = c.args.recorded.now in
    let ahead = c.in_ok-ahead.ahead in
    let found : (a : ℕ) → In ahead a ↔ Reached (In c.in_ok-first.first.items) (walk_leads program passing recorded) a =
    rw c.deref.ensures.value at c.in_ok-ahead.ensures in
    let ended : (a : ℕ) → has c.in_ok-last.last a ≡ (has ahead a && ends program passing recorded a) =
    rw c.as_slice.ensures.value at c.in_ok-last.ensures in
    let linked : (a b : ℕ) → joins c.in_ok-flow.flow.edges a b ≡ (has ahead a && walk_leads program passing recorded a b) =
    rw c.as_slice-2.ensures.value at c.in_ok-flow.ensures.edges in
    let known : (s : ℕ) → In c.in_ok-last.last s → In c.in_ok-flow.flow.nodes s =
    λ s i. (rw c.as_slice-2.ensures.value at c.in_ok-flow.ensures.nodes) s (and_left _ _ (sym (ended s) ∙ i)) in
    IfOk-weaker c.reach_to.result _ _
    (λ set h a.
    let from = h a in
    let way = reaches_to c.in_ok-flow.flow c.in_ok-last.last known a in
    let to = marked_are_walks program passing recorded c.in_ok-first.first.items c.in_ok-last.last ahead c.in_ok-flow.flow.edges c.in_ok-first.ensures found ended linked a in
    (λ i. to.0 (way.0 (from.0 i)), λ w. from.1 (way.1 (to.1 w))))
    c.reach_to.ensures.exact
