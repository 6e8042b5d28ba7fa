use Rattle.std.proofs.Common.{◌≡◌, ◌++◌, ◌≤◌, ◌∙◌, ℕ, drop, append-nil, ap, sym, subst, arith}
use Rattle.std.specs.Prelude.{flat_map, sum_by}
use Rattle.std.proofs.lemmas.List.Sums.{sum_by-drop_more}
use Rattle.std.proofs.lemmas.List.{drop_all}
use Rattle.rz_syms.specs.declared.function.Function.{Function}
use Rattle.rz_syms.specs.Listing.{function_text, kept_in, listing}
use Rattle.rz_syms.specs.Symbols.{AreApart}
use Rattle.rz_syms.proofs.Counts.{kept_line, apart_at, each_node_is_listed_once, lines_turn, listing_ends}
use Rattle.rz_syms.proofs.kept.lines.Goals as goal

pub loop-function-init : goal.loop-function-init
loop-function-init c =
    let fs = c.as_slice-function-items.result.now in
    let nodes = c.args.nodes.now in
    let apart = subst AreApart (sym c.as_slice-function-items.ensures) c.symbols.invariant in
    let once = each_node_is_listed_once fs nodes apart in
    record { text = ap (λ t. t ++ flat_map (kept_line nodes) fs) c.new-text.ensures; left = sym once }

pub count_within-count-requires-clause-order : goal.count_within-count-requires-clause-order
count_within-count-requires-clause-order c =
    let apart = subst AreApart (sym c.as_slice-function-items.ensures) c.symbols.invariant in
    let f = c.function-item.result in
    let at = apart_at c.as_slice-function-items.result.now c.loop-function.function-index f apart c.loop-function-test.true in
    subst (λ (g : Function). g.lo ≤ g.hi) (sym c.function-item.is) at

pub loop-function-preserved : goal.loop-function-preserved
loop-function-preserved c =
    let fs = c.as_slice-function-items.result.now in
    let nodes = c.args.nodes.now in
    let i = c.loop-function.function-index in
    let f = c.function-item.result in
    let text = c.loop-function.text in
    let count : c.count_within-count.result ≡ kept_in nodes f = c.count_within-count.ensures in
    let pushed = c.in_ok-push_function.ensures ∙ ap (λ (n : ℕ). text ++ function_text f n) count ∙ ap (λ (g : Function). text ++ kept_line nodes g) c.function-item.is in
    let parts = sum_by-drop_more (kept_in nodes) fs i f c.loop-function-test.true in
    let here = ap (kept_in nodes) c.function-item.is in
    let left = c.loop-function.invariant.left in
    record {
      text = lines_turn fs nodes i f text c.push_function.new.text (flat_map (kept_line nodes) fs) c.loop-function-test.true pushed c.loop-function.invariant.text;
      left = omega (arith, count, parts, here, left);
    }

pub returns-clause-text : goal.returns-clause-text
returns-clause-text c =
    let fs = c.as_slice-function-items.result.now in
    let nodes = c.args.nodes.now in
    let none = drop_all c.loop-function.function-index fs c.loop-function-test.false in
    let text = c.loop-function.text in
    let lined : text ≡ flat_map (kept_line nodes) fs = sym (append-nil text) ∙ ap (λ l. text ++ flat_map (kept_line nodes) l) (sym none) ∙ c.loop-function.invariant.text in
    let left = c.loop-function.invariant.left in
    let rest : sum_by (kept_in nodes) (drop c.loop-function.function-index fs) ≡ 0 = ap (sum_by (kept_in nodes)) none in
    listing_ends fs nodes c.push_outside.new.text text c.loop-function.outside lined (omega (arith, left, rest)) c.in_ok-push_outside.ensures
    ∙ ap (λ l. listing l nodes) (c.as_slice-function-items.ensures ∙ c.symbols.view_is)

pub returns-clause-apart : goal.returns-clause-apart
returns-clause-apart c = subst AreApart c.symbols.view_is c.symbols.invariant
