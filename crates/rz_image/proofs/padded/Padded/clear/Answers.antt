use Rattle.std.proofs.Common.{◌≡◌, ℕ, ◌+◌, ◌-◌, ◌≤◌, List, length, take, drop, replicate, ◌++◌, ap, ap₂, sym, ◌∙◌, arith, rules}
use Rattle.std.proofs.lemmas.List.{with_items_is, places}
use borrow.Rule.Slice.PartMut.{Post-is}
use Rattle.rz_image.proofs.PaddedLaws.{length-padded, padded-filled, padded-kept, padded, zero_list}
use Rattle.rz_image.proofs.padded.Padded.clear.Goals as goal

pub returns-then-from-end : goal.returns-then-from-end
returns-then-from-end c =
    let n = c.self.inside.len in
    let held : List ℕ = c.self.inside.held.items in
    let end = c.min-end.result in
    let from = c.args.from in
    let whole = length-padded n held c.self.invariant.0 in
    let same = ap length c.self.view_is in
    let zeros : c.fill.new.self ≡ zero_list (end - from) = search rules in
    let now = ap₂ (λ x y. take from x ++ (y ++ drop end x)) c.deref_mut.ensures.value zeros in
    let after = Post-is from end c.deref_mut.result.now (omega arith) in
    ap (padded n) (with_items_is c.self.inside.held _ (search (rules, places))) ∙ padded-filled n from c.args.to end held _ (ap (λ l. take from c.deref_mut.result.now ++ (c.fill.new.self ++ l)) after ∙ now) (search rules) (omega arith) (omega (arith, whole, same)) c.self.invariant.0
    ∙ ap (λ l. take from l ++ (zero_list (c.args.to - from) ++ drop c.args.to l)) c.self.view_is

pub returns-else-from-end : goal.returns-else-from-end
returns-else-from-end c =
    let n = c.self.inside.len in
    let held : List ℕ = c.self.inside.held.items in
    let whole = length-padded n held c.self.invariant.0 in
    let same = ap length c.self.view_is in
    sym c.self.view_is ∙ padded-kept n c.args.from c.args.to c.min-end.result held (search rules) (omega arith) c.requires.order (omega (arith, whole, same)) c.self.invariant.0
    ∙ ap (λ l. take c.args.from l ++ (zero_list (c.args.to - c.args.from) ++ drop c.args.to l)) c.self.view_is
