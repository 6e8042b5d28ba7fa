use Rattle.std.proofs.Common.{◌≡◌, ℕ, ◌+◌, ◌-◌, ◌≤◌, List, length, take, drop, ◌++◌, ap, ap₂, sym, ◌∙◌, arith, rules}
use Rattle.std.proofs.lemmas.List.{with_items_is, places}
use borrow.Rule.Slice.PartMut.{Post-is}
use Rattle.rz_image.proofs.PaddedLaws.{length-padded, padded-more, padded-overwrite, padded}
use Rattle.rz_image.proofs.padded.Padded.overwrite.Goals as goal

pub overflow_add-end : goal.overflow_add-end
overflow_add-end c =
    let whole = length-padded c.self.inside.len c.self.inside.held.items c.self.invariant.0 in
    let same = ap length c.self.view_is in
    omega (arith, whole, same)

pub reach-requires-clause-inside : goal.reach-requires-clause-inside
reach-requires-clause-inside c =
    let whole = length-padded c.self.inside.len c.self.inside.held.items c.self.invariant.0 in
    let same = ap length c.self.view_is in
    omega (arith, whole, same)

pub returns : goal.returns
returns c =
    let n = c.self.inside.len in
    let bytes : List ℕ = c.args.bytes.now in
    let held : List ℕ = c.reach.new.held.items in
    let end = c.args.at + length bytes in
    let more = padded-more n _ c.self.inside.held.items held c.reach.ensures.zeros c.reach.ensures.fits in
    let now = ap₂ (λ x y. take c.args.at x ++ (y ++ drop end x)) c.deref_mut.ensures.value c.copy_from_slice.ensures.after in
    let after = Post-is c.args.at end c.deref_mut.result.now (omega arith) in
    ap (padded n) (with_items_is c.reach.new.held _ (search (rules, places))) ∙ padded-overwrite n c.args.at held bytes _ (ap (λ l. take c.args.at c.deref_mut.result.now ++ (c.copy_from_slice.new.self ++ l)) after ∙ now) c.reach.ensures.enough
    ∙ ap (λ l. take c.args.at l ++ (bytes ++ drop end l)) (more ∙ c.self.view_is)
