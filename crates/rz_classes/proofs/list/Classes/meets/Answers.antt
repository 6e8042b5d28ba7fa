use Rattle.std.proofs.Common.{sym, ◌∙◌}
use Rattle.rz_classes.proofs.RangeLaws.{meets_range-none, meets_range-last, no_function, nat_cmp-less, less-nat_cmp, at_most-nat_cmp}
use Rattle.rz_classes.proofs.list.Classes.meets.Goals as goal

pub returns-in-None : goal.returns-in-None
returns-in-None c =
    let none = (c.range.ensures.in_range tt).5 c.in-None.ensures.steps.0 in
    rw (← c.self.view_is)
    (sym (meets_range-none c.self.inside.functions.items c.args.lo c.args.hi no_function
    (λ q below. sym (c.self.invariant.places q) ∙ none q (tt, nat_cmp-less q c.args.hi below))))

pub returns-in-Some : goal.returns-in-Some
returns-in-Some c =
    let entry = (c.range.ensures.in_range tt).3 _ _ c.in-Some.ensures.steps in
    let greatest = (c.range.ensures.in_range tt).4 _ _ c.in-Some.ensures.steps in
    let places = c.self.invariant.places in
    let decides = meets_range-last c.self.inside.functions.items c.args.lo c.args.hi c.in-Some.field-0-0.now c.in-Some.at.now c.index.result.now
    c.self.invariant.ranges (sym (places c.in-Some.field-0-0.now) ∙ entry.1) (less-nat_cmp _ _ entry.0.1)
    (λ q below some. at_most-nat_cmp _ q (greatest q (tt, nat_cmp-less q c.args.hi below) (rw (places q) some))) in
    rw (← c.self.view_is, c.index.ensures) decides
