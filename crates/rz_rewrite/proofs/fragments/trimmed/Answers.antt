use Rattle.std.proofs.Common.{sym, ap, ◌∙◌, arith}
use Rattle.rz_rewrite.specs.Fragments.{trimmed}
use Rattle.rz_rewrite.proofs.TrimmedLast.{without_last, with_last, few_items}
use Rattle.rz_rewrite.proofs.OkLaws.{if_ok_is}
use Rattle.rz_rewrite.proofs.fragments.trimmed.Goals as goal

pub returns-then-count-lt2 : goal.returns-then-count-lt2
returns-then-count-lt2 c =
    sym c.as_slice-all.ensures ∙ few_items c.args.following c.as_slice-all.result.now (omega (arith, c.if-count-lt2.true))
    ∙ ap (trimmed c.args.following) c.as_slice-all.ensures

pub returns-then-is_needless : goal.returns-then-is_needless
returns-then-is_needless c =
    if_ok_is c.from_slice.result _ _
    (without_last c.args.following _ c.as_slice-all.result.now (omega (arith, c.if-count-lt2.false)) (sym c.is_needless.ensures ∙ c.if-is_needless.true) ∙ ap (trimmed c.args.following) c.as_slice-all.ensures)
    c.from_slice.ensures

pub returns : goal.returns
returns c =
    sym c.as_slice-all.ensures ∙ with_last c.args.following _ c.as_slice-all.result.now (omega (arith, c.if-count-lt2.false)) (sym c.is_needless.ensures ∙ c.if-is_needless.false)
    ∙ ap (trimmed c.args.following) c.as_slice-all.ensures
