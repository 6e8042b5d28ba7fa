use Rattle.std.proofs.Common.{sym, ◌∙◌, ◌-◌, ◌≡◌, arith}
use Rattle.rz_listing.proofs.LineLaws.{line_turn, last_line, no_line}
use Rattle.rz_listing.proofs.lines.listing.Goals as goal

pub returns-in_default : goal.returns-in_default
returns-in_default g c =
    last_line _ _ c.args.count c.loop-line._line c.loop-line.at c.loop-line.text _ _ c.loop-line-test.true c.loop-line.invariant c.in_ok-next.ensures.text (sym c.in_default.is ∙ c.in_ok-next.ensures.next)

pub loop-line-preserved : goal.loop-line-preserved
loop-line-preserved g c =
    line_turn _ _ c.args.count c.loop-line._line c.loop-line.at c.in-Some.next c.loop-line.text _ _ c.loop-line-test.true c.loop-line.invariant c.in_ok-next.ensures.text (sym c.in-Some.is ∙ c.in_ok-next.ensures.next)

pub returns : goal.returns
returns g c =
    let none : c.args.count - c.loop-line._line ≡ 0 = omega arith in
    no_line _ _ c.args.count c.loop-line._line c.loop-line.at _ _ none c.loop-line.invariant
