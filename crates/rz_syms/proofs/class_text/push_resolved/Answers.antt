use Rattle.std.proofs.Common.{◌+◌, ◌++◌, ◌==◌, length, sym, ap, ◌∙◌, arith, length-drop}
use Rattle.std.proofs.lemmas.List.{take_rest}
use Rattle.rz_text.specs.Laws.Places.{position-some}
use Rattle.rz_syms.specs.Resolved.{resolved_lines}
use Rattle.rz_syms.proofs.ResolveLaws.{lines_turn, lines_last}
use Rattle.rz_syms.proofs.class_text.push_resolved.Goals as goal

pub loop-end-preserved : goal.loop-end-preserved
loop-end-preserved c =
    let rest = c.loop-end.rest.now in
    let end = c.in-Some.end in
    let slice = take_rest rest (end + 1) in
    ap (λ t. c.push.new.self ++ resolved_lines c.args.functions.now t) slice
    ∙ lines_turn c.args.functions.now rest end c.loop-end.out c.push_line.new.out c.push.new.self _ (sym c.in-Some.ensures.place) c.in_ok-push_line.ensures c.in_ok-push.ensures.ok c.loop-end.invariant

pub loop-end-smaller : goal.loop-end-smaller
loop-end-smaller c =
    let rest = c.loop-end.rest.now in
    let end = c.in-Some.end in
    let at = position-some (λ b. b == 10) rest end (sym c.in-Some.ensures.place) in
    let slice = ap length (take_rest rest (end + 1)) in
    let len = length-drop (end + 1) rest in
    omega (arith, at.0, at.1, slice, len)

pub returns : goal.returns
returns c =
    lines_last c.args.functions.now c.loop-end.rest.now c.loop-end.out c.push_line-2.new.out _ (sym c.in_default.ensures.place) c.in_ok-push_line-2.ensures c.loop-end.invariant
