use Rattle.std.proofs.Common.{List, ℕ, ◌∙◌, ap}
use Rattle.rz_input.specs.declared.entry.Entry.TheVariants as entry
use Rattle.rz_input.specs.Printed.{ended_line, pieces}
use Rattle.std.proofs.lemmas.List.{nil_from_length}
use Rattle.rz_input.proofs.PieceLaws.{pieces-front, pieces-nil, printed_more, printed_all}
use Rattle.rz_input.proofs.printer.print_stdin.Goals as goal

pub loop-piece-preserved : goal.loop-piece-preserved
loop-piece-preserved c =
    let step = c.in-Some.ensures.steps in
    let len = rw c.loop-piece.invariant.1 at step.1.1 in
    let front = pieces-front _ c.in-Some.piece.now _ step.1.0 len step.1.2 in (
      printed_more (λ (piece : List ℕ). ended_line (entry.Stdin piece)) _ _ _ _ _ _ c.in_ok-print_piece.ensures front c.loop-piece.invariant.0,
      step.0 ∙ c.loop-piece.invariant.1,
    )

pub returns : goal.returns
returns c =
    let none = ap pieces (nil_from_length _ c.in-None.ensures.steps.1.0) ∙ pieces-nil in
    printed_all (λ (piece : List ℕ). ended_line (entry.Stdin piece)) _ _ _ none c.loop-piece.invariant.0
