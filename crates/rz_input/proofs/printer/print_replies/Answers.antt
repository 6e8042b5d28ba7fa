use Rattle.rz_input.specs.declared.entry.Entry.TheVariants as entry
use Rattle.rz_input.specs.Printed.{ended_line}
use Rattle.std.proofs.lemmas.List.{nil_from_length}
use Rattle.rz_sys.specs.declared.input.Reply.{Reply}
use Rattle.rz_input.proofs.PieceLaws.{printed_more, printed_all}
use Rattle.rz_input.proofs.printer.print_replies.Goals as goal

pub loop-reply-preserved : goal.loop-reply-preserved
loop-reply-preserved c = (
  printed_more (λ (reply : Reply). ended_line (entry.Reply reply)) _ _ _ _ _ _ c.in_ok-print_reply.ensures.text c.in-Some.ensures.steps c.loop-reply.invariant.0,
  λ rest. c.loop-reply.invariant.1 (rw c.in-Some.ensures.steps (c.in_ok-print_reply.ensures.word, rest)),
)

pub returns : goal.returns
returns c =
    let none = nil_from_length _ c.in-None.ensures.steps.0 in
    record {
      text = printed_all (λ (reply : Reply). ended_line (entry.Reply reply)) _ _ _ none c.loop-reply.invariant.0;
      words = c.loop-reply.invariant.1 (rw none tt);
    }
