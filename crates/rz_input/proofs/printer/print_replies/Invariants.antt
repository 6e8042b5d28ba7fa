use Rattle.std.proofs.Common.{◌≡◌, ◌++◌}
use Rattle.std.specs.Prelude.{flat_map}
use Rattle.std.specs.List.{AllByRecursion}
use Rattle.std.specs.VecDeque.Iter.{deque_iter_rest}
use Rattle.rz_input.specs.declared.entry.Entry.TheVariants as entry
use Rattle.rz_input.specs.Calls.Printing.{HasWord}
use Rattle.rz_input.specs.Printed.{ended_line}
use Rattle.rz_input.proofs.printer.print_replies.Given as goal

abbrev pub invariant-loop-reply : goal.invariant-loop-reply
invariant-loop-reply l =
    (l.text ++ flat_map (λ reply. ended_line (entry.Reply reply)) (deque_iter_rest l.reply-iterator)
    ≡ l.initial.text ++ flat_map (λ reply. ended_line (entry.Reply reply)) l.replies)
    × (AllByRecursion HasWord (deque_iter_rest l.reply-iterator) → AllByRecursion HasWord l.replies)
