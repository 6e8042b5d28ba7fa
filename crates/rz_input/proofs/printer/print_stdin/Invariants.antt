use Rattle.std.proofs.Common.{◌≡◌, ◌++◌}
use Rattle.std.specs.Prelude.{flat_map}
use Rattle.std.specs.Slice.Iter.{chunks_rest, chunks_size}
use Rattle.rz_input.specs.declared.entry.Entry.TheVariants as entry
use Rattle.rz_input.specs.Printed.{ended_line, pieces}
use Rattle.rz_input.proofs.printer.print_stdin.Given as goal

abbrev pub invariant-loop-piece : goal.invariant-loop-piece
invariant-loop-piece l =
    (l.text ++ flat_map (λ piece. ended_line (entry.Stdin piece)) (pieces (chunks_rest l.piece-iterator))
    ≡ l.initial.text ++ flat_map (λ piece. ended_line (entry.Stdin piece)) (pieces l.bytes)) × (chunks_size l.piece-iterator ≡ 32)
