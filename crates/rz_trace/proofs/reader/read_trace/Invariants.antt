use Rattle.std.proofs.Common.{length, ◌≤◌, ◌+◌}
use Rattle.rz_trace.proofs.ReadLaws.{IsDraft}
use Rattle.rz_trace.proofs.reader.read_trace.Given as goal

abbrev pub invariant-loop-n : goal.invariant-loop-n
invariant-loop-n l =
    IsDraft l.bytes l.draft.file l.draft.last l.draft.passed l.lines
    × (l.draft.passed + length l.lines ≤ 16777217)

abbrev pub decreases-loop-n : goal.decreases-loop-n
decreases-loop-n l = length l.lines
