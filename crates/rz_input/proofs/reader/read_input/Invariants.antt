use Rattle.std.proofs.Common.{◌≡◌, length, ◌≤◌}
use Rattle.rz_sys.specs.Input.{strings}
use Rattle.rz_input.proofs.ReadLaws.{IsDraft}
use Rattle.rz_input.proofs.reader.read_input.Given as goal

abbrev pub invariant-loop-n : goal.invariant-loop-n
invariant-loop-n l =
    IsDraft l.bytes l.draft.input l.lines × (length l.bytes ≤ 16777216) × (l.draft.strings ≡ length (strings l.draft.input.args)) × (l.draft.strings ≤ 65536)

abbrev pub decreases-loop-n : goal.decreases-loop-n
decreases-loop-n l = length l.lines
