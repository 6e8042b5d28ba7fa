use Rattle.std.proofs.Common.{◌≡◌, take}
use Rattle.std.specs.Prelude.{flat_map}
use Rattle.rz_replay.specs.RunText.{call_line}
use Rattle.rz_replay.proofs.run_text.run_text.Given as goal

abbrev pub invariant-loop-event : goal.invariant-loop-event
invariant-loop-event l = l.text ≡ flat_map call_line (take l.event-index l.event-items)
