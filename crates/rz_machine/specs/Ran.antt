-- What a run of some steps came to.
use Rattle.std.specs.Prelude.{Option, Some, None}
use Rattle.rz_machine.specs.declared.machine.End.{End}
use Rattle.rz_machine.specs.declared.machine.Outcome.{Outcome}
use Rattle.rz_machine.specs.declared.machine.Outcome.TheVariants.{Running, Ended}

abbrev pub outcome_of : Option End → Outcome
outcome_of None = Running
outcome_of (Some why) = Ended why
