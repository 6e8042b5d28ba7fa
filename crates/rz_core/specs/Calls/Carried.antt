-- What a command leaves and answers before anything is put.
use Rattle.std.specs.Prelude.{Result, Ok, Err}
use Rattle.rz_outside.specs.StoreCalls.{StoreCalls}
use Rattle.rz_core.specs.declared.status.Status.{Status}
use Rattle.rz_core.specs.declared.outcome.Outcome.{Outcome}
use Rattle.rz_core.specs.Reading.{nothing, Course}
use Rattle.rz_core.specs.Writing.{OthersStay, AreWritten}
use Rattle.rz_core.specs.Command.{Command}
use Rattle.rz_core.specs.Causes.{LastRefusal, FilesAfterIn, Gives}

-- a command is refused
abbrev pub IsRefusal : Command → StoreCalls → Status → Type 0
IsRefusal c s answer = Course c.reads nothing s (LastRefusal c s) answer

-- a command is done, up to its text
pub record IsCarried (c : Command) (s : StoreCalls) (o : Outcome) : Type 0 where
  pub others : OthersStay c.writes s
  pub gives : Gives c s o
  pub written : AreWritten s c.writes o.writes.items

-- or refused
abbrev pub IsCarriedOut : Command → StoreCalls → Result Outcome Status → Type 0
IsCarriedOut c s (Ok o) = IsCarried c s o
IsCarriedOut c s (Err answer) = FilesAfterIn c s answer × IsRefusal c s answer
