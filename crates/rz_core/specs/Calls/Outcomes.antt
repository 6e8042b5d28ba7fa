-- The outcomes of works.
use Rattle.std.specs.Prelude.{◌≡◌, ℕ, List, [], Result, Ok, Err}
use Rattle.rz_num.specs.declared.want.OutOfMemory.{OutOfMemory}
use Rattle.rz_core.specs.declared.outcome.Outcome.{Outcome}
use Rattle.rz_core.specs.declared.status.Status.{Status}
use Rattle.rz_core.specs.declared.status.Status.TheVariants as status
use Rattle.rz_core.specs.Reading.{Read}
use Rattle.rz_core.specs.Command.{Work}
use Rattle.rz_core.specs.Calls.Making.{EndRefusal}

-- a refusal of the work's own, or want of memory
abbrev pub OwnRefusal : Work → Read → Status → Type 0
OwnRefusal work r answer = EndRefusal (work.Ends r) answer

-- an outcome with this status and this text, which writes nothing
pub record IsSaid (answer : Status) (text : List ℕ) (o : Outcome) : Type 0 where
  pub status_is : o.status ≡ answer
  pub text_is : o.text ≡ text
  pub writes_are : o.writes.items ≡ []

-- done, with this text and these files
pub record IsWrote (text : List ℕ) (ws : List (List ℕ)) (o : Outcome) : Type 0 where
  pub status_is : o.status ≡ status.Ok
  pub text_is : o.text ≡ text
  pub writes_are : o.writes.items ≡ ws

abbrev pub or_memory_of : Result Outcome OutOfMemory → Result Outcome Status
or_memory_of (Ok o) = Ok o
or_memory_of (Err e) = Err status.OutOfMemory
