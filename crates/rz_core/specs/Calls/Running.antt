-- What the run of a file on an input answers.
use Rattle.std.specs.Prelude.{◌≡◌, ℕ, List, [], Option, Some, None}
use Rattle.rz_sys.specs.declared.input.Input.{Input}
use Rattle.rz_core.specs.declared.outcome.Outcome.{Outcome}
use Rattle.rz_core.specs.declared.status.Status.{Status}
use Rattle.rz_core.specs.declared.status.Status.TheVariants as status
use Rattle.rz_core.specs.Statuses.{Done, kind_of}
use Rattle.rz_core.specs.Ran.{RunEnds, ran_text}

-- the status of a run that ended at the stub of this address, or at none
abbrev pub status_at : Option ℕ → Status
status_at None = status.Ok
status_at (Some source) = status.StubStop source

pub record IsRan (limit : ℕ) (x : List ℕ) (input : Input) (o : Outcome) : Type 0 where
  pub ends : RunEnds limit x input o.status
  pub kind : kind_of o.status ≡ Done
  pub text_is : o.text ≡ ran_text limit x input
  pub writes_are : o.writes.items ≡ []
