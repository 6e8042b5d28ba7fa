-- What comparing two files on an input answers.
use Rattle.std.specs.Prelude.{◌≡◌, ℕ, List, []}
use Rattle.rz_sys.specs.declared.input.Input.{Input}
use Rattle.rz_core.specs.declared.outcome.Outcome.{Outcome}
use Rattle.rz_core.specs.Texts.{verdict_text}
use Rattle.rz_core.specs.Replayed.{replayed, status_by}

pub record IsReplayed (limit : ℕ) (x w : List ℕ) (input : Input) (o : Outcome) : Type 0 where
  pub status_is : o.status ≡ status_by (replayed limit x w input)
  pub text_is : o.text ≡ verdict_text (replayed limit x w input)
  pub writes_are : o.writes.items ≡ []
