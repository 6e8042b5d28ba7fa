-- What a put of a text leaves, and the answer.
use Rattle.std.specs.Prelude.{◌≡◌, ◌⊎◌, ℕ, take}
use Rattle.rz_outside.specs.Counts.{Rose}
use Rattle.rz_outside.specs.StoreCalls.{StoreCalls}
use Rattle.rz_outside.specs.SinkCalls.{SinkCalls}
use Rattle.rz_outside.specs.SinkAnswers.{appended}
use Rattle.rz_core.specs.declared.outcome.Outcome.{Outcome}
use Rattle.rz_core.specs.declared.status.Status.{Status}
use Rattle.rz_core.specs.declared.status.Status.TheVariants as status
use Rattle.rz_core.specs.declared.status.Target.TheVariants as target
use Rattle.rz_core.specs.Statuses.{refusal_text}
use Rattle.rz_core.specs.Command.{Command}
use Rattle.rz_core.specs.Causes.{CauseIn, FilesAfterIn, SinkAfterIn, GotText}

-- of the text of a command that is done
abbrev pub PutAfter : Outcome → SinkCalls → Status → Type 0
PutAfter done k answer =
    ((answer ≡ done.status) × (k.new ≡ appended k.old done.text))
    ⊎ (((answer ≡ status.WriteFault target.Text) × Rose k.before k.now × ((n : ℕ) × (k.new ≡ appended k.old (take n done.text))))
    ⊎ ((answer ≡ status.OutOfMemory) × (k.new ≡ k.old)))

-- of a refusal's text: the refusal stays, unless memory was wanting
abbrev pub RefusedAfter : Status → SinkCalls → Status → Type 0
RefusedAfter refused k answer =
    ((answer ≡ status.OutOfMemory) × (k.new ≡ k.old))
    ⊎ ((answer ≡ refused) × GotText k (refusal_text refused) × (refused ≡ status.OutOfMemory → k.new ≡ k.old))

-- the answer of a command has its cause, and the files and the sink are as they should be after it
pub record Runs (c : Command) (s : StoreCalls) (k : SinkCalls) (answer : Status) : Type 0 where
  pub cause : CauseIn c s k answer
  pub files : FilesAfterIn c s answer
  pub sink : SinkAfterIn c s k answer
