-- When the tool gives which answer, and what the files and the sink hold after it.
use Rattle.std.specs.Prelude.{◌≡◌, ◌⊎◌, ℕ, List, take, Option, Some, None}
use Rattle.rz_outside.specs.Counts.{Rose}
use Rattle.rz_outside.specs.StoreAnswers.{SameFiles}
use Rattle.rz_outside.specs.StoreCalls.{StoreCalls, Held}
use Rattle.rz_outside.specs.SinkCalls.{SinkCalls}
use Rattle.rz_outside.specs.SinkAnswers.{appended}
use Rattle.rz_core.specs.declared.status.Status.{Status}
use Rattle.rz_core.specs.declared.status.Status.TheVariants as status
use Rattle.rz_core.specs.declared.outcome.Outcome.{Outcome}
use Rattle.rz_core.specs.Statuses.{Kind, Done, TextLost, FileLost, NoMemory, Refused, kind_of, refusal_text}
use Rattle.rz_core.specs.Reading.{Read, nothing, AreTaken, Course}
use Rattle.rz_core.specs.Writing.{OthersStay, AreWritten, WrittenUpToFailed, WrittenInPart, WriteFails}
use Rattle.rz_core.specs.Command.{Command, IsOutcome}
use Rattle.rz_core.specs.Words.{Planned, form_of}
use Rattle.rz_core.specs.Commands.{command_of}

-- ---- causes

-- the refusals that may come after the reads, by their kind
abbrev pub LastRefusalOf : Kind → Command → StoreCalls → Read → Status → Type 0
LastRefusalOf Done c s r answer = ⊥
LastRefusalOf TextLost c s r answer = ⊥
LastRefusalOf FileLost c s r answer = WriteFails c.writes s × ((o : Outcome) × IsOutcome c r o)
LastRefusalOf NoMemory c s r answer = Unit {0}
LastRefusalOf Refused c s r answer = c.work.Ends r answer

abbrev pub LastRefusal : Command → StoreCalls → Read → Status → Type 0
LastRefusal c s r answer = LastRefusalOf (kind_of answer) c s r answer

-- what was read gives this outcome, and its files are whole
abbrev pub IsDone : Command → StoreCalls → Read → Outcome → Type 0
IsDone c s r o = IsOutcome c r o × AreWritten s c.writes o.writes.items

-- the answers that may come after the reads
abbrev pub LastAnswerOf : Kind → Command → StoreCalls → SinkCalls → Read → Status → Type 0
LastAnswerOf Done c s k r answer = (o : Outcome) × (o.status ≡ answer) × IsDone c s r o
LastAnswerOf TextLost c s k r answer = Rose k.before k.now × ((o : Outcome) × IsDone c s r o)
LastAnswerOf FileLost c s k r answer = LastRefusalOf FileLost c s r answer
LastAnswerOf NoMemory c s k r answer = Unit {0}
LastAnswerOf Refused c s k r answer = c.work.Ends r answer

abbrev pub LastAnswer : Command → StoreCalls → SinkCalls → Read → Status → Type 0
LastAnswer c s k r answer = LastAnswerOf (kind_of answer) c s k r answer

-- when a command gives which answer: that of the first file that is refused, and else that of its end
abbrev pub CauseIn : Command → StoreCalls → SinkCalls → Status → Type 0
CauseIn c s k answer = Course c.reads nothing s (LastAnswer c s k) answer

-- words that are no form are refused as such, and no others
abbrev pub CauseOf : Option Planned → StoreCalls → SinkCalls → Status → Type 0
CauseOf (Some p) s k answer = CauseIn (command_of p) s k answer
CauseOf None s k status.Usage = Unit {0}
CauseOf None s k status.OutOfMemory = Unit {0}
CauseOf None s k _ = ⊥

abbrev pub HasCause : List (List ℕ) → StoreCalls → SinkCalls → Status → Type 0
HasCause words s k answer = CauseOf (form_of words) s k answer

-- ---- files

-- the files that it reads give this outcome
abbrev pub Gives : Command → StoreCalls → Outcome → Type 0
Gives c s o = (r : Read) × AreTaken (Held s) c.reads nothing r × IsOutcome c r o

abbrev pub GivesAnd : Command → StoreCalls → (List (List ℕ) → Type 0) → Type 0
GivesAnd c s P = (o : Outcome) × Gives c s o × P o.writes.items

-- they give this outcome, and its files are whole
abbrev pub Makes : Command → StoreCalls → Outcome → Type 0
Makes c s o = Gives c s o × AreWritten s c.writes o.writes.items

-- what the files hold after an answer: the written ones alone change, and in order; before the first write none changes
abbrev pub FilesAfterOf : Kind → Command → StoreCalls → Type 0
FilesAfterOf Done c s = OthersStay c.writes s × GivesAnd c s (AreWritten s c.writes)
FilesAfterOf TextLost c s = OthersStay c.writes s × GivesAnd c s (AreWritten s c.writes)
FilesAfterOf FileLost c s = OthersStay c.writes s × GivesAnd c s (WrittenUpToFailed s c.writes)
FilesAfterOf NoMemory c s = SameFiles s.old s.new ⊎ (OthersStay c.writes s × GivesAnd c s (WrittenInPart s c.writes))
FilesAfterOf Refused c s = SameFiles s.old s.new

abbrev pub FilesAfterIn : Command → StoreCalls → Status → Type 0
FilesAfterIn c s answer = FilesAfterOf (kind_of answer) c s

abbrev pub FilesAfterForm : Option Planned → StoreCalls → Status → Type 0
FilesAfterForm (Some p) s answer = FilesAfterIn (command_of p) s answer
FilesAfterForm None s answer = SameFiles s.old s.new

abbrev pub FilesAfter : List (List ℕ) → StoreCalls → Status → Type 0
FilesAfter words s answer = FilesAfterForm (form_of words) s answer

-- ---- the sink

-- what the sink got at a refusal: all of its text, or a prefix of it where its count rose; nothing for want of memory
abbrev pub GotText : SinkCalls → List ℕ → Type 0
GotText k text = (k.new ≡ appended k.old text) ⊎ (Rose k.before k.now × ((n : ℕ) × (k.new ≡ appended k.old (take n text))))

abbrev pub GotRefusal : SinkCalls → Status → Type 0
GotRefusal k status.OutOfMemory = k.new ≡ k.old
GotRefusal k answer = GotText k (refusal_text answer)

-- what the sink got at an answer, behind what it held: the text of the outcome whose files were written, and where that
-- failed a prefix of it
abbrev pub SinkAfterOf : Kind → Command → StoreCalls → SinkCalls → Status → Type 0
SinkAfterOf Done c s k answer = (o : Outcome) × (o.status ≡ answer) × Makes c s o × (k.new ≡ appended k.old o.text)
SinkAfterOf TextLost c s k answer = (o : Outcome) × Makes c s o × ((n : ℕ) × (k.new ≡ appended k.old (take n o.text)))
SinkAfterOf FileLost c s k answer = GotRefusal k answer
SinkAfterOf NoMemory c s k answer = GotRefusal k answer
SinkAfterOf Refused c s k answer = GotRefusal k answer

abbrev pub SinkAfterIn : Command → StoreCalls → SinkCalls → Status → Type 0
SinkAfterIn c s k answer = SinkAfterOf (kind_of answer) c s k answer

abbrev pub SinkAfterForm : Option Planned → StoreCalls → SinkCalls → Status → Type 0
SinkAfterForm (Some p) s k answer = SinkAfterIn (command_of p) s k answer
SinkAfterForm None s k answer = GotRefusal k answer

abbrev pub SinkAfter : List (List ℕ) → StoreCalls → SinkCalls → Status → Type 0
SinkAfter words s k answer = SinkAfterForm (form_of words) s k answer
