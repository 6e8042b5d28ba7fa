-- Which answer comes where the files are told and nothing outside fails, want of memory aside.
use Rattle.std.specs.Prelude.{◌≡◌, ◌⊎◌, ℕ, IsTrue, List, [], ◌∷◌, Option, Some, None, Err}
use Rattle.rz_outside.specs.Counts.{Rose}
use Rattle.rz_outside.specs.StoreAnswers.{Files}
use Rattle.rz_outside.specs.StoreCalls.{StoreCalls}
use Rattle.rz_outside.specs.SinkCalls.{SinkCalls}
use Rattle.rz_core.specs.declared.status.Status.{Status}
use Rattle.rz_core.specs.declared.status.Status.TheVariants as status
use Rattle.rz_core.specs.declared.plan.Wanted.{Wanted}
use Rattle.rz_core.specs.Reading.{Read, nothing, taken, IsTaken}
use Rattle.rz_core.specs.Command.{Command}
use Rattle.rz_core.specs.Words.{Planned, form_of}
use Rattle.rz_core.specs.Commands.{command_of}

-- the store tells its files, and neither count rose
pub record IsQuiet (s : StoreCalls) (k : SinkCalls) : Type 0 where
  pub told : IsTrue s.told
  pub store : Rose s.before s.now → ⊥
  pub sink : Rose k.before k.now → ⊥

-- this answer, or want of memory
abbrev pub Gives : Status → Status → Type 0
Gives wanted answer = (answer ≡ wanted) ⊎ (answer ≡ status.OutOfMemory)

-- a name holds these bytes
abbrev pub holds : Files → List ℕ → List ℕ → Type 0
holds files name x = files name ≡ Some x

-- the answer of one file that is read: where it isn't there, and where it is refused
pub record IsAnswered (files : Files) (w : Wanted) (r : Read) (answer : Status) : Type 0 where
  pub missing : files w.name ≡ None → Gives (status.ReadFault w.name) answer
  pub refused : (x : List ℕ) (st : Status) → holds files w.name x → taken w r x ≡ Err st → Gives st answer

-- the answer is that of the first of these files that is refused, and where all were read, as `End` says
abbrev pub IsInOrder : List Wanted → Read → Files → (Read → Type 0) → Status → Type 0
IsInOrder [] r files End answer = End r
IsInOrder (w ∷ ws) r files End answer =
    IsAnswered files w r answer × ((next : Read) → IsTaken (holds files) w r next → IsInOrder ws next files End answer)

-- a command ends as what was read says
abbrev pub EndsExactly : Command → Status → Read → Type 0
EndsExactly c answer r = (st : Status) → c.work.Ends r st → Gives st answer

-- the answer of a command
abbrev pub IsExactIn : Command → Files → Status → Type 0
IsExactIn c files answer = IsInOrder c.reads nothing files (EndsExactly c answer) answer

-- where nothing outside fails the answer is exact; words that are no form are refused in any case
abbrev pub IsExactOf : Option Planned → StoreCalls → SinkCalls → Status → Type 0
IsExactOf (Some p) s k answer = IsQuiet s k → IsExactIn (command_of p) s.old answer
IsExactOf None s k answer = Gives status.Usage answer

abbrev pub IsExact : List (List ℕ) → StoreCalls → SinkCalls → Status → Type 0
IsExact words s k answer = IsExactOf (form_of words) s k answer
