-- What is made of a file and inputs, and when it is refused.
use Rattle.std.specs.Prelude.{◌≡◌, ℕ, List}
use Rattle.rz_sys.specs.declared.input.Input.{Input}
use Rattle.rz_rewrite.specs.declared.refusal.Refusal.{Refusal}
use Rattle.rz_rewrite.specs.declared.refusal.Refusal.TheVariants as refusal
use Rattle.rz_core.specs.declared.status.Status.{Status}
use Rattle.rz_core.specs.declared.status.Status.TheVariants as status
use Rattle.rz_core.specs.Statuses.{Kind, Done, TextLost, FileLost, NoMemory, Refused, kind_of}
use Rattle.rz_aset.specs.declared.kept.Record.{Record}
use Rattle.rz_classes.specs.declared.listed.Function.{Function}
use Rattle.rz_syms.specs.declared.function.Function.{Function as Named}
use Rattle.rz_syms.specs.Listing.{listing}
use Rattle.rz_paths.specs.Levels.{Keeps as KeepsAt}
use Rattle.rz_core.specs.Decoding.{decode_profile, profile_program}
use Rattle.rz_machine.specs.LeftCode.{LeavesCode}
use Rattle.rz_paths.specs.declared.level.Level.{Level}
use Rattle.rz_core.specs.Debloated.{Sources, DebloatEnds, LeavesFirst, traced}
use Rattle.rz_core.specs.Recorded.{TraceEnds}

-- a refusal that ends a work, or want of memory
abbrev pub EndRefusalOf : Kind → (Status → Type 0) → Status → Type 0
EndRefusalOf Done End answer = ⊥
EndRefusalOf TextLost End answer = ⊥
EndRefusalOf FileLost End answer = ⊥
EndRefusalOf NoMemory End answer = Unit {0}
EndRefusalOf Refused End answer = End answer

abbrev pub EndRefusal : (Status → Type 0) → Status → Type 0
EndRefusal End answer = EndRefusalOf (kind_of answer) End answer

-- the answer to a file that can't be rewritten
abbrev pub status_of : Refusal → Status
status_of (refusal.RipReach address) = status.RipReach address
status_of (refusal.NoRoom room) = status.NoRoom room
status_of refusal.OutOfMemory = status.OutOfMemory

-- why nothing was made: a run left the code, or an operand is out of reach, or there is no room for the parts, or no memory
abbrev pub MakeRefusal : Level → ℕ → Sources → Status → Type 0
MakeRefusal level limit s answer = EndRefusal (DebloatEnds level limit s) answer

-- why the run on the input of this number wasn't recorded whole: it left the code, or there was no memory
abbrev pub RunRefusal : ℕ → ℕ → List ℕ → Input → Status → Type 0
RunRefusal number limit x input (status.LeftCode n address) = (n ≡ number) × LeavesCode decode_profile limit (traced x input) address
RunRefusal number limit x input status.OutOfMemory = Unit {0}
RunRefusal number limit x input _ = ⊥

-- why the runs on these inputs weren't all recorded: one left the code, or there was no memory
abbrev pub RunsRefusal : ℕ → List ℕ → List Input → Status → Type 0
RunsRefusal limit x inputs (status.LeftCode n address) = LeavesFirst limit x 1 inputs n address
RunsRefusal limit x inputs status.OutOfMemory = Unit {0}
RunsRefusal limit x inputs _ = ⊥

-- a text is the listing of functions by what a level keeps of what runs of x recorded
abbrev pub IsListed : Level → List ℕ → List Function → Record → List Named → List ℕ → Type 0
IsListed level x functions recorded names text =
    (kept : Record) × KeepsAt level (profile_program x) functions recorded kept × (text ≡ listing names kept.nodes)

-- why no trace was made
abbrev pub TraceRefusal : ℕ → List ℕ → List Input → Status → Type 0
TraceRefusal limit x inputs answer = EndRefusal (TraceEnds limit x inputs) answer
