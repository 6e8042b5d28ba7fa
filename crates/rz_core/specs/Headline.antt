-- The headline: what holds of the written file where debloating answers Ok.
use Rattle.std.specs.Prelude.{IsTrue, List, ℕ, [], ◌∷◌, Option, Some, None}
use Rattle.std.specs.List.{AllByRecursion}
use Rattle.rz_outside.specs.StoreAnswers.{Files}
use Rattle.rz_outside.specs.StoreCalls.{StoreCalls}
use Rattle.rz_sys.specs.declared.input.Input.{Input}
use Rattle.rz_core.specs.Decoding.{decode_profile}
use Rattle.rz_classes.specs.declared.listed.Function.{Function}
use Rattle.rz_machine.specs.Kept.{Kept}
use Rattle.rz_machine.specs.Keeps.{Keeps}
use Rattle.rz_machine.specs.Recorded.{IsUncut}
use Rattle.rz_machine.specs.WrittenFile.{Inert}
use Rattle.rz_rewrite.specs.Rewritten.{HasCosts, IsPaced}
use Rattle.rz_core.specs.declared.status.Status.{Status}
use Rattle.rz_core.specs.declared.status.Status.TheVariants as status
use Rattle.rz_core.specs.declared.plan.Demand.{Demand}
use Rattle.rz_core.specs.declared.plan.Demand.TheVariants as demand
use Rattle.rz_core.specs.declared.plan.Wanted.{Wanted}
use Rattle.rz_core.specs.declared.plan.Verb.{Verb}
use Rattle.rz_core.specs.declared.plan.Verb.TheVariants as verb
use Rattle.rz_core.specs.Words.{Planned, form_of}
use Rattle.rz_elf.specs.Loaded.{elf_of}
use Rattle.rz_core.specs.Classes.{HoldsClasses, names_of}
use Rattle.rz_core.specs.Inputs.{HoldInputs}
use Rattle.rz_core.specs.Writing.{HoldEach}
use Rattle.rz_core.specs.Exact.{holds}
use Rattle.rz_core.specs.Debloated.{sources, IsKept, traced}

-- ---- the names that a command reads, by what is read there

abbrev pub executable_added : Demand → List ℕ → List (List ℕ) → List (List ℕ)
executable_added demand.Accepted name names = name ∷ names
executable_added demand.Named name names = name ∷ names
executable_added demand.Unmapped name names = name ∷ names
executable_added _ name names = names

-- of executables, in order
abbrev pub executables : List Wanted → List (List ℕ)
executables [] = []
executables (w ∷ ws) = executable_added w.demand w.name (executables ws)

abbrev pub input_added : Demand → List ℕ → List (List ℕ) → List (List ℕ)
input_added demand.Input name names = name ∷ names
input_added _ name names = names

-- of inputs, in order
abbrev pub inputs_named : List Wanted → List (List ℕ)
inputs_named [] = []
inputs_named (w ∷ ws) = input_added w.demand w.name (inputs_named ws)

abbrev pub classes_after : Demand → List ℕ → Option (List ℕ) → Option (List ℕ)
classes_after demand.ClassFile name found = Some name
classes_after _ name found = found

-- of the last class file, or else this one
abbrev pub last_classes : Option (List ℕ) → List Wanted → Option (List ℕ)
last_classes found [] = found
last_classes found (w ∷ ws) = last_classes (classes_after w.demand w.name found) ws

-- ---- the headline

-- of EXE, the class file and the inputs as they were, of what the level keeps of what their runs recorded, and of what
-- OUT holds
pub record HoldsHeadline (p : Planned) (old new : Files) : Type 0 where
  pub x : List ℕ
  pub functions : List Function
  pub inputs : List Input
  pub kept : Kept
  pub w : List ℕ
  pub exe : HoldEach old (executables p.reads) (x ∷ [])
  pub functions_are : HoldsClasses (holds old) (names_of (elf_of x)) (last_classes None p.reads) functions
  pub inputs_are : HoldInputs (holds old) (inputs_named p.reads) inputs
  pub is : IsKept p.values.level p.values.number (sources x functions inputs) kept
  pub out : HoldEach new p.writes (w ∷ [])
  -- w follows each run of x, up to the first edge that isn't kept, and stops there at its stub
  pub keeps : Keeps decode_profile x w kept
  -- each of its steps takes 1 to 64 steps of w, and at a site up to 16 more for each binary digit of its number of targets
  pub paced : IsPaced decode_profile x w kept
  -- each step up to the first end or cut that touches nothing that is added has its moment in the run of w
  pub costs : HasCosts decode_profile x w kept
  -- w is the written file of x, accepted, and loads what it should and no more
  pub inert : Inert decode_profile x w kept
  -- the traced runs themselves take no such edge before they ended or their limit came
  pub uncut : AllByRecursion (λ input. IsUncut decode_profile kept.edges (traced x input) p.values.number) inputs

-- where `debloat` was answered Ok and the store tells its files
abbrev pub HeadlineBy : Verb → Planned → StoreCalls → Status → Type 0
HeadlineBy verb.Debloat p s status.Ok = IsTrue s.told → HoldsHeadline p s.old s.new
HeadlineBy _ p s _ = Unit {0}

abbrev pub HeadlineOf : Option Planned → StoreCalls → Status → Type 0
HeadlineOf (Some p) s answer = HeadlineBy p.verb p s answer
HeadlineOf None s answer = Unit {0}

abbrev pub Headline : List (List ℕ) → StoreCalls → Status → Type 0
Headline words s answer = HeadlineOf (form_of words) s answer
