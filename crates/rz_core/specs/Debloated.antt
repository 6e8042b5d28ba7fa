-- What debloating makes of a file, its listed functions and inputs: what a level keeps, the written file, and the report.
use Rattle.std.specs.Prelude.{◌≡◌, ◌⊎◌, ℕ, suc, List, [], ◌∷◌, fold, Some, None}
use Rattle.std.specs.List.{AllByRecursion}
use Rattle.rz_aset.specs.declared.kept.Record.{Record}
use Rattle.rz_classes.specs.declared.listed.Function.{Function}
use Rattle.rz_machine.specs.declared.machine.Machine.{Machine}
use Rattle.rz_sys.specs.declared.input.Input.{Input}
use Rattle.rz_machine.specs.Kept.{Kept}
use Rattle.rz_paths.specs.declared.level.Level.{Level}
use Rattle.rz_paths.specs.Levels.{Keeps as KeepsAt}
use Rattle.rz_elf.specs.Elf.{image_of}
use Rattle.rz_core.specs.Decoding.{decode_profile, profile_program}
use Rattle.rz_machine.specs.Start.{start}
use Rattle.rz_machine.specs.Traced.{with_run}
use Rattle.rz_machine.specs.LeftCode.{LeavesCode, StaysInCode}
use Rattle.rz_machine.specs.Keeps.{Keeps}
use Rattle.rz_machine.specs.Recorded.{IsUncut}
use Rattle.rz_machine.specs.WrittenFile.{Inert}
use Rattle.rz_rewrite.specs.Refusals.{rip_reach_of, no_room_for}
use Rattle.rz_rewrite.specs.Rewritten.{HasCosts, IsPaced}
use Rattle.rz_report.specs.Report.{debloat_report_of}
use Rattle.rz_core.specs.declared.status.Status.{Status}
use Rattle.rz_core.specs.declared.status.Status.TheVariants as status
use Rattle.rz_core.specs.Reading.{Read, exe_of}
use Rattle.rz_core.specs.Command.{Work, IsOne}

-- ---- the traced runs

-- the opening state of a traced run
abbrev pub traced : List ℕ → Input → Machine
traced x input = start (image_of x) input

-- the nodes and edges of the first `limit` steps of the runs on these inputs
abbrev pub recorded_of : ℕ → List ℕ → List Input → Kept
recorded_of limit x inputs =
    fold (λ kept input. with_run decode_profile limit (traced x input) kept) (record { nodes = []; edges = [] }) inputs

-- no run leaves the code in its first `limit` steps
abbrev pub AllStay : ℕ → List ℕ → List Input → Type 0
AllStay limit x inputs = AllByRecursion (λ input. StaysInCode decode_profile limit (traced x input)) inputs

-- of the inputs from number k on, that of number n is the first whose run leaves the code, at this address
abbrev pub LeavesFirst : ℕ → List ℕ → ℕ → List Input → ℕ → ℕ → Type 0
LeavesFirst limit x k [] n address = ⊥
LeavesFirst limit x k (input ∷ inputs) n address =
    ((n ≡ k) × LeavesCode decode_profile limit (traced x input) address)
    ⊎ (StaysInCode decode_profile limit (traced x input) × LeavesFirst limit x (suc k) inputs n address)

-- ---- what a level keeps of them

-- what debloating starts from: a file, its listed functions, and inputs for it
pub record Sources : Type 0 where
  pub exe : List ℕ
  pub functions : List Function
  pub inputs : List Input

abbrev pub sources : List ℕ → List Function → List Input → Sources
sources exe functions inputs = record { exe = exe; functions = functions; inputs = inputs }

abbrev pub record_of : Kept → Record
record_of kept = record { nodes = kept.nodes; edges = kept.edges }

-- a set is what a level keeps of what the runs record in their first `limit` steps, in any order
abbrev pub IsKept : Level → ℕ → Sources → Kept → Type 0
IsKept level limit s kept =
    KeepsAt level (profile_program s.exe) s.functions (record_of (recorded_of limit s.exe s.inputs)) (record_of kept)

-- ---- what is made for it

-- w is what debloating makes of these sources
pub record IsDebloated (level : Level) (limit : ℕ) (s : Sources) (w : List ℕ) : Type 0 where
  pub stay : AllStay limit s.exe s.inputs
  pub kept : Kept
  pub is : IsKept level limit s kept
  pub reach : rip_reach_of decode_profile s.exe kept ≡ None
  pub room : no_room_for decode_profile s.exe kept ≡ None
  -- each run of w follows the file's, up to the first edge that isn't kept
  pub keeps : Keeps decode_profile s.exe w kept
  -- each step of the file's run is followed within its bound
  pub paced : IsPaced decode_profile s.exe w kept
  -- and has its moment there
  pub costs : HasCosts decode_profile s.exe w kept
  -- the traced runs take no such edge before they ended or their limit came
  pub uncut : AllByRecursion (λ input. IsUncut decode_profile kept.edges (traced s.exe input) limit) s.inputs
  pub inert : Inert decode_profile s.exe w kept

-- a text is the report of it
abbrev pub IsReport : Level → ℕ → Sources → List ℕ → Type 0
IsReport level limit s text = (kept : Kept) × IsKept level limit s kept × (text ≡ debloat_report_of decode_profile (image_of s.exe) kept)

-- no run leaves the code, and a fact holds of what is kept
pub record StayAnd (level : Level) (limit : ℕ) (s : Sources) (P : Kept → Type 0) : Type 0 where
  pub stay : AllStay limit s.exe s.inputs
  pub kept : Kept
  pub is : IsKept level limit s kept
  pub fact : P kept

-- how debloating ends: a run leaves the code; or else an operand is out of reach; or else there is no room for the added parts
abbrev pub DebloatEnds : Level → ℕ → Sources → Status → Type 0
DebloatEnds level limit s (status.LeftCode n address) = LeavesFirst limit s.exe 1 s.inputs n address
DebloatEnds level limit s (status.RipReach address) =
    StayAnd level limit s (λ kept. rip_reach_of decode_profile s.exe kept ≡ Some address)
DebloatEnds level limit s (status.NoRoom room) =
    StayAnd level limit s (λ kept. (rip_reach_of decode_profile s.exe kept ≡ None) × (no_room_for decode_profile s.exe kept ≡ Some room))
DebloatEnds level limit s status.Ok =
    StayAnd level limit s (λ kept. (rip_reach_of decode_profile s.exe kept ≡ None) × (no_room_for decode_profile s.exe kept ≡ None))
DebloatEnds level limit s _ = ⊥

-- ---- of what was read

abbrev pub sources_in : Read → Sources
sources_in r = sources (exe_of r) r.functions r.inputs

abbrev pub debloat_work : Level → ℕ → Work
debloat_work level limit =
    record {
      Ends = λ r answer. DebloatEnds level limit (sources_in r) answer;
      New = λ r ws. IsOne (IsDebloated level limit (sources_in r)) ws;
      Text = λ r ws text. IsReport level limit (sources_in r) text;
    }
