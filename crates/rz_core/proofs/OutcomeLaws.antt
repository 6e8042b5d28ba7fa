-- From what was made to the outcome of a work.
use Rattle.std.proofs.Common.{◌≡◌, ◌∙◌, ℕ, List, [], ◌∷◌, length, sym, ap, ap₂, subst}
use Rattle.std.specs.Prelude.{Result, Ok, Err, IfOk}
use Rattle.rz_num.specs.declared.want.OutOfMemory.{OutOfMemory}
use Rattle.rz_core.specs.declared.status.Status.{Status}
use Rattle.rz_core.specs.declared.status.Status.TheVariants as status
use Rattle.rz_core.specs.declared.outcome.Outcome.{Outcome}
use Rattle.rz_core.specs.declared.making.Made.{Made}
use Rattle.rz_sys.specs.declared.input.Input.{Input}
use Rattle.rz_machine.specs.Kept.{Kept}
use Rattle.rz_trace.specs.Printed.{printed}
use Rattle.rz_paths.specs.declared.level.Level.{Level}
use Rattle.rz_core.specs.Statuses.{Done, kind_of}
use Rattle.rz_core.specs.Reading.{Read, exe_of, new_file_of, input_in}
use Rattle.rz_core.specs.Command.{Work, IsDoneBy}
use Rattle.rz_core.specs.Ran.{run_work}
use Rattle.rz_core.specs.Replayed.{replay_work}
use Rattle.rz_core.specs.Recorded.{trace_report, trace_work}
use Rattle.rz_core.specs.Debloated.{AllStay, recorded_of, Sources, sources_in, IsDebloated, IsReport, DebloatEnds, debloat_work}
use Rattle.rz_core.specs.Calls.Making.{MakeRefusal, TraceRefusal}
use Rattle.rz_core.specs.Calls.Outcomes.{OwnRefusal, IsSaid, IsWrote, or_memory_of}
use Rattle.rz_core.specs.Calls.Running.{IsRan}
use Rattle.rz_core.specs.Calls.Replaying.{IsReplayed}
use Rattle.rz_core.proofs.ReplayLaws.{is_done}

-- a text is said, and nothing is written
pub said_done : (work : Work) (r : Read) (o : Outcome) (st : Status) (text : List ℕ) → IsSaid st text o → work.Ends r st → kind_of st ≡ Done → work.New r [] → work.Text r [] text → IsDoneBy work 0 r o
said_done work r o st text said ends kind new text_is = record {
  ends = subst (λ (answer : Status). work.Ends r answer) (sym said.status_is) ends;
  kind = ap (λ (answer : Status). kind_of answer) said.status_is ∙ kind;
  new = subst (λ (ws : List (List ℕ)). work.New r ws) (sym said.writes_are) new;
  many = ap (λ (ws : List (List ℕ)). length ws) said.writes_are;
  text_is = subst (λ (t : List ℕ). work.Text r o.writes.items t) (sym said.text_is) (subst (λ (ws : List (List ℕ)). work.Text r ws text) (sym said.writes_are) text_is);
}

-- files are written
pub wrote_done : (work : Work) (r : Read) (o : Outcome) (text : List ℕ) (written : List (List ℕ)) → IsWrote text written o → work.Ends r status.Ok → work.New r written → work.Text r written text
    → IsDoneBy work (length written) r o
wrote_done work r o text written wrote ends new text_is = record {
  ends = subst (λ (answer : Status). work.Ends r answer) (sym wrote.status_is) ends;
  kind = ap (λ (answer : Status). kind_of answer) wrote.status_is;
  new = subst (λ (ws : List (List ℕ)). work.New r ws) (sym wrote.writes_are) new;
  many = ap (λ (ws : List (List ℕ)). length ws) wrote.writes_are;
  text_is = subst (λ (t : List ℕ). work.Text r o.writes.items t) (sym wrote.text_is) (subst (λ (ws : List (List ℕ)). work.Text r ws text) (sym wrote.writes_are) text_is);
}

-- a new file ends debloating well
pub debloats_well : (level : Level) (limit : ℕ) (from : Sources) (w : List ℕ) → IsDebloated level limit from w → DebloatEnds level limit from status.Ok
debloats_well level limit from w new = record { stay = new.stay; kept = new.kept; is = new.is; fact = (new.reach, new.room) }

-- a run, and a comparison, of what was read
pub ran_done : (limit : ℕ) (r : Read) (x : List ℕ) (input : Input) (o : Outcome) → x ≡ exe_of r → input ≡ input_in r → IsRan limit x input o → IsDoneBy (run_work limit) 0 r o
ran_done limit r x input o exe in_is ran =
    let at = subst (λ (i : Input). IsRan limit (exe_of r) i o) in_is (subst (λ (y : List ℕ). IsRan limit y input o) exe ran) in
    record { ends = at.ends; kind = at.kind; new = at.writes_are; many = ap (λ (ws : List (List ℕ)). length ws) at.writes_are; text_is = at.text_is }

pub replayed_done : (limit : ℕ) (r : Read) (x w : List ℕ) (input : Input) (o : Outcome) → x ≡ exe_of r → w ≡ new_file_of r → input ≡ input_in r → IsReplayed limit x w input o → IsDoneBy (replay_work limit) 0 r o
replayed_done limit r x w input o exe new in_is is =
    let first = subst (λ (y : List ℕ). IsReplayed limit y w input o) exe is in
    let second = subst (λ (y : List ℕ). IsReplayed limit (exe_of r) y input o) new first in
    let at = subst (λ (i : Input). IsReplayed limit (exe_of r) (new_file_of r) i o) in_is second in
    record {
      ends = at.status_is;
      kind = is_done o.status _ at.status_is;
      new = at.writes_are;
      many = ap (λ (ws : List (List ℕ)). length ws) at.writes_are;
      text_is = at.text_is;
    }

-- a trace, and why there is none
module _ (limit : ℕ) (r : Read) (x : List ℕ) (inputs : List Input) (exe : x ≡ exe_of r) (inputs_are : inputs ≡ r.inputs) where
  pub traced_done : (m : Made) (o : Outcome) → m.bytes ≡ printed (recorded_of limit x inputs) → m.report ≡ trace_report (recorded_of limit x inputs) → AllStay limit x inputs → IsWrote m.report (m.bytes ∷ []) o
      → IsDoneBy (trace_work limit) 1 r o
  traced_done m o bytes report stay wrote =
      let same : recorded_of limit x inputs ≡ recorded_of limit (exe_of r) r.inputs = ap₂ (λ (y : List ℕ) (is : List Input). recorded_of limit y is) exe inputs_are in
      let all = subst (λ (is : List Input). AllStay limit (exe_of r) is) inputs_are (subst (λ (y : List ℕ). AllStay limit y inputs) exe stay) in
      wrote_done (trace_work limit) r o m.report (m.bytes ∷ []) wrote all (ap (λ (w : List ℕ). w ∷ []) (bytes ∙ ap (λ (k : Kept). printed k) same)) (report ∙ ap (λ (k : Kept). trace_report k) same)

  pub untraced : (st : Status) → TraceRefusal limit x inputs st → OwnRefusal (trace_work limit) r st
  untraced st h = subst (λ (is : List Input). TraceRefusal limit (exe_of r) is st) inputs_are (subst (λ (y : List ℕ). TraceRefusal limit y inputs st) exe h)

-- a new file, and why there is none
module _ (level : Level) (limit : ℕ) (r : Read) (from : Sources) (same : from ≡ sources_in r) where
  pub debloated_done : (m : Made) (o : Outcome) → IsDebloated level limit from m.bytes → IsReport level limit from m.report → IsWrote m.report (m.bytes ∷ []) o → IsDoneBy (debloat_work level limit) 1 r o
  debloated_done m o made report wrote =
      let new = subst (λ (f : Sources). IsDebloated level limit f m.bytes) same made in
      wrote_done (debloat_work level limit) r o m.report (m.bytes ∷ []) wrote (debloats_well level limit (sources_in r) m.bytes new) new
      (subst (λ (f : Sources). IsReport level limit f m.report) same report)

  pub undebloated : (st : Status) → MakeRefusal level limit from st → OwnRefusal (debloat_work level limit) r st
  undebloated st h = subst (λ (f : Sources). MakeRefusal level limit f st) same h

-- what holds whatever was read
pub or_memory_done : (work : Work) (n : ℕ) (r : Read) (made : Result Outcome OutOfMemory) (answer : Result Outcome Status) → answer ≡ or_memory_of made → IfOk made (λ o. (any : Read) → IsDoneBy work n any o) → IfOk answer (IsDoneBy work n r)
or_memory_done work n r (Ok o) answer e h = subst (λ (a : Result Outcome Status). IfOk a (IsDoneBy work n r)) (sym e) (h r)
or_memory_done work n r (Err why) answer e h = subst (λ (a : Result Outcome Status). IfOk a (IsDoneBy work n r)) (sym e) tt
