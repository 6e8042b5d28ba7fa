-- The command `trace`: the trace file of what the runs on inputs used together.
use Rattle.std.specs.Prelude.{◌≡◌, ℕ, List, [], ◌∷◌, length}
use Rattle.rz_sys.specs.declared.input.Input.{Input}
use Rattle.rz_machine.specs.Kept.{Kept}
use Rattle.rz_trace.specs.Printed.{printed}
use Rattle.rz_core.specs.declared.status.Status.{Status}
use Rattle.rz_core.specs.declared.status.Status.TheVariants as status
use Rattle.rz_core.specs.Texts.{traced_text}
use Rattle.rz_core.specs.Reading.{exe_of}
use Rattle.rz_core.specs.Command.{Work}
use Rattle.rz_core.specs.Debloated.{recorded_of, AllStay, LeavesFirst}

-- how tracing ends: a run leaves the code, or none does
abbrev pub TraceEnds : ℕ → List ℕ → List Input → Status → Type 0
TraceEnds limit x inputs (status.LeftCode n address) = LeavesFirst limit x 1 inputs n address
TraceEnds limit x inputs status.Ok = AllStay limit x inputs
TraceEnds limit x inputs _ = ⊥

-- what is said of the trace file of a kept set: how many nodes and edges it has
abbrev pub trace_report : Kept → List ℕ
trace_report kept = traced_text (length kept.nodes) (length kept.edges)

abbrev pub trace_work : ℕ → Work
trace_work limit =
    record {
      Ends = λ r answer. TraceEnds limit (exe_of r) r.inputs answer;
      New = λ r ws. ws ≡ printed (recorded_of limit (exe_of r) r.inputs) ∷ [];
      Text = λ r ws text. text ≡ trace_report (recorded_of limit (exe_of r) r.inputs);
    }
