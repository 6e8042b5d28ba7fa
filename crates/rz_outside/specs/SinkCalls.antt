-- A sink before and after some calls, as contracts of calls over any sink see it.
use Rattle.std.specs.Prelude.{ℕ, List, Option}
use Rattle.rz_outside.specs.declared.sinks.Sink.{Ghosts}

-- what was written, where it tells it, and its count of failures
pub record SinkCalls : Type 0 where
  pub old : Option (List ℕ)
  pub new : Option (List ℕ)
  pub before : ℕ
  pub now : ℕ

-- those of a sink, by what its trait says of it
abbrev pub sink_calls : {A : Type 0} → Ghosts A → A → A → SinkCalls
sink_calls sink old new =
    record { old = sink.written old; new = sink.written new; before = sink.faults old; now = sink.faults new }
