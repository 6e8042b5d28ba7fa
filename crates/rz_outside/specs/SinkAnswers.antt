-- What a sink's answers say. What was written is None where the sink does not tell it.
use Rattle.std.specs.Prelude.{◌≡◌, ℕ, List, ◌++◌, take, Option, option_map}
use Rattle.rz_outside.specs.declared.sinks.PutErr.{PutErr}
use Rattle.rz_outside.specs.declared.sinks.PutErr.TheVariants as put
use Rattle.rz_outside.specs.Counts.{Rose}

-- what was written, after these bytes too
abbrev pub appended : Option (List ℕ) → List ℕ → Option (List ℕ)
appended written bytes = option_map (λ text. text ++ bytes) written

-- where a put may be refused
abbrev pub PutErrCause : ℕ → ℕ → PutErr → Type 0
PutErrCause before now put.Failed = Rose before now
PutErrCause before now put.OutOfMemory = now ≡ before

-- what a refused put appends: a prefix of the bytes, or nothing
abbrev pub PutErrLeaves : Option (List ℕ) → Option (List ℕ) → List ℕ → PutErr → Type 0
PutErrLeaves old new bytes put.Failed = (k : ℕ) × (new ≡ appended old (take k bytes))
PutErrLeaves old new bytes put.OutOfMemory = new ≡ old
