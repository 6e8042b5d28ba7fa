-- The outcome that writes a labelled file.
use Rattle.std.specs.Prelude.{ℕ, List, [], ◌∷◌, length}
use Rattle.rz_core.specs.declared.outcome.Outcome.{Outcome}
use Rattle.rz_core.specs.Texts.{labelled_text}
use Rattle.rz_core.specs.Labelled.{IsLabelled}
use Rattle.rz_core.specs.Calls.Outcomes.{IsWrote}

-- that of x is written
abbrev pub IsLabelWritten : List ℕ → Outcome → Type 0
IsLabelWritten x o = (w : List ℕ) × IsLabelled x w × IsWrote (labelled_text (length w)) (w ∷ []) o
