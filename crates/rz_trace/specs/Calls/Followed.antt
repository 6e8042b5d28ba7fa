-- What a tracer has of a run so far.
use Rattle.std.specs.Prelude.{◌≡◌, ℕ, List, [], ◌∷◌, Option, Some, None}
use Rattle.rz_isa.specs.Nodes.{Decoder}
use Rattle.rz_machine.specs.declared.machine.Machine.{Machine}
use Rattle.rz_machine.specs.Begun.{begun}
use Rattle.rz_machine.specs.Kept.{Kept}
use Rattle.rz_machine.specs.Traced.{with_run}
use Rattle.rz_trace.specs.declared.memo.Memo.{Memo}
use Rattle.rz_trace.specs.Calls.Memo.{Knows}

-- the instruction begun last
abbrev pub last_of : List ℕ → Option ℕ
last_of [] = None
last_of (a ∷ []) = Some a
last_of (a ∷ b ∷ rest) = last_of (b ∷ rest)

-- what was kept before, with the first steps; the instruction that they began last; and a memo of what is kept
pub record Followed (dec : Decoder) (steps : ℕ) (s : Machine) (old kept : Kept) (memo : Memo) (last : Option ℕ) : Type 0 where
  pub holds : kept ≡ with_run dec steps s old
  pub before : last ≡ last_of (begun dec steps s)
  pub knows : Knows kept memo
