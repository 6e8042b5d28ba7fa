-- Runs that leave the code: that come to an address where no instruction is spelled.
use Rattle.std.specs.Prelude.{◌≡◌, ℕ, Option, Some, None}
use Rattle.rz_machine.specs.declared.machine.End.{End}
use Rattle.rz_machine.specs.declared.machine.End.TheVariants as end
use Rattle.rz_machine.specs.declared.machine.Machine.{Machine}
use Rattle.rz_isa.specs.Nodes.{Decoder}
use Rattle.rz_machine.specs.State.{after}

-- the address where a run found no instruction, if it ended so
abbrev pub left_at : Option End → Option ℕ
left_at (Some (end.Fetch a)) = Some a
left_at (Some (end.Unknown a)) = Some a
left_at _ = None

-- one of the first n steps ends with Fetch or Unknown at a
abbrev pub LeavesCode : Decoder → ℕ → Machine → ℕ → Type 0
LeavesCode dec n s a = left_at (after dec n s).end ≡ Some a

-- none of the first n steps ends so
abbrev pub StaysInCode : Decoder → ℕ → Machine → Type 0
StaysInCode dec n s = left_at (after dec n s).end ≡ None
