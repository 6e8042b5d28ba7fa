use Rattle.std.proofs.Common.{length, ◌-◌, ◌≡◌, ℕ, ◌+◌, ◌*◌, ◌<◌}
use Rattle.rz_isa.specs.declared.rows.Form.TheVariants.{Short}
use Rattle.rz_isa.specs.Plan.{form_at}
use Rattle.rz_layout.specs.Calls.Pieces.{MayBeShortAt, IsLeastForms}
use Rattle.rz_layout.proofs.Settling.{shorts}
use Rattle.rz_layout.proofs.settle.settle.Given as goal

abbrev pub invariant-loop-i : goal.invariant-loop-i
invariant-loop-i l =
    record {
      least : IsLeastForms l.pieces l.forms;
      settled : (k : ℕ) → k < l.i → form_at l.forms k ≡ Short → MayBeShortAt l.pieces l.forms k;
    }

abbrev pub decreases-loop-i : goal.decreases-loop-i
decreases-loop-i l = shorts l.forms * (length l.pieces + 1) + (length l.pieces - l.i)
