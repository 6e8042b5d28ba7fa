-- What holds of a set that a run was added to.
use Rattle.std.specs.Prelude.{◌≡◌, ℕ, ◌-◌, ◌≤◌, Some}
use Rattle.rz_machine.specs.declared.machine.End.{End}
use Rattle.rz_machine.specs.declared.machine.Machine.{Machine}
use Rattle.rz_image.specs.Memory.{NoSelfWritten}
use Rattle.rz_elf.specs.Elf.{Image}
use Rattle.rz_isa.specs.Nodes.{Decoder}
use Rattle.rz_machine.specs.State.{after}
use Rattle.rz_machine.specs.Kept.{Edges, Kept}
use Rattle.rz_machine.specs.Nodes.{code_in, StandsIn, IsPlausible}
use Rattle.rz_machine.specs.Keeps.{NoCut}

-- no step before the n-th is the cut; and no step at all, where the run ended within n steps
pub record IsUncut (dec : Decoder) (edges : Edges) (s : Machine) (n : ℕ) : Type 0 where
  pub before : NoCut dec edges s (n - 1)
  pub ended : (why : End) → (after dec n s).end ≡ Some why → (m : ℕ) → NoCut dec edges s m

-- what a run of at least one step adds to a set that stands in the code makes it plausible
abbrev pub StaysPlausible : Decoder → ℕ → Image → Kept → Kept → Type 0
StaysPlausible dec limit x old new =
    1 ≤ limit → NoSelfWritten x.loads → StandsIn dec (code_in x.loads) old → IsPlausible dec (code_in x.loads) x.entry new
