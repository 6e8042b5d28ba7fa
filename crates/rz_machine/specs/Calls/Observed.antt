-- What a step makes of an observer.
use Rattle.std.specs.Prelude.{◌≡◌, ◌⊎◌, ℕ, ◌+◌, ◌<◌, Bool, false}
use Rattle.rz_isa.specs.Nodes.{Decoder}
use Rattle.rz_machine.specs.declared.machine.Machine.{Machine}
use Rattle.rz_machine.specs.State.{step, after}

-- a fact of an observer at the start, of so many steps of a run from a state, and of the observer then
abbrev pub Fact : Type 0 → Type 1
Fact O = O → Decoder → Machine → ℕ → O → Type 0

-- where the first fact holds before a step that is made at an address, the second holds of the observer that sees it
abbrev pub Turns : {O : Type 0} → (O → Machine → Bool) → (before then : Fact O) → (at : ℕ) → (now : Machine) → (old new : O) → Type 0
Turns {O} over before then at now old new =
    (first : O) (dec : Decoder) (s : Machine) (k : ℕ) → before first dec s k old → over old (after dec k s) ≡ false
    → at ≡ (after dec k s).cpu.rip → now ≡ step dec (after dec k s) → then first dec s (k + 1) new

-- a run that was left for want of memory: in a step, or when the observer saw it
abbrev pub IsLeft : {O : Type 0} → (follows refused : Fact O) → O → Decoder → (limit : ℕ) → (s now : Machine) → O → Type 0
IsLeft follows refused first dec limit s now o =
    (k : ℕ) × (k < limit)
    × (((now ≡ after dec k s) × follows first dec s k o) ⊎ ((now ≡ after dec (k + 1) s) × refused first dec s (k + 1) o))
