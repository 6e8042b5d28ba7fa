-- Spellings that end at a low address.
use Rattle.std.specs.Prelude.{ℕ, ◌≡◌, ◌+◌, ◌^◌, ◌<◌, List, None, IsSome}
use Rattle.rz_isa.specs.declared.rows.Row.{Row}
use Rattle.rz_isa.specs.declared.rows.Form.TheVariants.{Near}
use Rattle.rz_isa.specs.declared.instruction.Insn.{Insn}
use Rattle.rz_isa.specs.Canonical.{chosen}
use Rattle.rz_isa.specs.Emitted.{HasSpelling}
use Rattle.rz_isa.specs.Insn.{target_of}
use Rattle.rz_isa.specs.Plan.{spelled_len}
use Rattle.rz_isa.specs.Targets.{NamesLow}

-- an instruction without a direct target for which a row is chosen has a canonical spelling, of the
-- length of what is chosen, at every address from which that ends below 2^31, where what it names
-- relative to RIP is low, too
abbrev pub SpelledWithin : List Row → Type 0
SpelledWithin rows =
    (x : Insn) (at : ℕ) → IsSome (chosen rows Near x) → target_of x ≡ None → NamesLow x
    → at + spelled_len (chosen rows Near x) < 2 ^ 31
    → HasSpelling rows x at Near (spelled_len (chosen rows Near x))
