-- What the items of a kept instruction that is no site do and take.
use Rattle.std.specs.Prelude.{◌≡◌, ℕ, ◌^◌, ◌<◌, Bool, false, List}
use Rattle.rz_isa.specs.declared.rows.Row.{Row}
use Rattle.rz_isa.specs.declared.instruction.Insn.{Insn}
use Rattle.rz_isa.specs.Insn.{kind_of}
use Rattle.rz_isa.specs.Nodes.{Decoder, is_site}
use Rattle.rz_isa.specs.Sizes.{IsSized}
use Rattle.rz_isa.specs.Spells.{Spells}
use Rattle.rz_isa.specs.Targets.{NamesLow}
use Rattle.rz_machine.specs.Kept.{has_node}
use Rattle.rz_machine.specs.Sequence.{fragment_items}
use Rattle.rz_machine.specs.Simulates.{Simulates}

-- they simulate the instruction, in at most so many steps, whatever is kept of its successors
abbrev pub FragmentsSimulate : Decoder → ℕ → Type 0
FragmentsSimulate dec bound =
    (scratch : ℕ) (targets : List ℕ) (a n : ℕ) (x : Insn) → is_site (kind_of x) ≡ false → n < 2 ^ 31
    → Simulates dec scratch bound targets a n x (fragment_items (has_node targets) a n x)

-- they take at most so many bytes, for an instruction that some bytes spell and that names low addresses
abbrev pub FragmentsAreSized : List Row → ℕ → Type 0
FragmentsAreSized rows most =
    (keeps : ℕ → Bool) (a n : ℕ) (bytes : List ℕ) (b : ℕ) (x : Insn) → Spells rows bytes b x → is_site (kind_of x) ≡ false
    → NamesLow x → n < 2 ^ 31 → IsSized rows (fragment_items keeps a n x) most
