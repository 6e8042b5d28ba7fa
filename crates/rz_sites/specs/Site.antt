-- What the items of a return, an indirect call or an indirect jump do and take.
use Rattle.std.specs.Prelude.{ℕ, ◌+◌, ◌*◌, ◌^◌, ◌<◌, IsTrue, List, length}
use Rattle.std.specs.List.{AllByRecursion}
use Rattle.rz_isa.specs.declared.rows.Row.{Row}
use Rattle.rz_isa.specs.declared.instruction.Insn.{Insn}
use Rattle.rz_isa.specs.declared.item_list.Item.{Item}
use Rattle.rz_isa.specs.Insn.{kind_of}
use Rattle.rz_isa.specs.Nodes.{Decoder, is_site}
use Rattle.rz_isa.specs.Sizes.{IsSized}
use Rattle.rz_isa.specs.Spells.{Spells}
use Rattle.rz_isa.specs.Targets.{NamesLow}
use Rattle.rz_machine.specs.Tables.{site_steps}
use Rattle.rz_machine.specs.Sequence.{site_items}
use Rattle.rz_machine.specs.Simulates.{Simulates}

-- ---- what a site is made of

-- a return, an indirect call or an indirect jump; the next address, the targets and the scratch page are low
pub record IsSite (scratch : ℕ) (targets : List ℕ) (next : ℕ) (x : Insn) : Type 0 where
  pub kind : IsTrue (is_site (kind_of x))
  pub next_low : next < 2 ^ 31
  pub targets_low : AllByRecursion (λ t. t < 2 ^ 31) targets
  pub few : length targets < 2 ^ 28
  pub scratch_low : scratch + 16 < 2 ^ 31

-- ---- what it does and takes

-- items simulate the instruction, which leads to the targets alone, in steps by the binary digits of their number
abbrev pub SimulatesSite : Decoder → (scratch : ℕ) → (targets : List ℕ) → (a n : ℕ) → Insn → List Item → Type 0
SimulatesSite dec scratch targets a n x items = Simulates dec scratch (site_steps (length targets)) targets a n x items

-- items take at most so many bytes, for an instruction that some bytes spell and that names low addresses
abbrev pub IsSizedSite : List Row → (targets : List ℕ) → Insn → List Item → Type 0
IsSizedSite rows targets x items =
    (bytes : List ℕ) (b : ℕ) → Spells rows bytes b x → NamesLow x → IsSized rows items (128 + 48 * length targets)

-- ---- laws

abbrev pub SitesSimulate : Decoder → Type 0
SitesSimulate dec =
    (scratch : ℕ) (targets : List ℕ) (a n : ℕ) (x : Insn) → IsSite scratch targets n x
    → SimulatesSite dec scratch targets a n x (site_items scratch targets a n x)

abbrev pub SitesAreSized : List Row → Type 0
SitesAreSized rows =
    (scratch : ℕ) (targets : List ℕ) (a n : ℕ) (bytes : List ℕ) (b : ℕ) (x : Insn) → Spells rows bytes b x
    → IsSite scratch targets n x → NamesLow x → IsSized rows (site_items scratch targets a n x) (128 + 48 * length targets)
