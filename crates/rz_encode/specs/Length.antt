-- Lengths of canonical spellings, in bytes.
use Rattle.std.specs.Prelude.{ℕ, ◌≡◌, ◌≤◌, List, length, Option, Some, None}
use Rattle.rz_isa.specs.declared.rows.Row.{Row}
use Rattle.rz_isa.specs.declared.rows.Form.{Form}
use Rattle.rz_isa.specs.declared.instruction.Insn.{Insn}
use Rattle.rz_isa.specs.Canonical.{Chosen, chosen, length_for, canonical}

-- the length of the spelling by the row and the fields that were chosen
abbrev pub chosen_len : Option Chosen → ℕ
chosen_len None = 0
chosen_len (Some c) = length_for c.row c.fields

-- what is chosen has at most 15 bytes (Intel SDM, volume 2, section 2.3.11), in reach or not
abbrev pub ChosenLengths : List Row → Type 0
ChosenLengths rows = (x : Insn) (form : Form) → chosen_len (chosen rows form x) ≤ 15

-- a canonical spelling has the length of what is chosen, at every address
abbrev pub SameLengths : List Row → Type 0
SameLengths rows = (x : Insn) (at : ℕ) (form : Form) (s : List ℕ) → canonical rows x at form ≡ Some s → length s ≡ chosen_len (chosen rows form x)

-- a canonical spelling has at most 15 bytes
abbrev pub CanonicalLengths : List Row → Type 0
CanonicalLengths rows = (x : Insn) (at : ℕ) (form : Form) (s : List ℕ) → canonical rows x at form ≡ Some s → length s ≤ 15
