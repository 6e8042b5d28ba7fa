-- What canonical spellings are decoded as.
use Rattle.std.specs.Prelude.{ℕ, ◌≡◌, List, ◌++◌, length, Some, IsTrue}
use Rattle.rz_isa.specs.declared.decoding.Decoded.TheVariants as decodeds
use Rattle.rz_isa.specs.declared.rows.Row.{Row}
use Rattle.rz_isa.specs.declared.rows.Form.{Form}
use Rattle.rz_isa.specs.declared.instruction.Insn.{Insn}
use Rattle.rz_num.specs.Bytes.{are_bytes}
use Rattle.rz_isa.specs.Canonical.{canonical}
use Rattle.rz_isa.specs.Decoded.{decoded}

-- the bytes are decoded as the instruction, with their number, whatever bytes follow
abbrev pub DecodesTo : List Row → List ℕ → ℕ → Insn → Type 0
DecodesTo rows s at x = (more : List ℕ) → IsTrue (are_bytes more) → decoded rows (s ++ more) at ≡ decodeds.Insn x (length s)

-- a canonical spelling is decoded as its instruction
abbrev pub DecodesBack : List Row → Type 0
DecodesBack rows = (x : Insn) (at : ℕ) (form : Form) (s : List ℕ) → canonical rows x at form ≡ Some s → DecodesTo rows s at x
