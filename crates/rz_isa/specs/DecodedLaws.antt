use Rattle.std.specs.Prelude.{ℕ, ◌≡◌, ◌≤◌, List, ◌++◌, length, take, IsTrue}
use Rattle.rz_isa.specs.declared.decoding.Decoded.{Decoded}
use Rattle.rz_isa.specs.declared.decoding.Decoded.TheVariants as decodeds
use Rattle.rz_isa.specs.declared.rows.Row.{Row}
use Rattle.rz_isa.specs.declared.instruction.Insn.{Insn}
use Rattle.rz_num.specs.Bytes.{are_bytes}
use Rattle.rz_isa.specs.Spells.{Spells, Begins, IsUnknown}
use Rattle.rz_isa.specs.Decoded.{decoded}

-- What a decoder's answers mean in the words of the relation.

-- the first n bytes spell the instruction
pub record FrontSpells (rows : List Row) (bytes : List ℕ) (at : ℕ) (x : Insn) (n : ℕ) : Type 0 where
  pub within : n ≤ length bytes
  pub spells : Spells rows (take n bytes) at x

-- d is the answer about the bytes at the address: what is called an instruction is spelled by the
-- first bytes; where a front is a spelling, its instruction is named with its length; Short comes
-- exactly where the bytes begin a spelling and end inside it, Unknown exactly where they are unknown
pub record Exact (rows : List Row) (bytes : List ℕ) (at : ℕ) (d : Decoded) : Type 0 where
  pub named : (n : ℕ) (x : Insn) → d ≡ decodeds.Insn x n → FrontSpells rows bytes at x n
  pub spelled : (s more : List ℕ) (x : Insn) → s ++ more ≡ bytes → Spells rows s at x → d ≡ decodeds.Insn x (length s)
  pub begins : d ≡ decodeds.Short → Begins rows bytes
  pub short : Begins rows bytes → d ≡ decodeds.Short
  pub is_unknown : d ≡ decodeds.Unknown → IsUnknown rows bytes
  pub unknown : IsUnknown rows bytes → d ≡ decodeds.Unknown

abbrev pub DecodesExactly : List Row → Type 0
DecodesExactly rows = (bytes : List ℕ) (at : ℕ) → IsTrue (are_bytes bytes) → Exact rows bytes at (decoded rows bytes at)

-- only the first 15 bytes count
abbrev pub FifteenCount : List Row → Type 0
FifteenCount rows = (bytes : List ℕ) (at : ℕ) → IsTrue (are_bytes bytes) → decoded rows (take 15 bytes) at ≡ decoded rows bytes at
