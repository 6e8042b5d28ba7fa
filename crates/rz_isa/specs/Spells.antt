use Rattle.std.specs.Prelude.{ℕ, ◌≡◌, ◌+◌, ◌%◌, ◌^◌, ◌<◌, List, ◌∷◌, ◌++◌, length, Some, slice_get}
use Rattle.rz_isa.specs.declared.rows.Row.{Row}
use Rattle.rz_isa.specs.declared.instruction.Insn.{Insn}
use Rattle.rz_isa.specs.declared.spelled.Fields.{Fields}
use Rattle.rz_isa.specs.Spelling.{Parts, SpelledBy}
use Rattle.rz_isa.specs.Fields.{fields, build_op}

-- the address behind the bytes
abbrev pub next_address : ℕ → List ℕ → ℕ
next_address at s = (at + length s) % 2 ^ 64

-- the row spells the bytes, and at that address they name x
pub record RowSpells (row : Row) (s : List ℕ) (at : ℕ) (x : Insn) : Type 0 where
  pub parts : Parts
  pub spelled : SpelledBy row parts s
  pub names : x ≡ build_op row.op (fields row parts (next_address at s))

-- some row of the table spells the bytes, and at that address they name x
pub record Spells (rows : List Row) (s : List ℕ) (at : ℕ) (x : Insn) : Type 0 where
  pub n : ℕ
  pub row : Row
  pub in_table : slice_get rows n ≡ Some row
  pub by_row : RowSpells row s at x

-- the bytes begin a spelling and end inside it: it has one byte more at least
pub record Begins (rows : List Row) (s : List ℕ) : Type 0 where
  pub n : ℕ
  pub row : Row
  pub in_table : slice_get rows n ≡ Some row
  pub parts : Parts
  pub next : ℕ
  pub more : List ℕ
  pub spelled : SpelledBy row parts (s ++ (next ∷ more))

-- no front of the bytes is a spelling, and they begin none
pub record IsUnknown (rows : List Row) (bytes : List ℕ) : Type 0 where
  pub no_front : (s more : List ℕ) (at : ℕ) (x : Insn) → s ++ more ≡ bytes → ¬ Spells rows s at x
  pub begins_none : ¬ Begins rows bytes

-- ---- the fields that a row can have

-- the row can have the fields: some spelling by it has them at some address
pub record CanHave (row : Row) (f : Fields) : Type 0 where
  pub next : ℕ
  pub next_low : next < 2 ^ 64
  pub bytes : List ℕ
  pub parts : Parts
  pub spelled : SpelledBy row parts bytes
  pub same : fields row parts next ≡ f

-- the row can have the fields, and they build the instruction
pub record Builds (row : Row) (x : Insn) (f : Fields) : Type 0 where
  pub had : CanHave row f
  pub built : build_op row.op f ≡ x

abbrev pub NoneBuilds : Row → Insn → Type 0
NoneBuilds row x = (f : Fields) → ¬ Builds row x f
