use Rattle.std.specs.Prelude.{ℕ, ◌≡◌, List, Some, None, IsTrue, slice_get}
use Rattle.rz_isa.specs.declared.decoding.Decoded.{Decoded}
use Rattle.rz_isa.specs.declared.rows.Row.{Row}
use Rattle.rz_isa.specs.Reading.{opcode_at, behind_rex, skip_while}
use Rattle.rz_isa.specs.Spelling.{is_prefix}
use Rattle.rz_isa.specs.Decoded.{front_at, serves, decoded_by}
use Rattle.rz_isa.specs.Index.{is_listed}
use Rattle.rz_decode.specs.declared.front.Front as fronts
use Rattle.rz_decode.specs.Calls.Views.{front_view}

-- the front of the bytes, the same by every row, since they have an opcode
abbrev pub IsFront : List ℕ → fronts.Front → Type 0
IsFront bytes f = (row : Row) → front_view f ≡ front_at row bytes

-- what the row says, which serves the bytes
pub record Says (row : Row) (bytes : List ℕ) (at : ℕ) (d : Decoded) : Type 0 where
  pub serves : IsTrue (serves bytes row)
  pub is : d ≡ decoded_by bytes at (Some row)

-- the rows that serve the bytes are among the numbers
abbrev pub ListsServing : List Row → List ℕ → List ℕ → Type 0
ListsServing rows bytes numbers = (n : ℕ) (row : Row) → slice_get rows n ≡ Some row → IsTrue (serves bytes row) → IsTrue (is_listed numbers n)

-- no opcode stands behind the prefixes and REX
abbrev pub EndsBeforeOpcode : List ℕ → Type 0
EndsBeforeOpcode bytes = opcode_at (behind_rex (skip_while is_prefix bytes)) ≡ None
