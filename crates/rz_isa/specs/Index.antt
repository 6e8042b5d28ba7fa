use Rattle.std.specs.Prelude.{ℕ, suc, ◌≡◌, ◌==◌, ◌&&◌, Bool, List, [], ◌∷◌, Some, slice_get, if◌then◌else◌, IsTrue}
use Rattle.std.specs.List.{list_any}
use Rattle.rz_isa.specs.declared.classes.Class.{Class}
use Rattle.rz_isa.specs.declared.rows.OpMap.{OpMap}
use Rattle.rz_isa.specs.declared.rows.Row.{Row}
use Rattle.rz_isa.specs.Class.{op_class, class_place}
use Rattle.rz_isa.specs.Spelling.{opcode_fits}
use Rattle.rz_isa.specs.Table.{same_map}

-- Lists of the numbers of rows: those that have an opcode, and those of a class.

-- the row has the opcode of the map
abbrev pub has_opcode : Row → OpMap → ℕ → Bool
has_opcode row map opcode = same_map row.map map && opcode_fits row opcode

abbrev pub is_listed : List ℕ → ℕ → Bool
is_listed numbers n = list_any (λ k. k == n) numbers

-- every row that has the opcode is listed; others may be, too
abbrev pub ListsOpcode : List Row → OpMap → ℕ → List ℕ → Type 0
ListsOpcode rows map opcode numbers = (n : ℕ) (row : Row) → slice_get rows n ≡ Some row → IsTrue (has_opcode row map opcode) → IsTrue (is_listed numbers n)

abbrev pub is_class : Class → Row → Bool
is_class class row = class_place (op_class row.op) == class_place class

-- the numbers of the rows of the class, ascending; the first row has the number n
abbrev pub numbers_of : Class → ℕ → List Row → List ℕ
numbers_of class n [] = []
numbers_of class n (row ∷ rows) = if is_class class row then n ∷ numbers_of class (suc n) rows else numbers_of class (suc n) rows
