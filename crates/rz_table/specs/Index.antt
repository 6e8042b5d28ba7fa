use Rattle.std.specs.Prelude.{ℕ, suc, ◌+◌, ◌-◌, ◌&&◌, Bool, true, List, [], ◌∷◌, take, drop, get_or}
use Rattle.rz_isa.specs.declared.rows.OpMap.{OpMap}
use Rattle.rz_isa.specs.declared.rows.OpMap.TheVariants as maps
use Rattle.rz_isa.specs.declared.rows.Row.{Row}
use Rattle.rz_isa.specs.Index.{is_listed}
use Rattle.rz_isa.specs.Table.{each_from}

-- Lists of numbers that are laid out one behind the other.

-- the numbers from one start to the next
abbrev pub cell : List ℕ → List ℕ → ℕ → List ℕ
cell starts numbers k = take (get_or starts (k + 1) 0 - get_or starts k 0) (drop (get_or starts k 0) numbers)

-- the place of an opcode: 256 to a map
abbrev pub opcode_place : OpMap → ℕ → ℕ
opcode_place maps.One opcode = opcode
opcode_place maps.Two opcode = 256 + opcode

-- the rows, numbered from n on, are listed at each of their opcodes
abbrev pub covers : (OpMap → ℕ → List ℕ) → ℕ → List Row → Bool
covers listed n [] = true
covers listed n (row ∷ rows) = each_from (λ o. is_listed (listed row.map o) n) row.opcode row.span && covers listed (suc n) rows
