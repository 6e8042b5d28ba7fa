-- The texts of operands: numbers, registers and memory.
use Rattle.std.specs.Prelude.{ℕ, suc, ℤ, pos, negsuc, ◌==◌, if◌then◌else◌, List, [], ◌++◌, codes, decimal, Option, Some, None}
use Rattle.std.specs.Int.{cast_unsigned, w64}
use Rattle.rz_num.specs.Texts.{hex_text}
use Rattle.rz_num.specs.declared.width.Width.{Width}
use Rattle.rz_num.specs.declared.width.Width.TheVariants.{W8, W16, W32, W64}
use Rattle.rz_isa.specs.declared.instruction.Mem.{Mem}
use Rattle.rz_isa.specs.declared.instruction.Place.{Place}
use Rattle.rz_isa.specs.declared.instruction.Place.TheVariants as places
use Rattle.rz_isa.specs.declared.instruction.Operand.{Operand}
use Rattle.rz_isa.specs.declared.instruction.Operand.TheVariants as operands
use Rattle.rz_isa.specs.declared.instruction.Count.{Count}
use Rattle.rz_isa.specs.declared.instruction.Count.TheVariants as counts
use Rattle.rz_isa.specs.declared.instruction.BitIndex.{BitIndex}
use Rattle.rz_isa.specs.declared.instruction.BitIndex.TheVariants as indexes
use Rattle.rz_disasm.specs.Registers.{number_name, register_name}

-- the size of what stands in memory
abbrev pub size_word : Width → List ℕ
size_word W8 = codes "byte"
size_word W16 = codes "word"
size_word W32 = codes "dword"
size_word W64 = codes "qword"

-- a displacement behind a base or an index, with its sign
abbrev pub displacement : ℤ → List ℕ
displacement (pos n) = if n == 0 then [] else codes "+" ++ hex_text n
displacement (negsuc n) = codes "-" ++ hex_text (suc n)

-- an index and its scale
abbrev pub scaled : ℕ → ℕ → List ℕ
scaled index scale = number_name W64 index ++ (codes "*" ++ decimal scale)

-- the sum of a base, a scaled index and a displacement; a displacement alone is an address of 64 bits
-- (Intel SDM, volume 1, section 3.7.5)
abbrev pub sum_of : Option ℕ → Option ℕ → ℕ → ℤ → List ℕ
sum_of None None scale disp = hex_text (cast_unsigned w64 disp)
sum_of None (Some index) scale disp = scaled index scale ++ displacement disp
sum_of (Some base) None scale disp = number_name W64 base ++ displacement disp
sum_of (Some base) (Some index) scale disp = number_name W64 base ++ (codes "+" ++ (scaled index scale ++ displacement disp))

-- memory by registers, in brackets
unfoldable pub memory_text : Mem → List ℕ
memory_text m = codes "[" ++ (sum_of m.base m.index m.scale m.disp ++ codes "]")

-- memory named relative to RIP, by its address
abbrev pub relative_text : ℕ → List ℕ
relative_text address = codes "[rip " ++ (hex_text address ++ codes "]")

-- a register at a width, or memory with its size
unfoldable pub place_text : Width → Place → List ℕ
place_text w (places.Reg r) = register_name w r
place_text w (places.Mem m) = size_word w ++ (codes " " ++ memory_text m)
place_text w (places.At address) = relative_text address

-- an address that is not read has no size
unfoldable pub address_text : Width → Place → List ℕ
address_text w (places.Reg r) = register_name w r
address_text w (places.Mem m) = memory_text m
address_text w (places.At address) = relative_text address

abbrev pub operand_text : Width → Operand → List ℕ
operand_text w (operands.Place p) = place_text w p
operand_text w (operands.Imm n) = hex_text n

abbrev pub count_text : Count → List ℕ
count_text (counts.Imm n) = hex_text n
count_text counts.Cl = codes "cl"

abbrev pub index_text : Width → BitIndex → List ℕ
index_text w (indexes.Reg n) = number_name w n
index_text w (indexes.Imm n) = hex_text n
