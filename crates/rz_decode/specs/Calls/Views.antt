use Rattle.std.specs.Prelude.{ℕ, ◌+◌, ◌==◌, Bool, true, List, [], ◌∷◌, length, Option, Some, None}
use Rattle.rz_isa.specs.Spelling.{Parts, rm_len, second}
use Rattle.rz_isa.specs.Reading.{Opcode}
use Rattle.rz_isa.specs.Decoded.{Front}
use Rattle.rz_decode.specs.declared.front.Front as fronts
use Rattle.rz_decode.specs.declared.front.Opcode as opcodes
use Rattle.rz_decode.specs.declared.parts.Parts as parts

-- What the values of the code stand for.

abbrev pub opcode_view : opcodes.Opcode → Opcode
opcode_view o = record { map = o.map; byte = o.byte; rest = o.rest.now }

abbrev pub opcode_option : Option opcodes.Opcode → Option Opcode
opcode_option None = None
opcode_option (Some o) = Some (opcode_view o)

abbrev pub front_view : fronts.Front → Front
front_view f = record { prefixes = f.prefixes.now; rex = f.rex; opcode = opcode_view f.opcode }

abbrev pub parts_view : parts.Parts → Parts
parts_view p = record { prefixes = p.prefixes.now; rex = p.rex; opcode = p.opcode; rm = p.rm.now; imm = p.imm.now }

-- ModRM, SIB and displacement are there whole, or nothing is
abbrev pub is_whole_rm : List ℕ → Bool
is_whole_rm [] = true
is_whole_rm (m ∷ rest) = 1 + length rest == rm_len m (second (m ∷ rest))
