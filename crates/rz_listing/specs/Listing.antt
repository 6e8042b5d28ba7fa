-- Listings: the instructions that stand one behind the other from an address on.
use Rattle.std.specs.Prelude.{ℕ, zero, suc, ◌+◌, ◌%◌, ◌^◌, List, [], ◌++◌, codes, take, Option, Some, None}
use Rattle.rz_image.specs.Memory.{fetch}
use Rattle.rz_elf.specs.Elf.{image_of}
use Rattle.rz_isa.specs.declared.decoding.Decoded.{Decoded}
use Rattle.rz_isa.specs.declared.decoding.Decoded.TheVariants as decodeds
use Rattle.rz_isa.specs.Nodes.{Decoder, Code, spelled_at}
use Rattle.rz_num.specs.Texts.{hex_text}
use Rattle.rz_disasm.specs.Line.{line_text}

-- the executable bytes that a file loads from an address on, as many of the first 15 as there are
abbrev pub file_code : List ℕ → Code
file_code file a = fetch (image_of file).loads a 15

-- the line of an address: that of the instruction there, or why there is none
abbrev pub line_of : Decoded → List ℕ → ℕ → List ℕ
line_of (decodeds.Insn x len) bytes at = line_text at (take len bytes) x ++ codes "\n"
line_of decodeds.Short bytes at = hex_text at ++ codes " short\n"
line_of decodeds.Unknown bytes at = hex_text at ++ codes " unknown\n"

-- the address behind an instruction
abbrev pub next_of : Decoded → ℕ → Option ℕ
next_of (decodeds.Insn x len) at = Some ((at + len) % 2 ^ 64)
next_of _ at = None

abbrev pub behind : (ℕ → List ℕ) → Option ℕ → List ℕ
behind lines None = []
behind lines (Some next) = lines next

-- so many lines at most: the first address where no instruction stands has the last one
unfoldable pub listing : Decoder → Code → ℕ → ℕ → List ℕ
listing decoder code zero at = []
listing decoder code (suc n) at =
    let spelled = spelled_at decoder code at in line_of spelled (code at) at ++ behind (listing decoder code n) (next_of spelled at)
