-- The line of an instruction: its address, its bytes and its text.
use Rattle.std.specs.Prelude.{ℕ, List, ◌++◌, codes}
use Rattle.hex.specs.Hex.{encode_lower}
use Rattle.rz_num.specs.Texts.{hex_text}
use Rattle.rz_isa.specs.declared.instruction.Insn.{Insn}
use Rattle.rz_disasm.specs.Statements.{insn_text}

-- the bytes stand as two hexadecimal digits each
unfoldable pub line_text : ℕ → List ℕ → Insn → List ℕ
line_text at bytes x = hex_text at ++ (codes " " ++ (encode_lower bytes ++ (codes " " ++ insn_text x)))
