-- The text of each instruction: its name and its operands, the destination first
-- (Intel SDM, volume 1, section 1.3.2.1, "Instruction Operands").
use Rattle.std.specs.Prelude.{ℕ, ◌==◌, if◌then◌else◌, List, [], ◌∷◌, ◌++◌, codes}
use Rattle.rz_num.specs.Texts.{hex_text}
use Rattle.rz_num.specs.declared.width.Width.TheVariants.{W8, W64}
use Rattle.rz_isa.specs.declared.instruction.Insn.{Insn}
use Rattle.rz_isa.specs.declared.instruction.Insn.TheVariants as insns
use Rattle.rz_disasm.specs.Registers.{number_name, register_name}
use Rattle.rz_disasm.specs.Operands.{place_text, address_text, operand_text, count_text, index_text}
use Rattle.rz_disasm.specs.Names.{cond_name, arith_name, unary_name, wide_name, shift_name, double_shift_name, bit_name, scan_name, flag_name, extend_name, convert_name, sign_fill_name, string_name, comparison_name}

-- operands with a comma and a space between them
abbrev pub separated : List (List ℕ) → List ℕ
separated [] = []
separated (a ∷ []) = a
separated (a ∷ b ∷ rest) = a ++ (codes ", " ++ separated (b ∷ rest))

-- behind the name, where there are operands, a space and the operands
abbrev pub operands_text : List (List ℕ) → List ℕ
operands_text [] = []
operands_text (a ∷ rest) = codes " " ++ separated (a ∷ rest)

abbrev pub statement : List ℕ → List (List ℕ) → List ℕ
statement name operands = name ++ operands_text operands

-- instructions that stand alone
abbrev pub lone_text : Insn → List ℕ
lone_text insns.Leave = statement (codes "leave") []
lone_text insns.PushFlags = statement (codes "pushfq") []
lone_text insns.PopFlags = statement (codes "popfq") []
lone_text insns.Nop = statement (codes "nop") []
lone_text insns.Syscall = statement (codes "syscall") []
lone_text insns.Ud2 = statement (codes "ud2") []
lone_text insns.Hlt = statement (codes "hlt") []
lone_text insns.Int3 = statement (codes "int3") []
lone_text (insns.Convert w) = statement (convert_name w) []
lone_text (insns.SignFill w) = statement (sign_fill_name w) []
lone_text (insns.Movs w rep) = statement (string_name rep (codes "movs") w) []
lone_text (insns.Stos w rep) = statement (string_name rep (codes "stos") w) []
lone_text (insns.Cmps w rep) = statement (comparison_name rep (codes "cmps") w) []
lone_text (insns.Scas w rep) = statement (comparison_name rep (codes "scas") w) []
lone_text (insns.Flag op) = statement (flag_name op) []
lone_text _ = []

-- transfers of control
abbrev pub transfer_text : Insn → List ℕ
transfer_text (insns.Jcc cond target) = statement (codes "j" ++ cond_name cond) (hex_text target ∷ [])
transfer_text (insns.Jrcxz target) = statement (codes "jrcxz") (hex_text target ∷ [])
transfer_text (insns.Jmp target) = statement (codes "jmp") (hex_text target ∷ [])
transfer_text (insns.JmpInd src) = statement (codes "jmp") (place_text W64 src ∷ [])
transfer_text (insns.Call target) = statement (codes "call") (hex_text target ∷ [])
transfer_text (insns.CallInd src) = statement (codes "call") (place_text W64 src ∷ [])
transfer_text (insns.Ret pop) = statement (codes "ret") (if pop == 0 then [] else hex_text pop ∷ [])
transfer_text x = lone_text x

-- shifts, bits and scans
abbrev pub bit_text : Insn → List ℕ
bit_text (insns.Shift op w dst count) = statement (shift_name op) (place_text w dst ∷ count_text count ∷ [])
bit_text (insns.DoubleShift left w dst src count) =
    statement (double_shift_name left) (place_text w dst ∷ number_name w src ∷ count_text count ∷ [])
bit_text (insns.Bswap w reg) = statement (codes "bswap") (number_name w reg ∷ [])
bit_text (insns.BitTest op w dst index) = statement (bit_name op) (place_text w dst ∷ index_text w index ∷ [])
bit_text (insns.Scan op w dst src) = statement (scan_name op) (number_name w dst ∷ place_text w src ∷ [])
bit_text (insns.Set cond dst) = statement (codes "set" ++ cond_name cond) (place_text W8 dst ∷ [])
bit_text x = transfer_text x

-- arithmetic and logic
abbrev pub arithmetic_text : Insn → List ℕ
arithmetic_text (insns.Arith op w dst src) = statement (arith_name op) (place_text w dst ∷ operand_text w src ∷ [])
arithmetic_text (insns.Test w dst src) = statement (codes "test") (place_text w dst ∷ operand_text w src ∷ [])
arithmetic_text (insns.Unary op w dst) = statement (unary_name op) (place_text w dst ∷ [])
arithmetic_text (insns.Wide op w src) = statement (wide_name op) (place_text w src ∷ [])
arithmetic_text (insns.Imul2 w dst src) = statement (codes "imul") (number_name w dst ∷ place_text w src ∷ [])
arithmetic_text (insns.Imul3 w dst src imm) =
    statement (codes "imul") (number_name w dst ∷ place_text w src ∷ hex_text imm ∷ [])
arithmetic_text x = bit_text x

-- moves, and then all others
abbrev pub insn_text : Insn → List ℕ
insn_text (insns.Mov w dst src) = statement (codes "mov") (place_text w dst ∷ operand_text w src ∷ [])
insn_text (insns.Lea w dst src) = statement (codes "lea") (number_name w dst ∷ address_text w src ∷ [])
insn_text (insns.Extend signed to from dst src) =
    statement (extend_name signed from) (number_name to dst ∷ place_text from src ∷ [])
insn_text (insns.Push src) = statement (codes "push") (operand_text W64 src ∷ [])
insn_text (insns.Pop dst) = statement (codes "pop") (place_text W64 dst ∷ [])
insn_text (insns.Cmov cond w dst src) = statement (codes "cmov" ++ cond_name cond) (number_name w dst ∷ place_text w src ∷ [])
insn_text (insns.Xchg w dst src) = statement (codes "xchg") (place_text w dst ∷ register_name w src ∷ [])
insn_text (insns.CmpXchg w dst src) = statement (codes "cmpxchg") (place_text w dst ∷ register_name w src ∷ [])
insn_text (insns.Xadd w dst src) = statement (codes "xadd") (place_text w dst ∷ register_name w src ∷ [])
insn_text x = arithmetic_text x
