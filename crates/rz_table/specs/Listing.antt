use Rattle.std.specs.Prelude.{ℕ, ◌+◌, ◌*◌, List, [], ◌∷◌, ◌++◌, map, Option, Some, None, Bool, true, false}
use Rattle.rz_flags.specs.declared.ArithOp.{ArithOp}
use Rattle.rz_flags.specs.declared.ArithOp.TheVariants as ariths
use Rattle.rz_flags.specs.declared.UnaryOp.TheVariants as unaries
use Rattle.rz_flags.specs.declared.WideOp.TheVariants as wides
use Rattle.rz_flags.specs.declared.ShiftOp.TheVariants as shifts
use Rattle.rz_flags.specs.declared.BitOp.TheVariants as bits
use Rattle.rz_flags.specs.declared.ScanOp.TheVariants as scans
use Rattle.rz_flags.specs.declared.FlagOp.TheVariants as changes
use Rattle.rz_isa.specs.declared.rows.OpMap.{OpMap}
use Rattle.rz_isa.specs.declared.rows.OpMap.TheVariants.{One, Two}
use Rattle.rz_isa.specs.declared.rows.RmRule.{RmRule}
use Rattle.rz_isa.specs.declared.rows.RmRule.TheVariants.{Any, MemoryOnly, RegisterOnly, Fixed}
use Rattle.rz_isa.specs.declared.rows.F3Rule.{F3Rule}
use Rattle.rz_isa.specs.declared.rows.F3Rule.TheVariants.{No, Allowed, Required, Repeats, RepeatsBoth}
use Rattle.rz_isa.specs.declared.rows.Size.{Size}
use Rattle.rz_isa.specs.declared.rows.Size.TheVariants.{B, V, D, Y, Q, WQ, N}
use Rattle.rz_isa.specs.declared.rows.ImmKind.{ImmKind}
use Rattle.rz_isa.specs.declared.rows.ImmKind.TheVariants.{Ib, Ibs, Iw, Iz, Iv, J8, J32}
use Rattle.rz_isa.specs.declared.rows.Form.{Form}
use Rattle.rz_isa.specs.declared.rows.Form.TheVariants.{Near, Short}
use Rattle.rz_isa.specs.declared.rows.Letter.{Letter}
use Rattle.rz_isa.specs.declared.rows.Letter.TheVariants as letters
use Rattle.rz_isa.specs.declared.rows.Letter.TheVariants.{E, E8, E16, E32, M, Er, G, O, A, Cl, Imm}
use Rattle.rz_isa.specs.declared.rows.Op.{Op}
use Rattle.rz_isa.specs.declared.rows.Op.TheVariants as ops
use Rattle.rz_isa.specs.declared.rows.Row.{Row}
use Rattle.rz_isa.specs.Suited.{letters_of}

-- The rows of both profiles in the form of the opcode tables (Intel SDM, volume 2, chapters 3 to 5 and
-- appendix A): an opcode, a size and operands. The rest of a row follows from these.

-- ---- an opcode (volume 2, section 3.1.1.1): alone, with /digit, +r or +cc, or with the ModRM byte behind it

pub data Code : Type 0 where
  plain : ℕ → Code
  digit : ℕ → ℕ → Code
  plus_r : ℕ → Code
  plus_cc : ℕ → Code
  whole : ℕ → ℕ → Code

abbrev pub opcode_of : Code → ℕ
opcode_of (plain b) = b
opcode_of (digit b k) = b
opcode_of (plus_r b) = b
opcode_of (plus_cc b) = b
opcode_of (whole b m) = b

abbrev pub span_of : Code → ℕ
span_of (plus_r b) = 8
span_of (plus_cc b) = 16
span_of _ = 1

abbrev pub digit_of : Code → Option ℕ
digit_of (digit b k) = Some k
digit_of _ = None

-- the first operand that ModRM names says which ModRM bytes there are
abbrev pub rule_of_letters : List Letter → Option RmRule
rule_of_letters [] = None
rule_of_letters (E ∷ ls) = Some Any
rule_of_letters (E8 ∷ ls) = Some Any
rule_of_letters (E16 ∷ ls) = Some Any
rule_of_letters (E32 ∷ ls) = Some Any
rule_of_letters (M ∷ ls) = Some MemoryOnly
rule_of_letters (Er ∷ ls) = Some RegisterOnly
rule_of_letters (_ ∷ ls) = rule_of_letters ls

abbrev pub rule_of : Code → Op → Option RmRule
rule_of (digit b k) op = Some Any
rule_of (whole b m) op = Some (Fixed m)
rule_of _ op = rule_of_letters (letters_of op)

-- only the jumps with a displacement of one byte have the form Short, but for Jrcxz, which has no other
abbrev pub form_of : Option ImmKind → Op → Form
form_of (Some J8) ops.Jcc = Short
form_of (Some J8) ops.Jmp = Short
form_of _ _ = Near

abbrev pub line : OpMap → F3Rule → Size → Option ImmKind → Code → Op → Row
line map f3 size imm code op = record {
  map = map;
  opcode = opcode_of code;
  span = span_of code;
  digit = digit_of code;
  rm = rule_of code op;
  f3 = f3;
  lock = false;
  size = size;
  imm = imm;
  form = form_of imm op;
  op = op;
}

-- ---- lines of several rows

-- Ib goes with bytes, Iz with the other widths
abbrev pub none : Size → Option ImmKind
none size = None

abbrev pub byte : Size → Option ImmKind
byte size = Some Ib

abbrev pub sized : Size → Option ImmKind
sized B = Some Ib
sized _ = Some Iz

-- an opcode for bytes and one for the other widths
abbrev pub pair : F3Rule → (Size → Option ImmKind) → Code → Code → Op → List Row
pair f3 imm b v op = line One f3 B (imm B) b op ∷ (line One f3 V (imm V) v op ∷ [])

-- the same for each digit with its operation
abbrev pub group : (Size → Option ImmKind) → ℕ → ℕ → List (ℕ × Op) → List Row
group imm b v ks = map (λ k. line One No B (imm B) (digit b k.0) k.1) ks ++ map (λ k. line One No V (imm V) (digit v k.0) k.1) ks

-- opcodes, or digits behind 0F and an opcode, each with its operation
abbrev pub opcodes : OpMap → F3Rule → Size → Option ImmKind → List (ℕ × Op) → List Row
opcodes m f3 size imm ks = map (λ k. line m f3 size imm (plain k.0) k.1) ks

abbrev pub digits : Size → Option ImmKind → ℕ → List (ℕ × Op) → List Row
digits size imm b ks = map (λ k. line Two No size imm (digit b k.0) k.1) ks

abbrev pub one : Row → List Row
one row = row ∷ []

abbrev pub joined : List (List Row) → List Row
joined [] = []
joined (rows ∷ rest) = rows ++ joined rest

abbrev pub shift_digits : Letter → List (ℕ × Op)
shift_digits c = (0, ops.Shift shifts.Rol E c) ∷ (1, ops.Shift shifts.Ror E c) ∷ (4, ops.Shift shifts.Shl E c) ∷ (5, ops.Shift shifts.Shr E c) ∷ (7, ops.Shift shifts.Sar E c) ∷ []

abbrev pub bit_tests : ℕ → ℕ → ℕ → ℕ → Letter → Letter → List (ℕ × Op)
bit_tests a b c d e i = (a, ops.BitTest bits.Test e i) ∷ (b, ops.BitTest bits.Set e i) ∷ (c, ops.BitTest bits.Reset e i) ∷ (d, ops.BitTest bits.Complement e i) ∷ []

-- ---- the eight operations, each by its number

abbrev pub arith_byte : ℕ → ArithOp → Row
arith_byte k o = line One No V (Some Ibs) (digit 0x83 k) (ops.Arith o E Imm)

abbrev pub arith : ℕ → ArithOp → List Row
arith k o =
    pair No none (plain (8 * k)) (plain (8 * k + 1)) (ops.Arith o E G) ++ pair No none (plain (8 * k + 2)) (plain (8 * k + 3)) (ops.Arith o G E) ++ one (arith_byte k o)
    ++ pair No sized (digit 0x80 k) (digit 0x81 k) (ops.Arith o E Imm) ++ pair No sized (plain (8 * k + 4)) (plain (8 * k + 5)) (ops.Arith o A Imm)

abbrev pub ariths_rows : List (List Row)
ariths_rows = arith 0 ariths.Add ∷ arith 1 ariths.Or ∷ arith 2 ariths.Adc ∷ arith 3 ariths.Sbb ∷ arith 4 ariths.And ∷ arith 5 ariths.Sub ∷ arith 6 ariths.Xor ∷ arith 7 ariths.Cmp ∷ []

-- ---- the other lines, in three parts

-- tests, moves, extensions, the stack
abbrev pub moves : List (List Row)
moves =
    pair No none (plain 0x84) (plain 0x85) (ops.Test E G)
    ∷ pair No sized (digit 0xf6 0) (digit 0xf7 0) (ops.Test E Imm)
    ∷ pair No sized (plain 0xa8) (plain 0xa9) (ops.Test A Imm)
    ∷ pair No none (plain 0x88) (plain 0x89) (ops.Mov E G)
    ∷ pair No none (plain 0x8a) (plain 0x8b) (ops.Mov G E)
    ∷ one (line One No B (Some Ib) (plus_r 0xb0) (ops.Mov O Imm))
    ∷ one (line One No D (Some Iv) (plus_r 0xb8) (ops.Mov O Imm))
    ∷ pair No sized (digit 0xc6 0) (digit 0xc7 0) (ops.Mov E Imm)
    ∷ one (line One No WQ (Some Iv) (plus_r 0xb8) (ops.Mov O Imm))
    ∷ one (line One No V None (plain 0x8d) (ops.Lea G M))
    ∷ opcodes Two No V None ((0xb6, ops.Extend false G E8) ∷ (0xbe, ops.Extend true G E8) ∷ [])
    ∷ opcodes Two No Y None ((0xb7, ops.Extend false G E16) ∷ (0xbf, ops.Extend true G E16) ∷ [])
    ∷ one (line One No WQ None (plain 0x63) (ops.Extend true G E32))
    ∷ one (line One No Q None (plus_r 0x50) (ops.Push O))
    ∷ one (line One No Q None (digit 0xff 6) (ops.Push E))
    ∷ one (line One No Q (Some Ibs) (plain 0x6a) (ops.Push Imm))
    ∷ one (line One No Q (Some Iz) (plain 0x68) (ops.Push Imm))
    ∷ one (line One No Q None (plus_r 0x58) (ops.Pop O))
    ∷ one (line One No Q None (digit 0x8f 0) (ops.Pop E))
    ∷ one (line One No Q None (plain 0xc9) ops.Leave)
    ∷ opcodes One No Q None ((0x9c, ops.PushFlags) ∷ (0x9d, ops.PopFlags) ∷ [])
    ∷ []

-- operations with one operand, products, shifts, conditions
abbrev pub operations : List (List Row)
operations =
    group none 0xfe 0xff ((0, ops.Unary unaries.Inc E) ∷ (1, ops.Unary unaries.Dec E) ∷ [])
    ∷ group none 0xf6 0xf7 ((2, ops.Unary unaries.Not E) ∷ (3, ops.Unary unaries.Neg E) ∷ [])
    ∷ group none 0xf6 0xf7 ((4, ops.Wide wides.Mul E) ∷ (5, ops.Wide wides.Imul E) ∷ (6, ops.Wide wides.Div E) ∷ (7, ops.Wide wides.Idiv E) ∷ [])
    ∷ opcodes Two No V None ((0xaf, ops.Imul2 G E) ∷ [])
    ∷ one (line One No V (Some Ibs) (plain 0x6b) (ops.Imul3 G E Imm))
    ∷ one (line One No V (Some Iz) (plain 0x69) (ops.Imul3 G E Imm))
    ∷ group none 0xd0 0xd1 (shift_digits letters.One)
    ∷ group byte 0xc0 0xc1 (shift_digits Imm)
    ∷ group none 0xd2 0xd3 (shift_digits Cl)
    ∷ opcodes Two No Y (Some Ib) ((0xa4, ops.DoubleShift true E G Imm) ∷ (0xac, ops.DoubleShift false E G Imm) ∷ [])
    ∷ opcodes Two No Y None ((0xa5, ops.DoubleShift true E G Cl) ∷ (0xad, ops.DoubleShift false E G Cl) ∷ [])
    ∷ one (line Two No V None (plus_cc 0x40) (ops.Cmov G E))
    ∷ one (line Two No B None (plus_cc 0x90) (ops.Set E))
    ∷ []

-- jumps
abbrev pub jumps : List (List Row)
jumps =
    one (line One No N (Some J8) (plus_cc 0x70) ops.Jcc)
    ∷ one (line Two No N (Some J32) (plus_cc 0x80) ops.Jcc)
    ∷ one (line One No N (Some J8) (plain 0xe3) ops.Jrcxz)
    ∷ one (line One No N (Some J8) (plain 0xeb) ops.Jmp)
    ∷ one (line One No N (Some J32) (plain 0xe9) ops.Jmp)
    ∷ []

-- calls, indirect jumps and returns; exchanges, bits, strings
abbrev pub calls : List (List Row)
calls =
    one (line One No N (Some J32) (plain 0xe8) ops.Call)
    ∷ one (line One No Q None (digit 0xff 2) (ops.CallInd E))
    ∷ one (line One No Q None (digit 0xff 4) (ops.JmpInd E))
    ∷ one (line One Allowed N None (plain 0xc3) ops.Ret)
    ∷ one (line One No N (Some Iw) (plain 0xc2) ops.Ret)
    ∷ one (line One No V None (plain 0x98) ops.Convert)
    ∷ one (line One No V None (plain 0x99) ops.SignFill)
    ∷ pair No none (plain 0x86) (plain 0x87) (ops.Xchg E G)
    ∷ one (line One No V None (plus_r 0x90) (ops.Xchg O A))
    ∷ one (line One No V None (plain 0x90) ops.Nop)
    ∷ one (line One Required N None (plain 0x90) ops.Nop)
    ∷ one (line Two No V None (digit 0x1f 0) ops.Nop)
    ∷ one (line Two Required N None (whole 0x1e 0xfa) ops.Nop)
    ∷ one (line Two No Y None (plus_r 0xc8) (ops.Bswap O))
    ∷ opcodes Two No V None (bit_tests 0xa3 0xab 0xb3 0xbb Er G)
    ∷ digits V (Some Ib) 0xba (bit_tests 4 5 6 7 E Imm)
    ∷ opcodes Two No V None ((0xbc, ops.Scan scans.Bsf G E) ∷ (0xbd, ops.Scan scans.Bsr G E) ∷ [])
    ∷ opcodes Two Required V None ((0xbc, ops.Scan scans.Tzcnt G E) ∷ (0xbd, ops.Scan scans.Lzcnt G E) ∷ (0xb8, ops.Scan scans.Popcnt G E) ∷ [])
    ∷ pair Repeats none (plain 0xa4) (plain 0xa5) ops.Movs
    ∷ pair Repeats none (plain 0xaa) (plain 0xab) ops.Stos
    ∷ opcodes One No N None ((0xf8, ops.Flag changes.Clc) ∷ (0xf9, ops.Flag changes.Stc) ∷ (0xf5, ops.Flag changes.Cmc) ∷ (0xfc, ops.Flag changes.Cld) ∷ (0xfd, ops.Flag changes.Std) ∷ [])
    ∷ []

-- system calls and what ends a path
abbrev pub ends : List (List Row)
ends = opcodes Two No N None ((0x05, ops.Syscall) ∷ []) ∷ opcodes Two No N None ((0x0b, ops.Ud2) ∷ []) ∷ one (line One No N None (plain 0xf4) ops.Hlt) ∷ one (line One No N None (plain 0xcc) ops.Int3) ∷ []

-- ---- the table

abbrev pub profile_rows : List Row
profile_rows = joined ariths_rows ++ joined moves ++ joined operations ++ joined jumps ++ joined calls ++ joined ends

-- ---- profile 2: further rows, and F0

abbrev pub carry_rotates : Letter → List (ℕ × Op)
carry_rotates c = (2, ops.Shift shifts.Rcl E c) ∷ (3, ops.Shift shifts.Rcr E c) ∷ []

-- rotations through CF, exchanges that compare or add, comparisons of strings
abbrev pub further : List (List Row)
further =
    group none 0xd0 0xd1 (carry_rotates letters.One)
    ∷ group byte 0xc0 0xc1 (carry_rotates Imm)
    ∷ group none 0xd2 0xd3 (carry_rotates Cl)
    ∷ opcodes Two No B None ((0xb0, ops.CmpXchg E G) ∷ [])
    ∷ opcodes Two No V None ((0xb1, ops.CmpXchg E G) ∷ [])
    ∷ opcodes Two No B None ((0xc0, ops.Xadd E G) ∷ [])
    ∷ opcodes Two No V None ((0xc1, ops.Xadd E G) ∷ [])
    ∷ pair RepeatsBoth none (plain 0xa6) (plain 0xa7) ops.Cmps
    ∷ pair RepeatsBoth none (plain 0xae) (plain 0xaf) ops.Scas
    ∷ []

-- the operations that F0 may stand before, where the destination is memory (volume 2, "LOCK")
abbrev pub takes_lock : Op → Bool
takes_lock (ops.Arith ariths.Cmp d s) = false
takes_lock (ops.Arith o E s) = true
takes_lock (ops.Unary o E) = true
takes_lock (ops.Xchg E s) = true
takes_lock (ops.CmpXchg E s) = true
takes_lock (ops.Xadd E s) = true
takes_lock (ops.BitTest bits.Test d i) = false
takes_lock (ops.BitTest o E i) = true
takes_lock _ = false

abbrev pub with_lock : Row → Row
with_lock row = record row { lock = takes_lock row.op }

abbrev pub profile2_rows : List Row
profile2_rows = map with_lock (profile_rows ++ joined further)
