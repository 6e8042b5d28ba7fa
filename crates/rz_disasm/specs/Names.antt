-- The names of operations that a field of the instruction tells apart (Intel SDM, volume 2, the entry of each instruction).
use Rattle.std.specs.Prelude.{ℕ, Bool, true, false, List, ◌++◌, codes}
use Rattle.rz_num.specs.declared.width.Width.{Width}
use Rattle.rz_num.specs.declared.width.Width.TheVariants.{W8, W16, W32, W64}
use Rattle.rz_flags.specs.declared.Cond.{Cond}
use Rattle.rz_flags.specs.declared.Cond.TheVariants as conds
use Rattle.rz_flags.specs.declared.ArithOp.{ArithOp}
use Rattle.rz_flags.specs.declared.ArithOp.TheVariants as ariths
use Rattle.rz_flags.specs.declared.UnaryOp.{UnaryOp}
use Rattle.rz_flags.specs.declared.UnaryOp.TheVariants as unaries
use Rattle.rz_flags.specs.declared.WideOp.{WideOp}
use Rattle.rz_flags.specs.declared.WideOp.TheVariants as wides
use Rattle.rz_flags.specs.declared.ShiftOp.{ShiftOp}
use Rattle.rz_flags.specs.declared.ShiftOp.TheVariants as shifts
use Rattle.rz_flags.specs.declared.BitOp.{BitOp}
use Rattle.rz_flags.specs.declared.BitOp.TheVariants as bits
use Rattle.rz_flags.specs.declared.ScanOp.{ScanOp}
use Rattle.rz_flags.specs.declared.ScanOp.TheVariants as scans
use Rattle.rz_flags.specs.declared.FlagOp.{FlagOp}
use Rattle.rz_flags.specs.declared.FlagOp.TheVariants as flags
use Rattle.rz_isa.specs.declared.instruction.Rep.{Rep}
use Rattle.rz_isa.specs.declared.instruction.Rep.TheVariants as reps

-- the ending of a condition (volume 2, appendix B.1)
abbrev pub cond_name : Cond → List ℕ
cond_name conds.O = codes "o"
cond_name conds.NO = codes "no"
cond_name conds.B = codes "b"
cond_name conds.AE = codes "ae"
cond_name conds.E = codes "e"
cond_name conds.NE = codes "ne"
cond_name conds.BE = codes "be"
cond_name conds.A = codes "a"
cond_name conds.S = codes "s"
cond_name conds.NS = codes "ns"
cond_name conds.P = codes "p"
cond_name conds.NP = codes "np"
cond_name conds.L = codes "l"
cond_name conds.GE = codes "ge"
cond_name conds.LE = codes "le"
cond_name conds.G = codes "g"

abbrev pub arith_name : ArithOp → List ℕ
arith_name ariths.Add = codes "add"
arith_name ariths.Or = codes "or"
arith_name ariths.Adc = codes "adc"
arith_name ariths.Sbb = codes "sbb"
arith_name ariths.And = codes "and"
arith_name ariths.Sub = codes "sub"
arith_name ariths.Xor = codes "xor"
arith_name ariths.Cmp = codes "cmp"

abbrev pub unary_name : UnaryOp → List ℕ
unary_name unaries.Inc = codes "inc"
unary_name unaries.Dec = codes "dec"
unary_name unaries.Not = codes "not"
unary_name unaries.Neg = codes "neg"

abbrev pub wide_name : WideOp → List ℕ
wide_name wides.Mul = codes "mul"
wide_name wides.Imul = codes "imul"
wide_name wides.Div = codes "div"
wide_name wides.Idiv = codes "idiv"

abbrev pub shift_name : ShiftOp → List ℕ
shift_name shifts.Rol = codes "rol"
shift_name shifts.Ror = codes "ror"
shift_name shifts.Shl = codes "shl"
shift_name shifts.Shr = codes "shr"
shift_name shifts.Sar = codes "sar"
shift_name shifts.Rcl = codes "rcl"
shift_name shifts.Rcr = codes "rcr"

-- to the left or to the right
abbrev pub double_shift_name : Bool → List ℕ
double_shift_name true = codes "shld"
double_shift_name false = codes "shrd"

abbrev pub bit_name : BitOp → List ℕ
bit_name bits.Test = codes "bt"
bit_name bits.Set = codes "bts"
bit_name bits.Reset = codes "btr"
bit_name bits.Complement = codes "btc"

abbrev pub scan_name : ScanOp → List ℕ
scan_name scans.Bsf = codes "bsf"
scan_name scans.Bsr = codes "bsr"
scan_name scans.Tzcnt = codes "tzcnt"
scan_name scans.Lzcnt = codes "lzcnt"
scan_name scans.Popcnt = codes "popcnt"

abbrev pub flag_name : FlagOp → List ℕ
flag_name flags.Clc = codes "clc"
flag_name flags.Stc = codes "stc"
flag_name flags.Cmc = codes "cmc"
flag_name flags.Cld = codes "cld"
flag_name flags.Std = codes "std"

-- an extension by sign or by zeros, and from which width: by sign from 32 bits it has a name of its own
abbrev pub extend_name : Bool → Width → List ℕ
extend_name true W32 = codes "movsxd"
extend_name true _ = codes "movsx"
extend_name false _ = codes "movzx"

-- the accumulator extended by its sign, to a width
abbrev pub convert_name : Width → List ℕ
convert_name W64 = codes "cdqe"
convert_name W32 = codes "cwde"
convert_name _ = codes "cbw"

-- its sign in all of the register of the high half
abbrev pub sign_fill_name : Width → List ℕ
sign_fill_name W64 = codes "cqo"
sign_fill_name W32 = codes "cdq"
sign_fill_name _ = codes "cwd"

-- the ending of a string operation's width
abbrev pub element_name : Width → List ℕ
element_name W8 = codes "b"
element_name W16 = codes "w"
element_name W32 = codes "d"
element_name W64 = codes "q"

-- a string operation by its stem, repeated or not
abbrev pub string_name : Bool → List ℕ → Width → List ℕ
string_name true stem w = codes "rep " ++ (stem ++ element_name w)
string_name false stem w = stem ++ element_name w

-- a comparison of strings by its stem, and while what it repeats
abbrev pub comparison_name : Rep → List ℕ → Width → List ℕ
comparison_name reps.No stem w = stem ++ element_name w
comparison_name reps.WhileEqual stem w = codes "repe " ++ (stem ++ element_name w)
comparison_name reps.WhileNot stem w = codes "repne " ++ (stem ++ element_name w)
