use Rattle.std.specs.Prelude.{ℕ, ◌==◌, Bool, true, false, not, ◌&&◌, ◌||◌, List, [], ◌∷◌, Option, Some, None, if◌then◌else◌}
use Rattle.std.specs.List.{list_all}
use Rattle.rz_isa.specs.declared.rows.Row.{Row}
use Rattle.rz_isa.specs.declared.rows.RmRule.{RmRule}
use Rattle.rz_isa.specs.declared.rows.RmRule.TheVariants as rules
use Rattle.rz_isa.specs.declared.rows.F3Rule.{F3Rule}
use Rattle.rz_isa.specs.declared.rows.F3Rule.TheVariants as f3s
use Rattle.rz_isa.specs.declared.rows.Size.{Size}
use Rattle.rz_isa.specs.declared.rows.Size.TheVariants as sizes
use Rattle.rz_isa.specs.declared.rows.ImmKind.{ImmKind}
use Rattle.rz_isa.specs.declared.rows.ImmKind.TheVariants as imms
use Rattle.rz_isa.specs.declared.rows.Form.{Form}
use Rattle.rz_isa.specs.declared.rows.Form.TheVariants as forms
use Rattle.rz_isa.specs.declared.rows.Letter.{Letter}
use Rattle.rz_isa.specs.declared.rows.Letter.TheVariants as letters
use Rattle.rz_isa.specs.declared.rows.Op.{Op}
use Rattle.rz_isa.specs.declared.rows.Op.TheVariants as ops
use Rattle.rz_isa.specs.Spelling.{is_one, opcode_fits}
use Rattle.rz_isa.specs.Having.{in_reg_field, in_opcode}
use Rattle.rz_isa.specs.Finding.{same_truth}

-- Whether the letters of an operation suit its row: each takes what the row has (Intel SDM,
-- volume 2, section 3.1.1.3, and appendix A, section A.2).

abbrev pub letters_of : Op → List Letter
letters_of (ops.Arith o d s) = d ∷ (s ∷ [])
letters_of (ops.Test d s) = d ∷ (s ∷ [])
letters_of (ops.Mov d s) = d ∷ (s ∷ [])
letters_of (ops.Lea d s) = d ∷ (s ∷ [])
letters_of (ops.Extend o d s) = d ∷ (s ∷ [])
letters_of (ops.Push s) = s ∷ []
letters_of (ops.Pop d) = d ∷ []
letters_of (ops.Unary o d) = d ∷ []
letters_of (ops.Wide o s) = s ∷ []
letters_of (ops.Imul2 d s) = d ∷ (s ∷ [])
letters_of (ops.Imul3 d s i) = d ∷ (s ∷ (i ∷ []))
letters_of (ops.Shift o d c) = d ∷ (c ∷ [])
letters_of (ops.DoubleShift o d s c) = d ∷ (s ∷ (c ∷ []))
letters_of (ops.Cmov d s) = d ∷ (s ∷ [])
letters_of (ops.Set d) = d ∷ []
letters_of (ops.CallInd s) = s ∷ []
letters_of (ops.JmpInd s) = s ∷ []
letters_of (ops.Xchg d s) = d ∷ (s ∷ [])
letters_of (ops.CmpXchg d s) = d ∷ (s ∷ [])
letters_of (ops.Xadd d s) = d ∷ (s ∷ [])
letters_of (ops.Bswap d) = d ∷ []
letters_of (ops.BitTest o d i) = d ∷ (i ∷ [])
letters_of (ops.Scan o d s) = d ∷ (s ∷ [])
letters_of _ = []

abbrev pub is_any : Option RmRule → Bool
is_any (Some rules.Any) = true
is_any _ = false

abbrev pub is_memory_only : Option RmRule → Bool
is_memory_only (Some rules.MemoryOnly) = true
is_memory_only _ = false

abbrev pub is_register_only : Option RmRule → Bool
is_register_only (Some rules.RegisterOnly) = true
is_register_only _ = false

-- a displacement from the next address
abbrev pub is_displacement : Option ImmKind → Bool
is_displacement (Some imms.J8) = true
is_displacement (Some imms.J32) = true
is_displacement _ = false

-- an immediate that is no displacement
abbrev pub is_immediate : Option ImmKind → Bool
is_immediate None = false
is_immediate k = not (is_displacement k)

-- G stands in the reg field of a ModRM byte without a digit, O in one of eight opcodes
abbrev pub letter_suits : Row → Letter → Bool
letter_suits r letters.E = is_any r.rm
letter_suits r letters.E8 = is_any r.rm
letter_suits r letters.E16 = is_any r.rm
letter_suits r letters.E32 = is_any r.rm
letter_suits r letters.M = is_memory_only r.rm
letter_suits r letters.Er = is_register_only r.rm
letter_suits r letters.G = in_reg_field r.rm r.digit
letter_suits r letters.O = in_opcode r.rm r.span
letter_suits r letters.Imm = is_immediate r.imm
letter_suits r _ = true

-- the operations with a condition, with a target, and those that repeat
abbrev pub has_condition : Op → Bool
has_condition (ops.Cmov d s) = true
has_condition (ops.Set d) = true
has_condition ops.Jcc = true
has_condition _ = false

abbrev pub has_target : Op → Bool
has_target ops.Jcc = true
has_target ops.Jrcxz = true
has_target ops.Jmp = true
has_target ops.Call = true
has_target _ = false

abbrev pub has_repeat : Op → Bool
has_repeat ops.Movs = true
has_repeat ops.Stos = true
has_repeat _ = false

abbrev pub is_repeats : F3Rule → Bool
is_repeats f3s.Repeats = true
is_repeats _ = false

-- what prefixes may stand is asked of a row's first opcode: at E8 and at 0F 1F it has no other
abbrev pub stands_alone_at : Row → ℕ → Bool
stands_alone_at r o = not (opcode_fits r o) || r.span == 1

-- the operations that F2 and F3 repeat in two ways
abbrev pub has_two_repeats : Op → Bool
has_two_repeats ops.Cmps = true
has_two_repeats ops.Scas = true
has_two_repeats _ = false

abbrev pub is_repeats_both : F3Rule → Bool
is_repeats_both f3s.RepeatsBoth = true
is_repeats_both _ = false

-- the letter of the place that an operation writes
abbrev pub destination_of : Op → Option Letter
destination_of (ops.Arith o d s) = Some d
destination_of (ops.Mov d s) = Some d
destination_of (ops.Pop d) = Some d
destination_of (ops.Unary o d) = Some d
destination_of (ops.Shift o d c) = Some d
destination_of (ops.DoubleShift o d s c) = Some d
destination_of (ops.Set d) = Some d
destination_of (ops.Xchg d s) = Some d
destination_of (ops.CmpXchg d s) = Some d
destination_of (ops.Xadd d s) = Some d
destination_of (ops.BitTest o d i) = Some d
destination_of _ = None

abbrev pub is_rm_letter : Option Letter → Bool
is_rm_letter (Some letters.E) = true
is_rm_letter (Some letters.M) = true
is_rm_letter _ = false

-- where F0 may stand the destination is in the ModRM byte
abbrev pub lock_suits : Row → Bool
lock_suits r = not r.lock || is_rm_letter (destination_of r.op)

abbrev pub prefixes_suit : Row → Bool
prefixes_suit r = (if is_one r.map then stands_alone_at r 0xe8 else stands_alone_at r 0x1f) && same_truth (has_two_repeats r.op) (is_repeats_both r.f3) && lock_suits r

-- an indirect call or jump reads 64 bits
abbrev pub is_indirect : Op → Bool
is_indirect (ops.CallInd s) = true
is_indirect (ops.JmpInd s) = true
is_indirect _ = false

abbrev pub is_wide_class : Size → Bool
is_wide_class sizes.Q = true
is_wide_class sizes.WQ = true
is_wide_class _ = false

-- a row of the short form has a displacement from the next address: it has a direct target
abbrev pub form_suits : Form → Option ImmKind → Bool
form_suits forms.Short k = is_displacement k
form_suits forms.Near k = true

abbrev pub is_suited : Row → Bool
is_suited r =
    list_all (letter_suits r) (letters_of r.op) && same_truth (has_condition r.op) (r.span == 16) && same_truth (has_target r.op) (is_displacement r.imm)
    && same_truth (has_repeat r.op) (is_repeats r.f3) && prefixes_suit r && (not (is_indirect r.op) || is_wide_class r.size)
    && form_suits r.form r.imm
