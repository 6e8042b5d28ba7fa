-- Products and quotients (Intel SDM, volume 2, "MUL", "IMUL", "DIV", "IDIV").
use Rattle.std.specs.Prelude.{ℕ, ◌/◌, ◌%◌, ◌^◌, Bool, true, false, if◌then◌else◌, List, get_or, Option, Some, None, Result, Ok, Err}
use Rattle.rz_num.specs.declared.width.Width.{Width}
use Rattle.rz_num.specs.declared.width.Width.TheVariants.{W8}
use Rattle.rz_num.specs.Width.{size, low_bits}
use Rattle.rz_num.specs.Products.{product, pair, division}
use Rattle.rz_flags.specs.declared.Flags.{Flags}
use Rattle.rz_flags.specs.declared.WideOp.{WideOp}
use Rattle.rz_flags.specs.declared.WideOp.TheVariants.{Mul, Imul, Div, Idiv}
use Rattle.rz_alu.specs.Multiply.{product_flags}
use Rattle.rz_isa.specs.declared.instruction.Reg.TheVariants.{High}
use Rattle.rz_isa.specs.declared.instruction.Place.{Place}
use Rattle.rz_exec.specs.Form.{NewValues, Stop, Divide, Effect}
use Rattle.rz_exec.specs.Registers.{put_reg, put_named}
use Rattle.rz_exec.specs.Operands.{word_of, value_of, new_regs, from_word}

-- ---- two widths: AX at width 8, else RDX for the high half and RAX for the low

-- the high half, not yet cut to the width
abbrev pub high_half : Width → List ℕ → ℕ
high_half W8 regs = get_or regs 0 0 / 2 ^ 8
high_half w regs = get_or regs 2 0

abbrev pub put_pair : Width → List ℕ → ℕ → ℕ → List ℕ
put_pair W8 regs low high = put_named W8 (put_reg W8 regs 0 low) (High 0) high
put_pair w regs low high = put_reg w (put_reg w regs 0 low) 2 high

abbrev pub product_values : Bool → Width → List ℕ → ℕ → Flags → NewValues
product_values signed w regs v flags =
    let p = product w signed (low_bits w (get_or regs 0 0)) (low_bits w v) in
    new_regs (put_pair w regs (p % size w) (p / size w)) (product_flags w signed p flags)

-- the quotient is the low half and the remainder the high; no flag changes
abbrev pub quotient_values : Width → List ℕ → Flags → Option (ℕ × ℕ) → Result NewValues Stop
quotient_values w regs flags None = Err Divide
quotient_values w regs flags (Some d) = Ok (new_regs (put_pair w regs d.0 d.1) flags)

abbrev pub divided : Bool → Width → List ℕ → ℕ → Option (ℕ × ℕ)
divided signed w regs v = division w signed (pair w (low_bits w (high_half w regs)) (low_bits w (get_or regs 0 0))) (low_bits w v)

abbrev pub is_signed : WideOp → Bool
is_signed Mul = false
is_signed Imul = true
is_signed Div = false
is_signed Idiv = true

abbrev pub is_division : WideOp → Bool
is_division Mul = false
is_division Imul = false
is_division Div = true
is_division Idiv = true

abbrev pub wide_values : WideOp → Width → List ℕ → ℕ → Flags → Result NewValues Stop
wide_values op w regs v flags =
    if is_division op then quotient_values w regs flags (divided (is_signed op) w regs v)
    else Ok (product_values (is_signed op) w regs v flags)

abbrev pub wide_effect : WideOp → Width → Place → List ℕ → Flags → Effect
wide_effect op w src regs flags = record {
  accesses = record { first = word_of w regs src; second = None; write = None };
  gives = λ a b. wide_values op w regs (value_of w regs src a) flags;
}

-- ---- one width: the signed product, cut

abbrev pub multiplied : Width → ℕ → List ℕ → ℕ → ℕ → Flags → NewValues
multiplied w dst regs a b flags =
    let p = product w true (low_bits w a) (low_bits w b) in
    new_regs (put_reg w regs dst (p % size w)) (product_flags w true p flags)

abbrev pub imul2_effect : Width → ℕ → Place → List ℕ → Flags → Effect
imul2_effect w dst src regs flags =
    from_word (word_of w regs src) (λ a. multiplied w dst regs (get_or regs dst 0) (value_of w regs src a) flags)

abbrev pub imul3_effect : Width → ℕ → Place → ℕ → List ℕ → Flags → Effect
imul3_effect w dst src imm regs flags =
    from_word (word_of w regs src) (λ a. multiplied w dst regs (value_of w regs src a) imm flags)
