use Rattle.std.specs.Prelude.{ℕ, ℤ, pos, negsuc, ◌+◌, ◌-◌, ◌*◌, ◌/◌, ◌%◌, ◌^◌, ◌==◌, Bool, true, false, nat_lt, nat_le, ◌&&◌, ◌||◌, not, Option, Some, None, if◌then◌else◌}
use Rattle.rz_num.specs.declared.width.Width.{Width}
use Rattle.rz_num.specs.declared.width.Width.TheVariants.{W8, W16, W32, W64}
use Rattle.rz_num.specs.Width.{size}
use Rattle.rz_isa.specs.declared.rows.Row.{Row}
use Rattle.rz_isa.specs.declared.rows.F3Rule.{F3Rule}
use Rattle.rz_isa.specs.declared.rows.F3Rule.TheVariants as f3s
use Rattle.rz_isa.specs.declared.rows.RmRule.{RmRule}
use Rattle.rz_isa.specs.declared.rows.RmRule.TheVariants as rules
use Rattle.rz_isa.specs.declared.rows.Size.{Size}
use Rattle.rz_isa.specs.declared.rows.Size.TheVariants as sizes
use Rattle.rz_isa.specs.declared.rows.ImmKind.{ImmKind}
use Rattle.rz_isa.specs.declared.rows.ImmKind.TheVariants as imms
use Rattle.rz_isa.specs.declared.instruction.Reg.{Reg}
use Rattle.rz_isa.specs.declared.instruction.Reg.TheVariants as regs
use Rattle.rz_isa.specs.declared.instruction.Mem.{Mem}
use Rattle.rz_isa.specs.declared.instruction.Place.{Place}
use Rattle.rz_isa.specs.declared.instruction.Place.TheVariants as places
use Rattle.rz_isa.specs.declared.spelled.Fields.{Fields}
use Rattle.rz_isa.specs.Spelling.{is_met, b_demand}
use Rattle.rz_isa.specs.Fields.{rm_width}

-- Which fields a row can have, at some address. Each field has its own test; two tests join
-- them: a register AH, CH, DH or BH can't stand where a REX is needed, and REX.B is as the row demands.

abbrev pub is_byte : Width → Bool
is_byte W8 = true
is_byte _ = false

abbrev pub is_wide : Width → Bool
is_wide W64 = true
is_wide _ = false

abbrev pub is_half : Width → Bool
is_half W16 = true
is_half _ = false

-- ---- the width

abbrev pub has_width : Size → Width → Bool
has_width sizes.B w = is_byte w
has_width sizes.V w = not (is_byte w)
has_width sizes.D W16 = true
has_width sizes.D W32 = true
has_width sizes.D _ = false
has_width sizes.Y W32 = true
has_width sizes.Y W64 = true
has_width sizes.Y _ = false
has_width sizes.Q w = is_wide w
has_width sizes.WQ w = is_wide w
has_width sizes.N w = is_byte w

-- ---- registers

-- the number that a spelling has for it
abbrev pub code_of : Reg → ℕ
code_of (regs.R n) = n
code_of (regs.High n) = n + 4

abbrev pub is_register : Width → Reg → Bool
is_register w (regs.R n) = nat_lt n 16
is_register w (regs.High n) = is_byte w && nat_lt n 4

abbrev pub is_first : Reg → Bool
is_first (regs.R n) = n == 0
is_first (regs.High n) = false

abbrev pub is_high : Reg → Bool
is_high (regs.R n) = false
is_high (regs.High n) = true

-- SPL, BPL, SIL and DIL stand with REX alone
abbrev pub is_low_byte : Width → Reg → Bool
is_low_byte W8 (regs.R n) = nat_le 4 n
is_low_byte _ r = false

-- the register is in the reg field
abbrev pub in_reg_field : Option RmRule → Option ℕ → Bool
in_reg_field None digit = false
in_reg_field (Some (rules.Fixed b)) digit = false
in_reg_field (Some rule) (Some d) = false
in_reg_field (Some rule) None = true

-- the register is in the opcode
abbrev pub in_opcode : Option RmRule → ℕ → Bool
in_opcode None span = span == 8
in_opcode (Some rule) span = false

abbrev pub has_reg : Row → Width → Reg → Bool
has_reg row w r = if in_reg_field row.rm row.digit || in_opcode row.rm row.span then is_register w r else is_first r

-- ---- memory

abbrev pub is_number : Option ℕ → Bool
is_number None = true
is_number (Some n) = nat_lt n 16

-- register 4 is no index
abbrev pub is_index : Option ℕ → ℕ → Bool
is_index None scale = scale == 1
is_index (Some n) scale = nat_lt n 16 && not (n == 4) && (scale == 1 || scale == 2 || scale == 4 || scale == 8)

abbrev pub is_disp : ℤ → Bool
is_disp (pos n) = nat_lt n (2 ^ 31)
is_disp (negsuc n) = nat_lt n (2 ^ 31)

abbrev pub is_memory : Mem → Bool
is_memory m = is_number m.base && is_index m.index m.scale && is_disp m.disp

abbrev pub names_register : Width → Place → Bool
names_register w (places.Reg r) = is_register w r
names_register w _ = false

abbrev pub names_memory : Place → Bool
names_memory (places.Reg r) = false
names_memory (places.Mem m) = is_memory m
names_memory (places.At a) = nat_lt a (2 ^ 64)

abbrev pub is_first_place : Place → Bool
is_first_place (places.Reg r) = is_first r
is_first_place _ = false

abbrev pub has_place : Option RmRule → Width → Place → Bool
has_place None w p = is_first_place p
has_place (Some (rules.Fixed b)) w p = is_first_place p
has_place (Some rules.Any) w p = names_register w p || names_memory p
has_place (Some rules.MemoryOnly) w p = names_memory p
has_place (Some rules.RegisterOnly) w p = names_register w p

-- ---- the other fields

abbrev pub has_cond : ℕ → ℕ → Bool
has_cond span c = if span == 16 then nat_lt c 16 else c == 0

-- a number that k bits, sign-extended, give at a width: below half or at most half below the top
abbrev pub is_extended : ℕ → ℕ → ℕ → Bool
is_extended half top n = nat_lt n half || (nat_le (top - half) n && nat_lt n top)

abbrev pub has_imm : Option ImmKind → Width → ℕ → Bool
has_imm None w n = n == 0
has_imm (Some imms.Ib) w n = nat_lt n (2 ^ 8)
has_imm (Some imms.Ibs) w n = is_extended (2 ^ 7) (size w) n
has_imm (Some imms.Iw) w n = nat_lt n (2 ^ 16)
has_imm (Some imms.Iz) W64 n = is_extended (2 ^ 31) (2 ^ 64) n
has_imm (Some imms.Iz) w n = nat_lt n (size w)
has_imm (Some imms.Iv) w n = nat_lt n (size w)
has_imm (Some imms.J8) w n = nat_lt n (2 ^ 64)
has_imm (Some imms.J32) w n = nat_lt n (2 ^ 64)

-- the byte of a repeat prefix, or 0
abbrev pub is_repeat : ℕ → Bool
is_repeat n = n == 0 || n == 0xf2 || n == 0xf3

abbrev pub has_rep : F3Rule → ℕ → Bool
has_rep f3s.Repeats n = n == 0 || n == 0xf3
has_rep f3s.RepeatsBoth n = is_repeat n
has_rep _ n = n == 0

-- ---- REX

abbrev pub place_code : Place → ℕ
place_code (places.Reg r) = code_of r
place_code _ = 0

abbrev pub number_in : Option ℕ → ℕ
number_in None = 0
number_in (Some n) = n

abbrev pub w_needed : Size → Width → ℕ
w_needed sizes.WQ w = 1
w_needed sizes.V w = if is_wide w then 1 else 0
w_needed sizes.Y w = if is_wide w then 1 else 0
w_needed _ w = 0

abbrev pub r_needed : Row → Fields → ℕ
r_needed row f = if in_reg_field row.rm row.digit then code_of f.reg / 8 else 0

abbrev pub x_needed : Place → ℕ
x_needed (places.Mem m) = number_in m.index / 8
x_needed _ = 0

abbrev pub place_b : Place → ℕ
place_b (places.Reg r) = code_of r / 8
place_b (places.Mem m) = number_in m.base / 8
place_b (places.At a) = 0

abbrev pub b_needed : Row → Fields → ℕ
b_needed row f = if in_opcode row.rm row.span then code_of f.reg / 8 else place_b f.rm

abbrev pub rex_needed : Row → Fields → ℕ
rex_needed row f = 8 * w_needed row.size f.w + 4 * r_needed row f + 2 * x_needed f.rm + b_needed row f

abbrev pub low_byte_place : Width → Place → Bool
low_byte_place w (places.Reg r) = is_low_byte w r
low_byte_place w _ = false

abbrev pub high_place : Place → Bool
high_place (places.Reg r) = is_high r
high_place _ = false

abbrev pub needs_rex : Row → Fields → Bool
needs_rex row f = nat_lt 0 (rex_needed row f) || is_low_byte f.w f.reg || low_byte_place (rm_width row.op f.w) f.rm

abbrev pub bars_rex : Fields → Bool
bars_rex f = is_high f.reg || high_place f.rm

-- ---- the opcode

abbrev pub opcode_of : Row → Fields → ℕ
opcode_of row f = row.opcode + (if in_opcode row.rm row.span then code_of f.reg % 8 else f.cond)

-- ---- all of it

abbrev pub can_have : Row → Fields → Bool
can_have row f =
    has_width row.size f.w && has_reg row f.w f.reg && has_place row.rm (rm_width row.op f.w) f.rm && has_cond row.span f.cond
    && has_imm row.imm f.w f.imm && has_rep row.f3 f.rep
    && not (bars_rex f && needs_rex row f) && is_met (b_demand row.op row.map (opcode_of row f)) (b_needed row f)
