use Rattle.std.specs.Prelude.{ℕ, ◌≡◌, ◌+◌, ◌/◌, ◌%◌, Bool, true, false, nat_lt, nat_le, ◌==◌, ◌&&◌, ◌||◌, not, List, [], ◌∷◌, ◌++◌, length, Option, Some, None, if◌then◌else◌, count_by, IsTrue}
use Rattle.std.specs.List.{list_all}
use Rattle.rz_num.specs.declared.width.Width.{Width}
use Rattle.rz_num.specs.declared.width.Width.TheVariants.{W8, W16, W32, W64}
use Rattle.rz_isa.specs.declared.rows.Row.{Row}
use Rattle.rz_isa.specs.declared.rows.OpMap.{OpMap}
use Rattle.rz_isa.specs.declared.rows.OpMap.TheVariants as maps
use Rattle.rz_isa.specs.declared.rows.F3Rule.{F3Rule}
use Rattle.rz_isa.specs.declared.rows.F3Rule.TheVariants as f3s
use Rattle.rz_isa.specs.declared.rows.RmRule.{RmRule}
use Rattle.rz_isa.specs.declared.rows.RmRule.TheVariants as rules
use Rattle.rz_isa.specs.declared.rows.Size.{Size}
use Rattle.rz_isa.specs.declared.rows.Size.TheVariants as sizes
use Rattle.rz_isa.specs.declared.rows.ImmKind.{ImmKind}
use Rattle.rz_isa.specs.declared.rows.ImmKind.TheVariants as imms
use Rattle.rz_isa.specs.declared.rows.Letter.TheVariants as letters
use Rattle.rz_isa.specs.declared.rows.Op.{Op}
use Rattle.rz_isa.specs.declared.rows.Op.TheVariants as ops
use Rattle.rz_num.specs.Bytes.{are_bytes}

-- ---- the parts of an instruction (Intel SDM, volume 2, figure 2-1)

pub record Parts : Type 0 where
  -- the legacy prefixes, in their order
  pub prefixes : List ℕ
  pub rex : Option ℕ
  -- the opcode's last byte
  pub opcode : ℕ
  -- ModRM, SIB and displacement
  pub rm : List ℕ
  pub imm : List ℕ

abbrev pub rex_bytes : Option ℕ → List ℕ
rex_bytes None = []
rex_bytes (Some b) = b ∷ []

abbrev pub escape : OpMap → List ℕ
escape maps.One = []
escape maps.Two = 0x0f ∷ []

-- the parts in their order; REX stands directly before the opcode
abbrev pub bytes_of : Row → Parts → List ℕ
bytes_of row p = p.prefixes ++ (rex_bytes p.rex ++ (escape row.map ++ (p.opcode ∷ (p.rm ++ p.imm))))

-- ---- what a row demands of a number: nothing, or one value

abbrev pub is_met : Option ℕ → ℕ → Bool
is_met None n = true
is_met (Some d) n = n == d

abbrev pub clash : Option ℕ → Option ℕ → Bool
clash (Some d) (Some e) = not (d == e)
clash _ _ = false

-- ---- legacy prefixes (volume 2, section 2.1.1)

abbrev pub is_prefix : ℕ → Bool
is_prefix b = b == 0x2e || b == 0x3e || b == 0x66 || b == 0x67 || b == 0xf0 || b == 0xf2 || b == 0xf3

abbrev pub times : ℕ → List ℕ → ℕ
times b ps = count_by (λ x. x == b) ps

abbrev pub is_one : OpMap → Bool
is_one maps.One = true
is_one maps.Two = false

abbrev pub takes_66 : Size → Bool
takes_66 sizes.V = true
takes_66 sizes.D = true
takes_66 _ = false

-- the Nop of several bytes, 0F 1F, takes 66 as often as there is room
abbrev pub most_66 : Row → ℕ
most_66 row = if not (is_one row.map) && row.opcode == 0x1f then 15 else if takes_66 row.size then 1 else 0

-- 67 stands on E8 alone
abbrev pub most_67 : Row → ℕ
most_67 row = if is_one row.map && row.opcode == 0xe8 then 1 else 0

-- F2 stands on a row that both repeat prefixes repeat
abbrev pub most_f2 : F3Rule → ℕ
most_f2 f3s.RepeatsBoth = 1
most_f2 _ = 0

-- whether some ModRM byte that the row takes names memory
abbrev pub may_name_memory : Option RmRule → Bool
may_name_memory (Some rules.Any) = true
may_name_memory (Some rules.MemoryOnly) = true
may_name_memory _ = false

abbrev pub most_f0 : Row → ℕ
most_f0 row = if row.lock && may_name_memory row.rm then 1 else 0

-- how often a byte may stand before a row's opcode
abbrev pub most : Row → ℕ → ℕ
most row b =
    if b == 0x2e || b == 0x3e then 1
    else if b == 0x66 then most_66 row
    else if b == 0x67 then most_67 row
    else if b == 0xf0 then most_f0 row
    else if b == 0xf2 then most_f2 row.f3
    else if b == 0xf3 then 1
    else 0

-- how often F3 has to stand
abbrev pub f3_demand : F3Rule → Option ℕ
f3_demand f3s.No = Some 0
f3_demand f3s.Required = Some 1
f3_demand _ = None

-- in any order, none more often than the row allows
abbrev pub is_allowed : Row → List ℕ → Bool
is_allowed row ps = list_all (λ b. nat_le (times b ps) (most row b)) ps

-- F2 and F3 don't stand together
abbrev pub one_repeat : List ℕ → Bool
one_repeat ps = nat_le (times 0xf2 ps + times 0xf3 ps) 1

abbrev pub prefixes_fit : Row → List ℕ → Bool
prefixes_fit row ps = is_allowed row ps && is_met (f3_demand row.f3) (times 0xf3 ps) && one_repeat ps

-- where F0 stands the ModRM byte names memory
abbrev pub rm_is_memory : List ℕ → Bool
rm_is_memory [] = true
rm_is_memory (m ∷ rest) = not (m / 64 == 3)

abbrev pub lock_fits : List ℕ → List ℕ → Bool
lock_fits ps rm = times 0xf0 ps == 0 || rm_is_memory rm

-- ---- REX (volume 2, section 2.2.1)

abbrev pub is_rex : ℕ → Bool
is_rex b = nat_le 0x40 b && nat_lt b 0x50

abbrev pub rex_fits : Option ℕ → Bool
rex_fits None = true
rex_fits (Some b) = is_rex b

-- the bits W, R, X and B, all clear where there is no REX
abbrev pub rex_low : Option ℕ → ℕ
rex_low None = 0
rex_low (Some b) = b % 16

abbrev pub bit_w : Option ℕ → ℕ
bit_w rex = rex_low rex / 8

abbrev pub bit_r : Option ℕ → ℕ
bit_r rex = rex_low rex / 4 % 2

abbrev pub bit_x : Option ℕ → ℕ
bit_x rex = rex_low rex / 2 % 2

abbrev pub bit_b : Option ℕ → ℕ
bit_b rex = rex_low rex % 2

abbrev pub w_demand : Size → Option ℕ
w_demand sizes.WQ = Some 1
w_demand sizes.D = Some 0
w_demand _ = None

-- ---- the opcode (volume 2, section 2.1.2)

abbrev pub opcode_fits : Row → ℕ → Bool
opcode_fits row o = nat_le row.opcode o && nat_lt o (row.opcode + row.span)

-- 90 without REX.B is no exchange but a Nop
abbrev pub b_demand : Op → OpMap → ℕ → Option ℕ
b_demand (ops.Xchg letters.O letters.A) m o = if o == 0x90 then Some 1 else None
b_demand ops.Nop maps.One o = if o == 0x90 then Some 0 else None
b_demand _ m o = None

-- ---- ModRM, SIB and displacement (volume 2, sections 2.1.3 and 2.1.5)

-- the bytes of the displacement by mod and the base's low bits; mod 00 with 101 has four
abbrev pub disp_len : ℕ → ℕ → ℕ
disp_len mode base = if mode == 1 then 1 else if mode == 2 then 4 else if mode == 0 && base == 5 then 4 else 0

-- how many bytes they have, by the ModRM byte and the byte behind it
abbrev pub rm_len : ℕ → ℕ → ℕ
rm_len m sib =
    if m / 64 == 3 then 1
    else if m % 8 == 4 then 2 + disp_len (m / 64) (sib % 8)
    else 1 + disp_len (m / 64) (m % 8)

abbrev pub second : List ℕ → ℕ
second (m ∷ sib ∷ rest) = sib
second _ = 0

abbrev pub rule_fits : RmRule → ℕ → Bool
rule_fits rules.Any m = true
rule_fits rules.MemoryOnly m = not (m / 64 == 3)
rule_fits rules.RegisterOnly m = m / 64 == 3
rule_fits (rules.Fixed b) m = m == b

abbrev pub rm_fits : Option RmRule → Option ℕ → List ℕ → Bool
rm_fits None d [] = true
rm_fits None d (m ∷ rest) = false
rm_fits (Some rule) d [] = false
rm_fits (Some rule) d (m ∷ rest) = rule_fits rule m && is_met d (m / 8 % 8) && 1 + length rest == rm_len m (second (m ∷ rest))

-- ---- width and immediate (volume 2, sections 2.2.1.2, 2.2.1.5 and 3.1.1)

-- by the size class, REX.W and how often 66 stands
abbrev pub width_of : Size → ℕ → ℕ → Width
width_of sizes.B w n = W8
width_of sizes.V w n = if w == 1 then W64 else if n == 0 then W32 else W16
width_of sizes.D w n = if n == 0 then W32 else W16
width_of sizes.Y w n = if w == 1 then W64 else W32
width_of sizes.Q w n = W64
width_of sizes.WQ w n = W64
width_of sizes.N w n = W8

abbrev pub width_at : Row → Parts → Width
width_at row p = width_of row.size (bit_w p.rex) (times 0x66 p.prefixes)

abbrev pub full_len : Width → ℕ
full_len W8 = 1
full_len W16 = 2
full_len W32 = 4
full_len W64 = 8

abbrev pub imm_len : Option ImmKind → Width → ℕ
imm_len None w = 0
imm_len (Some imms.Ib) w = 1
imm_len (Some imms.Ibs) w = 1
imm_len (Some imms.Iw) w = 2
imm_len (Some imms.Iz) W16 = 2
imm_len (Some imms.Iz) _ = 4
imm_len (Some imms.Iv) w = full_len w
imm_len (Some imms.J8) w = 1
imm_len (Some imms.J32) w = 4

-- ---- the parts that a row takes

pub record Fits (row : Row) (p : Parts) : Type 0 where
  pub prefixes : IsTrue (prefixes_fit row p.prefixes)
  pub lock : IsTrue (lock_fits p.prefixes p.rm)
  pub rex : IsTrue (rex_fits p.rex)
  pub w : IsTrue (is_met (w_demand row.size) (bit_w p.rex))
  pub opcode : IsTrue (opcode_fits row p.opcode)
  pub b : IsTrue (is_met (b_demand row.op row.map p.opcode) (bit_b p.rex))
  pub rm : IsTrue (rm_fits row.rm row.digit p.rm)
  pub imm : IsTrue (length p.imm == imm_len row.imm (width_at row p))

-- the row spells the bytes with these parts; 15 bytes at most (volume 2, section 2.3.11)
pub record SpelledBy (row : Row) (p : Parts) (s : List ℕ) : Type 0 where
  pub bytes : s ≡ bytes_of row p
  pub fits : Fits row p
  pub all : IsTrue (are_bytes s)
  pub short : IsTrue (nat_le (length s) 15)
