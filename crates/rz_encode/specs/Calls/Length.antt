use Rattle.std.specs.Prelude.{ℕ, ℤ, ◌+◌, ◌%◌, ◌==◌, Bool, not, Option, Some, None, if◌then◌else◌}
use Rattle.rz_isa.specs.declared.rows.Row.{Row}
use Rattle.rz_isa.specs.declared.rows.OpMap.{OpMap}
use Rattle.rz_isa.specs.declared.rows.OpMap.TheVariants as maps
use Rattle.rz_isa.specs.declared.rows.RmRule.{RmRule}
use Rattle.rz_isa.specs.declared.rows.RmRule.TheVariants as rules
use Rattle.rz_isa.specs.declared.instruction.Place.{Place}
use Rattle.rz_isa.specs.declared.instruction.Place.TheVariants as places
use Rattle.rz_isa.specs.declared.spelled.Fields.{Fields}
use Rattle.rz_isa.specs.Spelling.{imm_len}
use Rattle.rz_isa.specs.Having.{is_half, needs_rex}
use Rattle.rz_isa.specs.Canonical.{repeat_prefix, mode_of}

-- How many bytes a canonical spelling has, part by part; no address counts.

abbrev pub one_if : Bool → ℕ
one_if b = if b then 1 else 0

abbrev pub escape_count : OpMap → ℕ
escape_count maps.One = 0
escape_count maps.Two = 1

abbrev pub disp_count : ℕ → ℕ
disp_count mode = if mode == 0 then 0 else if mode == 1 then 1 else 4

abbrev pub head_count : ℕ → Option ℕ → ℕ
head_count low None = if low == 4 then 2 else 1
head_count low (Some i) = 2

abbrev pub memory_count : Option ℕ → Option ℕ → ℤ → ℕ
memory_count None index disp = 6
memory_count (Some b) index disp = head_count (b % 8) index + disp_count (mode_of (b % 8) disp)

abbrev pub place_count : Place → ℕ
place_count (places.Reg r) = 1
place_count (places.Mem m) = memory_count m.base m.index m.disp
place_count (places.At a) = 5

abbrev pub rm_count : Option RmRule → Place → ℕ
rm_count None p = 0
rm_count (Some (rules.Fixed b)) p = 1
rm_count (Some rule) p = place_count p

-- 66, the repeat prefix, REX, the escape, the opcode, ModRM to displacement, immediate
abbrev pub spelled_count : Row → Fields → ℕ
spelled_count row f =
    one_if (is_half f.w) + (one_if (not (repeat_prefix row.f3 f.rep == 0)) + (one_if (needs_rex row f) + (escape_count row.map + (1 + (rm_count row.rm f.rm + imm_len row.imm f.w)))))
