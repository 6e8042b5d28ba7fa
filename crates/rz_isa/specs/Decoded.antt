use Rattle.std.specs.Prelude.{ℕ, ◌+◌, ◌-◌, ◌/◌, ◌%◌, ◌^◌, ◌==◌, Bool, true, ◌&&◌, nat_le, List, [], ◌∷◌, ◌++◌, length, take, drop, Option, Some, None, if◌then◌else◌}
use Rattle.std.specs.List.{take_while}
use Rattle.rz_num.specs.declared.width.Width.{Width}
use Rattle.rz_isa.specs.declared.decoding.Decoded.{Decoded}
use Rattle.rz_isa.specs.declared.decoding.Decoded.TheVariants as decodeds
use Rattle.rz_isa.specs.declared.rows.Row.{Row}
use Rattle.rz_isa.specs.declared.rows.OpMap.TheVariants as maps
use Rattle.rz_isa.specs.declared.rows.F3Rule.{F3Rule}
use Rattle.rz_isa.specs.declared.rows.F3Rule.TheVariants as f3s
use Rattle.rz_isa.specs.declared.rows.RmRule.{RmRule}
use Rattle.rz_isa.specs.declared.rows.Size.{Size}
use Rattle.rz_isa.specs.declared.rows.Size.TheVariants as sizes
use Rattle.rz_isa.specs.Spelling.{Parts, is_prefix, rex_bytes, escape, is_met, times, prefixes_fit, lock_fits, w_demand, b_demand, opcode_fits, rule_fits, rm_len, second, imm_len, width_of, bit_w, bit_b}
use Rattle.rz_isa.specs.Reading.{Opcode, skip_while, rex_at, behind_rex}
use Rattle.rz_isa.specs.Table.{same_map}
use Rattle.rz_isa.specs.Fields.{fields, build_op}

-- What stands at the front of bytes, for any table: the first row that takes it decides, since no
-- bytes are spelled by two rows and no spelling is a proper front of another.

-- ---- the front by one row (Intel SDM, volume 2, figure 2-1)

-- prefixes, REX, opcode, and the bytes behind the opcode. Where the bytes have ended, the least
-- that the row asks for stands there: F3 where it is required, REX.W where it is required, the
-- row's last opcode
pub record Front : Type 0 where
  pub prefixes : List ℕ
  pub rex : Option ℕ
  pub opcode : Opcode

abbrev pub missing_f3 : F3Rule → List ℕ → List ℕ
missing_f3 f3s.Required ps = if times 0xf3 ps == 0 then 0xf3 ∷ [] else []
missing_f3 _ ps = []

abbrev pub least_rex : Size → Option ℕ
least_rex sizes.WQ = Some 0x48
least_rex _ = None

-- 90, where REX.B counts, is no row's last opcode but where it is its only one
abbrev pub last_opcode : Row → ℕ
last_opcode row = row.opcode + row.span - 1

abbrev pub second_for : Row → List ℕ → Opcode
second_for row [] = record { map = maps.Two; byte = last_opcode row; rest = [] }
second_for row (b ∷ bs) = record { map = maps.Two; byte = b; rest = bs }

abbrev pub opcode_for : Row → List ℕ → Opcode
opcode_for row [] = record { map = row.map; byte = last_opcode row; rest = [] }
opcode_for row (b ∷ bs) = if b == 0x0f then second_for row bs else record { map = maps.One; byte = b; rest = bs }

abbrev pub front_by : Row → List ℕ → List ℕ → Front
front_by row ps [] = record { prefixes = ps ++ missing_f3 row.f3 ps; rex = least_rex row.size; opcode = opcode_for row [] }
front_by row ps (t ∷ ts) = record { prefixes = ps; rex = rex_at (t ∷ ts); opcode = opcode_for row (behind_rex (t ∷ ts)) }

abbrev pub front_at : Row → List ℕ → Front
front_at row bytes = front_by row (take_while is_prefix bytes) (skip_while is_prefix bytes)

-- ---- how many bytes the shortest spelling by the row with this front has

-- ModRM, SIB and displacement (volume 2, sections 2.1.3 to 2.1.5); a missing ModRM byte can ask for no more
abbrev pub rm_part : Option RmRule → List ℕ → ℕ
rm_part None rest = 0
rm_part (Some rule) [] = 1
rm_part (Some rule) (m ∷ rest) = rm_len m (second (m ∷ rest))

abbrev pub front_width : Row → Front → Width
front_width row f = width_of row.size (bit_w f.rex) (times 0x66 f.prefixes)

abbrev pub imm_part : Row → Front → ℕ
imm_part row f = imm_len row.imm (front_width row f)

abbrev pub front_len : Row → Front → ℕ
front_len row f = length f.prefixes + (length (rex_bytes f.rex) + (length (escape row.map) + (1 + (rm_part row.rm f.opcode.rest + imm_part row f))))

-- ---- whether the row takes the front

-- the ModRM byte behind the opcode, where it is there
abbrev pub takes_rm : Option RmRule → Option ℕ → List ℕ → Bool
takes_rm (Some rule) digit (m ∷ rest) = rule_fits rule m && is_met digit (m / 8 % 8)
takes_rm _ digit rest = true

-- with a spelling of at most 15 bytes (volume 2, section 2.3.11)
abbrev pub suits : Row → Front → Bool
suits row f =
    same_map row.map f.opcode.map && opcode_fits row f.opcode.byte && prefixes_fit row f.prefixes && is_met (w_demand row.size) (bit_w f.rex) && is_met (b_demand row.op row.map f.opcode.byte) (bit_b f.rex)
    && takes_rm row.rm row.digit f.opcode.rest && lock_fits f.prefixes f.opcode.rest && nat_le (front_len row f) 15

abbrev pub serves : List ℕ → Row → Bool
serves bytes row = suits row (front_at row bytes)

-- ---- what the first row that takes it says

-- the parts, where all of them are there
abbrev pub parts_of : Row → Front → Parts
parts_of row f = let n = rm_part row.rm f.opcode.rest in record {
  prefixes = f.prefixes;
  rex = f.rex;
  opcode = f.opcode.byte;
  rm = take n f.opcode.rest;
  imm = take (imm_part row f) (drop n f.opcode.rest);
}

abbrev pub first_row : (Row → Bool) → List Row → Option Row
first_row p [] = None
first_row p (row ∷ rows) = if p row then Some row else first_row p rows

-- an instruction where the whole spelling is there
abbrev pub decoded_by : List ℕ → ℕ → Option Row → Decoded
decoded_by bytes at None = decodeds.Unknown
decoded_by bytes at (Some row) =
    let f = front_at row bytes in
    let n = front_len row f in
    if nat_le n (length bytes) then decodeds.Insn (build_op row.op (fields row (parts_of row f) ((at + n) % 2 ^ 64))) n else decodeds.Short

-- what stands at the front of the bytes, at an address: an instruction with its length, an
-- unfinished spelling, or neither
abbrev pub decoded : List Row → List ℕ → ℕ → Decoded
decoded rows bytes at = decoded_by bytes at (first_row (serves bytes) rows)
