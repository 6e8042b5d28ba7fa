-- What bytes decode to names registers, whatever the rows: no field of a spelling has a number that no register has.
use Rattle.std.proofs.Common.{◌≡◌, ℕ, ◌+◌, ◌-◌, ◌*◌, ◌/◌, ◌%◌, ◌==◌, ◌<◌, true, ◌&&◌, nat_lt, nat_le, List, [], ◌∷◌, length, Option, Some, None, refl, sym, subst, arith}
use Rattle.std.proofs.lemmas.Bool.{cond_both, lt-ltb, ltb-true, and_from}
use Rattle.rz_num.specs.declared.width.Width.{Width}
use Rattle.rz_num.specs.declared.width.Width.TheVariants.{W8, W16, W32, W64}
use Rattle.rz_isa.specs.declared.rows.Row.{Row}
use Rattle.rz_isa.specs.declared.rows.RmRule.{RmRule}
use Rattle.rz_isa.specs.declared.rows.RmRule.TheVariants as rules
use Rattle.rz_isa.specs.declared.rows.Letter.{Letter}
use Rattle.rz_isa.specs.declared.rows.Letter.TheVariants as letters
use Rattle.rz_isa.specs.declared.rows.Op.{Op}
use Rattle.rz_isa.specs.declared.rows.Op.TheVariants as ops
use Rattle.rz_isa.specs.declared.decoding.Decoded.{Decoded}
use Rattle.rz_isa.specs.declared.decoding.Decoded.TheVariants as decodeds
use Rattle.rz_isa.specs.declared.instruction.Insn.{Insn}
use Rattle.rz_isa.specs.declared.instruction.Reg.{Reg}
use Rattle.rz_isa.specs.declared.instruction.Reg.TheVariants as regs
use Rattle.rz_isa.specs.declared.instruction.Place.{Place}
use Rattle.rz_isa.specs.declared.spelled.Fields.{Fields}
use Rattle.rz_isa.specs.Spelling.{Parts, bit_r, bit_x, bit_b, second, width_at}
use Rattle.rz_isa.specs.Fields.{byte_reg, reg_of, index_of, base_of, sib_mem, base_mem, behind_one, place_of, rm_place, rm_width, reg_field, reg_number, fields}
use Rattle.rz_isa.specs.Fields.{place_at, operand_at, reg_at, number_of, number_at, index_at, build_op}
use Rattle.rz_isa.specs.Spells.{RowSpells}
use Rattle.rz_isa.specs.Decoded.{front_at, front_len, parts_of, first_row, serves, decoded_by, decoded}
use Rattle.rz_exec.specs.Effect.{is_reg, is_named_reg, is_reg_or_none, is_named_mem, is_named_place, is_named_operand, is_named_index, is_named, IsNamed}

-- ---- registers

-- with no REX, the numbers from 4 on are those of second bytes
byte_named : (n : ℕ) → n < 8 → is_named_reg (byte_reg None n) ≡ true
byte_named n h =
    cond_both (nat_lt n 4) (regs.R n) (regs.High (n - 4)) (λ r. is_named_reg r ≡ true)
    (λ e. lt-ltb n 16 (omega arith))
    (λ e. lt-ltb (n - 4) 4 (omega arith))

zero_named : (w : Width) (rex : Option ℕ) → is_named_reg (reg_of w rex 0) ≡ true
zero_named W8 None = refl
zero_named W8 (Some b) = refl
zero_named W16 rex = refl
zero_named W32 rex = refl
zero_named W64 rex = refl

-- three bits, extended by REX.B
b_named : (w : Width) (rex : Option ℕ) (low : ℕ) → low < 8 → is_named_reg (reg_of w rex (low + 8 * bit_b rex)) ≡ true
b_named W8 None low h = byte_named (low + 8 * bit_b None) (omega arith)
b_named W8 (Some b) low h = lt-ltb (low + 8 * bit_b (Some b)) 16 (omega arith)
b_named W16 rex low h = lt-ltb _ 16 (omega arith)
b_named W32 rex low h = lt-ltb _ 16 (omega arith)
b_named W64 rex low h = lt-ltb _ 16 (omega arith)

-- and by REX.R
r_named : (w : Width) (rex : Option ℕ) (low : ℕ) → low < 8 → is_named_reg (reg_of w rex (low + 8 * bit_r rex)) ≡ true
r_named W8 None low h = byte_named (low + 8 * bit_r None) (omega arith)
r_named W8 (Some b) low h = lt-ltb (low + 8 * bit_r (Some b)) 16 (omega arith)
r_named W16 rex low h = lt-ltb _ 16 (omega arith)
r_named W32 rex low h = lt-ltb _ 16 (omega arith)
r_named W64 rex low h = lt-ltb _ 16 (omega arith)

field_low : (rm : List ℕ) → reg_field rm < 8
field_low [] = omega arith
field_low (m ∷ rest) = omega arith

reg_named : (row : Row) (p : Parts) (w : Width) → is_named_reg (reg_of w p.rex (reg_number row.rm row.digit row.span p)) ≡ true
reg_named row p w = go row.rm row.digit
  where
    go : (rm : Option RmRule) (digit : Option ℕ) → is_named_reg (reg_of w p.rex (reg_number rm digit row.span p)) ≡ true
    go None digit =
        cond_both (row.span == 8) (p.opcode % 8 + 8 * bit_b p.rex) 0 (λ n. is_named_reg (reg_of w p.rex n) ≡ true)
        (λ e. b_named w p.rex (p.opcode % 8) (omega arith))
        (λ e. zero_named w p.rex)
    go (Some (rules.Fixed b)) digit = zero_named w p.rex
    go (Some rules.Any) (Some d) = zero_named w p.rex
    go (Some rules.Any) None = r_named w p.rex (reg_field p.rm) (field_low p.rm)
    go (Some rules.MemoryOnly) (Some d) = zero_named w p.rex
    go (Some rules.MemoryOnly) None = r_named w p.rex (reg_field p.rm) (field_low p.rm)
    go (Some rules.RegisterOnly) (Some d) = zero_named w p.rex
    go (Some rules.RegisterOnly) None = r_named w p.rex (reg_field p.rm) (field_low p.rm)

-- ---- memory

base_named : (mode low b : ℕ) → low < 8 → b < 2 → is_reg_or_none (base_of mode low b) ≡ true
base_named mode low b h k =
    cond_both (mode == 0 && low == 5) None (Some (low + 8 * b)) (λ o. is_reg_or_none o ≡ true)
    (λ e. refl)
    (λ e. lt-ltb _ 16 (omega arith))

index_named : (n : ℕ) → n < 16 → is_reg_or_none (index_of n) ≡ true
index_named n h =
    cond_both (n == 4) None (Some n) (λ o. is_reg_or_none o ≡ true)
    (λ e. refl)
    (λ e. lt-ltb n 16 h)

sib_named : (mode sib : ℕ) (rex : Option ℕ) (disp : List ℕ) → is_named_mem (sib_mem mode sib rex disp) ≡ true
sib_named mode sib rex disp =
    and_from (is_reg_or_none (base_of mode (sib % 8) (bit_b rex))) (is_reg_or_none (index_of (sib / 8 % 8 + 8 * bit_x rex)))
    (base_named mode (sib % 8) (bit_b rex) (omega arith) (omega arith))
    (index_named (sib / 8 % 8 + 8 * bit_x rex) (omega arith))

base_mem_named : (low : ℕ) (rex : Option ℕ) (disp : List ℕ) → low < 8 → is_named_mem (base_mem low rex disp) ≡ true
base_mem_named low rex disp h = and_from (is_reg (low + 8 * bit_b rex)) true (lt-ltb _ 16 (omega arith)) refl

abbrev PlaceNamed : Place → Type 0
PlaceNamed p = is_named_place p ≡ true

place_named : (w : Width) (rex : Option ℕ) (next : ℕ) (rm : List ℕ) → is_named_place (place_of w rex next rm) ≡ true
place_named w rex next [] = refl
place_named w rex next (m ∷ rest) =
    cond_both (m / 64 == 3) _ _ PlaceNamed (λ e. b_named w rex (m % 8) (omega arith)) (λ e.
    cond_both (m % 8 == 4) _ _ PlaceNamed (λ e. sib_named (m / 64) (second (m ∷ rest)) rex (behind_one rest)) (λ e.
    cond_both (m / 64 == 0 && m % 8 == 5) _ _ PlaceNamed (λ e. refl) (λ e. base_mem_named (m % 8) rex rest (omega arith))))

rm_named : (rule : Option RmRule) (w : Width) (rex : Option ℕ) (next : ℕ) (rm : List ℕ) → is_named_place (rm_place rule w rex next rm) ≡ true
rm_named (Some (rules.Fixed b)) w rex next rm = refl
rm_named None w rex next rm = place_named w rex next rm
rm_named (Some rules.Any) w rex next rm = place_named w rex next rm
rm_named (Some rules.MemoryOnly) w rex next rm = place_named w rex next rm
rm_named (Some rules.RegisterOnly) w rex next rm = place_named w rex next rm

-- ---- the instruction of an operation and named fields

record AreNamed (f : Fields) : Type 0 where
  pub reg : is_named_reg f.reg ≡ true
  pub rm : is_named_place f.rm ≡ true

fields_named : (row : Row) (p : Parts) (next : ℕ) → AreNamed (fields row p next)
fields_named row p next = record {
  reg = reg_named row p (width_at row p);
  rm = rm_named row.rm (rm_width row.op (width_at row p)) p.rex next p.rm;
}

place_at_named : (l : Letter) (f : Fields) → AreNamed f → is_named_place (place_at l f) ≡ true
place_at_named letters.G f h = h.reg
place_at_named letters.O f h = h.reg
place_at_named letters.A f h = refl
place_at_named _ f h = h.rm

operand_at_named : (l : Letter) (f : Fields) → AreNamed f → is_named_operand (operand_at l f) ≡ true
operand_at_named letters.Imm f h = refl
operand_at_named letters.G f h = h.reg
operand_at_named letters.O f h = h.reg
operand_at_named letters.A f h = refl
operand_at_named _ f h = h.rm

reg_at_named : (l : Letter) (f : Fields) → AreNamed f → is_named_reg (reg_at l f) ≡ true
reg_at_named letters.A f h = refl
reg_at_named _ f h = h.reg

-- the number of a named register is below 16, also that of a second byte
number_of_named : (r : Reg) → is_named_reg r ≡ true → is_reg (number_of r) ≡ true
number_of_named (regs.R n) e = e
number_of_named (regs.High n) e = lt-ltb n 16 (let k = ltb-true n 4 e in omega arith)

number_at_named : (l : Letter) (f : Fields) → AreNamed f → is_reg (number_at l f) ≡ true
number_at_named l f h = number_of_named (reg_at l f) (reg_at_named l f h)

index_at_named : (l : Letter) (f : Fields) → AreNamed f → is_named_index (index_at l f) ≡ true
index_at_named letters.Imm f h = refl
index_at_named letters.A f h = refl
index_at_named _ f h = number_of_named f.reg h.reg

built_test : (op : Op) (f : Fields) → AreNamed f → is_named (build_op op f) ≡ true
built_test (ops.Arith o d s) f h = and_from _ _ (place_at_named d f h) (operand_at_named s f h)
built_test (ops.Test d s) f h = and_from _ _ (place_at_named d f h) (operand_at_named s f h)
built_test (ops.Mov d s) f h = and_from _ _ (place_at_named d f h) (operand_at_named s f h)
built_test (ops.Lea d s) f h = and_from _ _ (number_at_named d f h) (place_at_named s f h)
built_test (ops.Extend signed d s) f h = and_from _ _ (number_at_named d f h) (place_at_named s f h)
built_test (ops.Push s) f h = operand_at_named s f h
built_test (ops.Pop d) f h = place_at_named d f h
built_test (ops.Unary o d) f h = place_at_named d f h
built_test (ops.Wide o s) f h = place_at_named s f h
built_test (ops.Imul2 d s) f h = and_from _ _ (number_at_named d f h) (place_at_named s f h)
built_test (ops.Imul3 d s i) f h = and_from _ _ (number_at_named d f h) (place_at_named s f h)
built_test (ops.Shift o d c) f h = place_at_named d f h
built_test (ops.DoubleShift left d s c) f h = and_from _ _ (place_at_named d f h) (number_at_named s f h)
built_test (ops.Cmov d s) f h = and_from _ _ (number_at_named d f h) (place_at_named s f h)
built_test (ops.Set d) f h = place_at_named d f h
built_test (ops.CallInd s) f h = place_at_named s f h
built_test (ops.JmpInd s) f h = place_at_named s f h
built_test (ops.Xchg d s) f h = and_from _ _ (place_at_named d f h) (reg_at_named s f h)
built_test (ops.CmpXchg d s) f h = and_from _ _ (place_at_named d f h) (reg_at_named s f h)
built_test (ops.Xadd d s) f h = and_from _ _ (place_at_named d f h) (reg_at_named s f h)
built_test (ops.Bswap d) f h = number_at_named d f h
built_test (ops.BitTest o d i) f h = and_from _ _ (place_at_named d f h) (index_at_named i f h)
built_test (ops.Scan o d s) f h = and_from _ _ (number_at_named d f h) (place_at_named s f h)
built_test _ f h = refl

pub built_named : (row : Row) (p : Parts) (next : ℕ) → IsNamed (build_op row.op (fields row p next))
built_named row p next = built_test row.op (fields row p next) (fields_named row p next)

-- what a row spells
pub spelled_named : (row : Row) (s : List ℕ) (at : ℕ) (x : Insn) → RowSpells row s at x → IsNamed x
spelled_named row s at x h = subst IsNamed (sym h.names) (built_named row h.parts _)

abbrev Names : Decoded → Type 0
Names (decodeds.Insn y k) = IsNamed y
Names decodeds.Short = Unit {0}
Names decodeds.Unknown = Unit {0}

-- what bytes decode to
pub decoded_named : (rows : List Row) (bytes : List ℕ) (at : ℕ) (x : Insn) (n : ℕ) → decoded rows bytes at ≡ decodeds.Insn x n → IsNamed x
decoded_named rows bytes at x n e = by_row (first_row (serves bytes) rows) e
  where
    names : (o : Option Row) → Names (decoded_by bytes at o)
    names None = tt
    names (Some row) =
        cond_both (nat_le (front_len row (front_at row bytes)) (length bytes)) _ _ Names
        (λ e. built_named row (parts_of row (front_at row bytes)) _)
        (λ e. tt)

    by_row : (o : Option Row) → decoded_by bytes at o ≡ decodeds.Insn x n → IsNamed x
    by_row o e = subst Names e (names o)
