use Rattle.std.proofs.Common.{ℕ, ◌≡◌, ◌+◌, ◌*◌, ◌/◌, ◌%◌, ◌^◌, ◌<◌, ◌≤◌, ◌==◌, refl, ap, sym, ◌∙◌, subst, arith, List, [], ◌∷◌, Bool, true, false, not, ◌&&◌, ◌||◌, ◌⊎◌, inl, inr, Option, Some, None}
use Rattle.std.specs.Prelude.{nat_lt, nat_le, if◌then◌else◌}
use Rattle.std.proofs.lemmas.Bool.{cases_Bool}
use Rattle.std.proofs.lemmas.Bool.Decides.{nat_tests}
use Rattle.rz_isa.specs.Laws.Types.{Width, F3Rule, Size, RmRule, Row, Reg, Place, Fields}
use Rattle.rz_isa.specs.declared.rows.RmRule.TheVariants as rules
use Rattle.rz_isa.specs.declared.instruction.Reg.TheVariants as regs
use Rattle.rz_isa.specs.declared.instruction.Place.TheVariants as places
use Rattle.rz_num.specs.Bytes.{are_bytes}
use Rattle.rz_isa.specs.Spelling.{times, most_66, most_f2, takes_66, prefixes_fit, lock_fits, f3_demand, is_rex, rex_fits, bit_w, bit_r, bit_x, bit_b, is_met, w_demand, rm_fits, rule_fits, width_of}
use Rattle.rz_isa.specs.Fields.{reg_of, place_of, rm_place, rm_width, reg_field, reg_number, repeat_in, rep_of}
use Rattle.rz_isa.specs.Having.{is_half, has_width, code_of, is_register, is_first, is_high, is_low_byte, in_reg_field, in_opcode, has_reg, is_number, is_index, is_disp, names_register, names_memory, is_first_place, has_place, is_repeat, has_rep, w_needed, r_needed, x_needed, place_b, b_needed, rex_needed, low_byte_place, high_place, needs_rex}
use Rattle.rz_isa.specs.Canonical.{repeat_prefix, prefixes_for, rex_for, place_bytes, reg_bits, rm_bytes, place_reaches}
use Rattle.rz_isa.specs.Regular.{digit_small, rule_small}
use Rattle.rz_isa.specs.Laws.Built.{first_is}
use Rattle.rz_isa.specs.Laws.Again.{Had}
use Rattle.rz_isa.specs.Laws.Sound.{is_reg_place, PlaceRead, read_register, read_absolute, read_memory}
use Rattle.rz_isa.specs.Laws.Tests.{if_true, if_false, if_both, and_three, or_left, or_right, all_three, equal_test}

-- The canonical parts fit their row, and they are read as the fields.

-- ---- prefixes

half_takes : (c : Size) (w : Width) → has_width c w ≡ true → is_half w ≡ true → takes_66 c ≡ true
half_takes c w h1 h2 = grind (arith, nat_tests)

most_when : (row : Row) → takes_66 row.size ≡ true → nat_le 1 (most_66 row) ≡ true
most_when row t = grind (arith, nat_tests)

pub repeat_prefix-is : (r : F3Rule) (n : ℕ) → has_rep r n ≡ true → is_repeat (repeat_prefix r n) ≡ true
repeat_prefix-is r n h1 = grind (arith, nat_tests)

f3_met : (r : F3Rule) (rep : ℕ) → is_met (f3_demand r) (if repeat_prefix r rep == 0xf3 then 1 else 0) ≡ true
f3_met r rep = grind (arith, nat_tests)

f2_allowed : (r : F3Rule) (n : ℕ) → has_rep r n ≡ true → (repeat_prefix r n == 0xf2) ≡ true → nat_le 1 (most_f2 r) ≡ true
f2_allowed r n h1 h2 = grind (arith, nat_tests)

prefixes_by : (row : Row) (a : Bool) (b : ℕ) → is_repeat b ≡ true → (a ≡ true → nat_le 1 (most_66 row) ≡ true) → ((b == 0xf2) ≡ true → nat_le 1 (most_f2 row.f3) ≡ true)
    → is_met (f3_demand row.f3) (if b == 0xf3 then 1 else 0) ≡ true → prefixes_fit row (prefixes_for a b) ≡ true
prefixes_by row a b h1 h2 h3 h4 = grind (arith, nat_tests)

-- no F0 stands
pub lock_ok : (a : Bool) (b : ℕ) (rm : List ℕ) → is_repeat b ≡ true → lock_fits (prefixes_for a b) rm ≡ true
lock_ok a b rm h1 = grind (arith, nat_tests)

pub prefixes_ok : (row : Row) (f : Fields) → Had row f → prefixes_fit row (prefixes_for (is_half f.w) (repeat_prefix row.f3 f.rep)) ≡ true
prefixes_ok row f h = prefixes_by row (is_half f.w) (repeat_prefix row.f3 f.rep) (repeat_prefix-is row.f3 f.rep h.rep) (λ e. most_when row (half_takes row.size f.w h.w e))
    (f2_allowed row.f3 f.rep h.rep) (f3_met row.f3 f.rep)

pub times_66 : (a : Bool) (b : ℕ) → is_repeat b ≡ true → times 0x66 (prefixes_for a b) ≡ (if a then 1 else 0)
times_66 a b h1 = grind (arith, nat_tests)

pub repeat_again : (a : Bool) (b : ℕ) → is_repeat b ≡ true → repeat_in (prefixes_for a b) ≡ b
repeat_again a b h1 = grind (arith, nat_tests)

pub rep_again : (r : F3Rule) (n : ℕ) → has_rep r n ≡ true → rep_of r (repeat_prefix r n) ≡ n
rep_again r n h1 = grind (arith, nat_tests)

-- ---- REX: its bits are those that are needed

w_small : (c : Size) (w : Width) → w_needed c w ≤ 1
w_small c w = grind (arith, nat_tests)

reg_code : (row : Row) (w : Width) (r : Reg) → has_reg row w r ≡ true → code_of r < 16
reg_code row w r h1 = grind (arith, nat_tests)

-- the bits of a place that some rule takes
pub record PlaceBits (p : Place) : Type 0 where
  pub x : x_needed p ≤ 1
  pub b : place_b p ≤ 1

place_bits : (r : Option RmRule) (w : Width) (p : Place) → has_place r w p ≡ true → PlaceBits p
place_bits r w p h1 = grind (arith, nat_tests)

pub record Bits (row : Row) (f : Fields) : Type 0 where
  pub w : bit_w (rex_for row f) ≡ w_needed row.size f.w
  pub r : bit_r (rex_for row f) ≡ r_needed row f
  pub x : bit_x (rex_for row f) ≡ x_needed f.rm
  pub b : bit_b (rex_for row f) ≡ b_needed row f
  pub fits : rex_fits (rex_for row f) ≡ true

record Four (n w' r' x' b' : ℕ) : Type 0 where
  w : (0x40 + n) % 16 / 8 ≡ w'
  r : (0x40 + n) % 16 / 4 % 2 ≡ r'
  x : (0x40 + n) % 16 / 2 % 2 ≡ x'
  b : (0x40 + n) % 16 % 2 ≡ b'
  fits : is_rex (0x40 + n) ≡ true

four : (w r x b : ℕ) → w ≤ 1 → r ≤ 1 → x ≤ 1 → b ≤ 1 → Four (8 * w + 4 * r + 2 * x + b) w r x b
four w r x b h1 h2 h3 h4 = grind (arith, nat_tests)

zeros : (w r x b : ℕ) → 8 * w + 4 * r + 2 * x + b ≡ 0 → (0 ≡ w) × (0 ≡ r) × (0 ≡ x) × (0 ≡ b)
zeros w r x b h = (omega arith, omega arith, omega arith, omega arith)

not_first : (a b c : Bool) → (a || b || c) ≡ false → a ≡ false
not_first a b c h = grind arith

zero_when : (n : ℕ) → nat_lt 0 n ≡ false → n ≡ 0
zero_when n h = grind (arith, nat_tests)

pub bits : (row : Row) (f : Fields) → Had row f → Bits row f
bits row f h =
    let pb = place_bits row.rm (rm_width row.op f.w) f.rm h.rm in
    let c = reg_code row f.w f.reg h.reg in
    let lw = w_small row.size f.w in
    let lr : r_needed row f ≤ 1 = if_both (λ k. k ≤ 1) (in_reg_field row.rm row.digit) (code_of f.reg / 8) 0 (λ _. omega (arith, c)) (λ _. omega arith) in
    let lb : b_needed row f ≤ 1 = if_both (λ k. k ≤ 1) (in_opcode row.rm row.span) (code_of f.reg / 8) (place_b f.rm) (λ _. omega (arith, c)) (λ _. pb.b) in
    let q = four (w_needed row.size f.w) (r_needed row f) (x_needed f.rm) (b_needed row f) lw lr pb.x lb in
    elim (cases_Bool (needs_rex row f)) [
      | inl y ↦
          (let e : rex_for row f ≡ Some (0x40 + rex_needed row f) = if_true (needs_rex row f) _ _ y in
          record { w = ap bit_w e ∙ q.w; r = ap bit_r e ∙ q.r; x = ap bit_x e ∙ q.x; b = ap bit_b e ∙ q.b; fits = ap rex_fits e ∙ q.fits })
      | inr n ↦
          (let e : rex_for row f ≡ None = if_false (needs_rex row f) _ _ n in
          let z = zeros (w_needed row.size f.w) (r_needed row f) (x_needed f.rm) (b_needed row f) (zero_when (rex_needed row f) (not_first _ _ _ n)) in
          record { w = ap bit_w e ∙ z.0; r = ap bit_r e ∙ z.1; x = ap bit_x e ∙ z.2; b = ap bit_b e ∙ z.3; fits = ap rex_fits e })
    ]

-- ---- the width is read again

pub w_is : (c : Size) (w : Width) → has_width c w ≡ true → is_met (w_demand c) (w_needed c w) ≡ true
w_is c w h1 = grind (arith, nat_tests)

width_again : (c : Size) (w : Width) → has_width c w ≡ true → width_of c (w_needed c w) (if is_half w then 1 else 0) ≡ w
width_again c w h1 = grind (arith, nat_tests)

pub width_read : (row : Row) (f : Fields) → Had row f → width_of row.size (bit_w (rex_for row f)) (times 0x66 (prefixes_for (is_half f.w) (repeat_prefix row.f3 f.rep))) ≡ f.w
width_read row f h =
    let b = bits row f h in
    ap (λ k. width_of row.size k (times 0x66 (prefixes_for (is_half f.w) (repeat_prefix row.f3 f.rep)))) b.w
    ∙ (ap (width_of row.size (w_needed row.size f.w)) (times_66 (is_half f.w) (repeat_prefix row.f3 f.rep) (repeat_prefix-is row.f3 f.rep h.rep)) ∙ width_again row.size f.w h.w)

-- ---- a register is read again

-- the REX that stands suits the register
abbrev pub suits : Option ℕ → Width → Reg → Bool
suits None w r = not (is_low_byte w r)
suits (Some b) w r = not (is_high r)

reg_suits : (rex : Option ℕ) (w : Width) (r : Reg) → is_register w r ≡ true → suits rex w r ≡ true → reg_of w rex (code_of r) ≡ r
reg_suits rex w r h1 h2 = grind (arith, nat_tests)

suits_by : (needs low high : Bool) (v : ℕ) (w : Width) (r : Reg) → is_low_byte w r ≡ low → is_high r ≡ high → (low ≡ true → needs ≡ true) → (high ≡ true → needs ≡ false) → suits (if needs then Some v else None) w r ≡ true
suits_by needs low high v w r h1 h2 h3 h4 = grind (arith, nat_tests)

or_middle : (a b c : Bool) → b ≡ true → (a || b || c) ≡ true
or_middle a b c e = grind arith

or_last : (a b c : Bool) → c ≡ true → (a || b || c) ≡ true
or_last a b c e = grind arith

barred : (a b n : Bool) → (a ≡ true ⊎ b ≡ true) → not ((a || b) && n) ≡ true → n ≡ false
barred a b n c h = elim c [ inl x ↦ grind arith | inr y ↦ grind arith ]

pub reg_field_suits : (row : Row) (f : Fields) → Had row f → suits (rex_for row f) f.w f.reg ≡ true
reg_field_suits row f h = suits_by (needs_rex row f) (is_low_byte f.w f.reg) (is_high f.reg) (0x40 + rex_needed row f) f.w f.reg refl refl
    (λ e. or_middle (nat_lt 0 (rex_needed row f)) (is_low_byte f.w f.reg) (low_byte_place (rm_width row.op f.w) f.rm) e)
    (λ e. barred (is_high f.reg) (high_place f.rm) (needs_rex row f) (inl e) h.rex)

pub place_suits : (row : Row) (f : Fields) (r : Reg) → Had row f → f.rm ≡ places.Reg r → suits (rex_for row f) (rm_width row.op f.w) r ≡ true
place_suits row f r h e = suits_by (needs_rex row f) (is_low_byte (rm_width row.op f.w) r) (is_high r) (0x40 + rex_needed row f) (rm_width row.op f.w) r refl refl
    (λ l. or_last (nat_lt 0 (rex_needed row f)) (is_low_byte f.w f.reg) (low_byte_place (rm_width row.op f.w) f.rm) (ap (low_byte_place (rm_width row.op f.w)) e ∙ l))
    (λ l. barred (is_high f.reg) (high_place f.rm) (needs_rex row f) (inr (ap high_place e ∙ l)) h.rex)

-- ---- the ModRM operand and the register are read again

pub record RmRead (rm : Option RmRule) (digit : Option ℕ) (span : ℕ) (v w : Width) (rex : Option ℕ) (next : ℕ) (p : Place) (r : Reg) (o : ℕ) : Type 0 where
  pub fits : rm_fits rm digit (rm_bytes rm digit (code_of r) next p) ≡ true
  pub place : rm_place rm v rex next (rm_bytes rm digit (code_of r) next p) ≡ p
  pub bytes : are_bytes (rm_bytes rm digit (code_of r) next p) ≡ true
  pub reg : (ps is : List ℕ) → reg_of w rex (reg_number rm digit span (record { prefixes = ps; rex = rex; opcode = o; rm = rm_bytes rm digit (code_of r) next p; imm = is })) ≡ r

first_place_is : (p : Place) → is_first_place p ≡ true → places.Reg (regs.R 0) ≡ p
first_place_is p h1 = grind (arith, nat_tests)

first_number : (w : Width) (rex : Option ℕ) → reg_of w rex 0 ≡ regs.R 0
first_number w rex = grind (arith, nat_tests)

no_register : (w : Width) (rex : Option ℕ) (r : Reg) → is_first r ≡ true → reg_of w rex 0 ≡ r
no_register w rex r h = first_number w rex ∙ first_is r h

read_place : (v : Width) (rex : Option ℕ) (next reg : ℕ) (p : Place) → reg < 8 → next < 2 ^ 64 → (names_register v p || names_memory p) ≡ true → bit_b rex ≡ place_b p → bit_x rex ≡ x_needed p
    → ((r : Reg) → p ≡ places.Reg r → suits rex v r ≡ true) → place_reaches next p ≡ true → PlaceRead v rex next reg p (place_bytes reg next p)
read_place v rex next reg (places.Reg r) lr ln h eb ex hs hr = read_register v rex next reg r lr eb (reg_suits rex v r (or_false (is_register v r) h) (hs r refl))
  where
    or_false : (a : Bool) → (a || false) ≡ true → a ≡ true
    or_false a h = grind arith
read_place v rex next reg (places.Mem m) lr ln h eb ex hs hr =
    let t = and_three (is_number m.base) (is_index m.index m.scale) (is_disp m.disp) h in
    read_memory v rex next reg m.base m.index m.scale m.disp lr t.0 t.1 t.2 eb ex
read_place v rex next reg (places.At a) lr ln h eb ex hs hr = (let la : a < 2 ^ 64 = grind (arith, nat_tests) in read_absolute v rex next reg a lr ln la hr)

digit_met : (digit : Option ℕ) (code : ℕ) → is_met digit (reg_bits digit code) ≡ true
digit_met digit code = grind (arith, nat_tests)

digit_low : (digit : Option ℕ) (code : ℕ) → digit_small digit ≡ true → reg_bits digit code < 8
digit_low digit code h1 = grind (arith, nat_tests)

field_reg : (w : Width) (rex : Option ℕ) (r : Reg) (field : ℕ) → field ≡ code_of r % 8 → bit_r rex ≡ code_of r / 8 → is_register w r ≡ true → suits rex w r ≡ true → reg_of w rex (field + 8 * bit_r rex) ≡ r
field_reg w rex r field ef er h s = (let n : field + 8 * bit_r rex ≡ code_of r = omega arith in ap (reg_of w rex) n ∙ reg_suits rex w r h s)

opcode_reg : (w : Width) (rex : Option ℕ) (r : Reg) (base o : ℕ) → base % 8 ≡ 0 → o ≡ base + code_of r % 8 → bit_b rex ≡ code_of r / 8 → is_register w r ≡ true → suits rex w r ≡ true
    → reg_of w rex (o % 8 + 8 * bit_b rex) ≡ r
opcode_reg w rex r base o z eo eb h s = (let n : o % 8 + 8 * bit_b rex ≡ code_of r = omega arith in ap (reg_of w rex) n ∙ reg_suits rex w r h s)

-- what is known of the fields, for each rule
pub record RmGiven (rm : Option RmRule) (digit : Option ℕ) (span base : ℕ) (v w : Width) (rex : Option ℕ) (next : ℕ) (p : Place) (r : Reg) (o c : ℕ) : Type 0 where
  pub next_low : next < 2 ^ 64
  pub digit_low : digit_small digit ≡ true
  pub rule_low : rule_small rm digit ≡ true
  pub aligned : (span == 8) ≡ true → base % 8 ≡ 0
  pub place : has_place rm v p ≡ true
  pub reg : (if in_reg_field rm digit || in_opcode rm span then is_register w r else is_first r) ≡ true
  pub b : bit_b rex ≡ (if in_opcode rm span then code_of r / 8 else place_b p)
  pub x : bit_x rex ≡ x_needed p
  pub r_bit : bit_r rex ≡ (if in_reg_field rm digit then code_of r / 8 else 0)
  pub reg_suits : suits rex w r ≡ true
  pub place_suits : (q : Reg) → p ≡ places.Reg q → suits rex v q ≡ true
  pub near : place_reaches next p ≡ true
  pub opcode : o ≡ base + (if in_opcode rm span then code_of r % 8 else c)

not_reg : (p : Place) → names_memory p ≡ true → is_reg_place p ≡ false
not_reg p h1 = grind (arith, nat_tests)

is_reg : (v : Width) (p : Place) → names_register v p ≡ true → is_reg_place p ≡ true
is_reg v p h1 = grind (arith, nat_tests)

-- what is spelled of an operand, by a rule that takes it
record OperandRead (rule : RmRule) (digit : Option ℕ) (v : Width) (rex : Option ℕ) (next code : ℕ) (p : Place) (bs : List ℕ) : Type 0 where
  fits : rm_fits (Some rule) digit bs ≡ true
  place : place_of v rex next bs ≡ p
  bytes : are_bytes bs ≡ true
  field : reg_field bs ≡ reg_bits digit code

operand_read : (rule : RmRule) (digit : Option ℕ) (span base : ℕ) (v w : Width) (rex : Option ℕ) (next : ℕ) (p : Place) (r : Reg) (o c : ℕ) → RmGiven (Some rule) digit span base v w rex next p r o c → (names_register v p || names_memory p) ≡ true
    → ((m : ℕ) → (m / 64 == 3) ≡ is_reg_place p → rule_fits rule m ≡ true) → OperandRead rule digit v rex next (code_of r) p (place_bytes (reg_bits digit (code_of r)) next p)
operand_read rule digit span base v w rex next p r o c g named fit =
    let h = read_place v rex next (reg_bits digit (code_of r)) p (digit_low digit (code_of r) g.digit_low) g.next_low named g.b g.x g.place_suits g.near in
    let d = subst (λ k. is_met digit k ≡ true) (sym h.field) (digit_met digit (code_of r)) in
    record {
      fits = subst (λ k. rm_fits (Some rule) digit k ≡ true) (sym h.same) (all_three _ _ _ (fit h.m h.register) d (equal_test _ _ h.len));
      place = ap (place_of v rex next) h.same ∙ h.place;
      bytes = ap are_bytes h.same ∙ h.bytes;
      field = ap reg_field h.same ∙ h.field;
    }

-- a fixed byte that names a register stands alone
fixed_parts : (k : ℕ) (digit : Option ℕ) → rule_small (Some (rules.Fixed k)) digit ≡ true → (rm_fits (Some (rules.Fixed k)) digit (k ∷ []) ≡ true) × (are_bytes (k ∷ []) ≡ true)
fixed_parts k digit h1 = grind (arith, nat_tests)

pub rm_read : (rm : Option RmRule) (digit : Option ℕ) (span base : ℕ) (v w : Width) (rex : Option ℕ) (next : ℕ) (p : Place) (r : Reg) (o c : ℕ) → RmGiven rm digit span base v w rex next p r o c → RmRead rm digit span v w rex next p r o
rm_read None digit span base v w rex next p r o c g = record {
  fits = refl;
  place = first_place_is p g.place;
  bytes = refl;
  reg = λ ps is. elim (cases_Bool (span == 8)) [
    | inl y ↦
        (let h : is_register w r ≡ true = sym (if_true (span == 8) (is_register w r) (is_first r) y) ∙ g.reg in
        let eb : bit_b rex ≡ code_of r / 8 = g.b ∙ if_true (span == 8) _ _ y in
        let eo : o ≡ base + code_of r % 8 = g.opcode ∙ ap (λ k. base + k) (if_true (span == 8) _ _ y) in
        ap (reg_of w rex) (if_true (span == 8) (o % 8 + 8 * bit_b rex) 0 y) ∙ opcode_reg w rex r base o (g.aligned y) eo eb h g.reg_suits)
    | inr n ↦ ap (reg_of w rex) (if_false (span == 8) (o % 8 + 8 * bit_b rex) 0 n) ∙ no_register w rex r (sym (if_false (span == 8) (is_register w r) (is_first r) n) ∙ g.reg)
  ];
}
rm_read (Some (rules.Fixed k)) digit span base v w rex next p r o c g = record {
  fits = (fixed_parts k digit g.rule_low).0;
  place = first_place_is p g.place;
  bytes = (fixed_parts k digit g.rule_low).1;
  reg = λ ps is. no_register w rex r g.reg;
}
rm_read (Some rules.Any) None span base v w rex next p r o c g =
    let q = operand_read rules.Any None span base v w rex next p r o c g g.place (λ m e. refl) in
    record { fits = q.fits; place = q.place; bytes = q.bytes; reg = λ ps is. field_reg w rex r _ q.field g.r_bit g.reg g.reg_suits }
rm_read (Some rules.Any) (Some d) span base v w rex next p r o c g =
    let q = operand_read rules.Any (Some d) span base v w rex next p r o c g g.place (λ m e. refl) in
    record { fits = q.fits; place = q.place; bytes = q.bytes; reg = λ ps is. no_register w rex r g.reg }
rm_read (Some rules.MemoryOnly) None span base v w rex next p r o c g =
    let q = operand_read rules.MemoryOnly None span base v w rex next p r o c g (or_right _ _ g.place) (λ m e. ap not (e ∙ not_reg p g.place)) in
    record { fits = q.fits; place = q.place; bytes = q.bytes; reg = λ ps is. field_reg w rex r _ q.field g.r_bit g.reg g.reg_suits }
rm_read (Some rules.MemoryOnly) (Some d) span base v w rex next p r o c g =
    let q = operand_read rules.MemoryOnly (Some d) span base v w rex next p r o c g (or_right _ _ g.place) (λ m e. ap not (e ∙ not_reg p g.place)) in
    record { fits = q.fits; place = q.place; bytes = q.bytes; reg = λ ps is. no_register w rex r g.reg }
rm_read (Some rules.RegisterOnly) None span base v w rex next p r o c g =
    let q = operand_read rules.RegisterOnly None span base v w rex next p r o c g (or_left _ _ g.place) (λ m e. e ∙ is_reg v p g.place) in
    record { fits = q.fits; place = q.place; bytes = q.bytes; reg = λ ps is. field_reg w rex r _ q.field g.r_bit g.reg g.reg_suits }
rm_read (Some rules.RegisterOnly) (Some d) span base v w rex next p r o c g =
    let q = operand_read rules.RegisterOnly (Some d) span base v w rex next p r o c g (or_left _ _ g.place) (λ m e. e ∙ is_reg v p g.place) in
    record { fits = q.fits; place = q.place; bytes = q.bytes; reg = λ ps is. no_register w rex r g.reg }
