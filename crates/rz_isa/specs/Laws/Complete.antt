use Rattle.std.proofs.Common.{ℕ, zero, suc, ◌≡◌, ◌+◌, ◌*◌, ◌/◌, ◌%◌, ◌^◌, ◌<◌, ◌≤◌, ◌==◌, refl, ap, sym, ◌∙◌, subst, arith, List, [], ◌∷◌, length, Bool, true, false, not, ◌&&◌, ◌||◌, inl, inr, Option, Some, None}
use Rattle.std.specs.Prelude.{nat_lt, is_some, if◌then◌else◌}
use Rattle.std.proofs.lemmas.Bool.{cases_Bool}
use Rattle.std.proofs.lemmas.Bool.Decides.{nat_tests}
use Rattle.rz_isa.specs.Laws.Types.{Width, W8, W16, W32, W64, F3Rule, Size, RmRule, ImmKind, Row}
use Rattle.rz_isa.specs.declared.rows.RmRule.TheVariants as rules
use Rattle.rz_isa.specs.declared.rows.ImmKind.TheVariants as imms
use Rattle.rz_isa.specs.declared.instruction.Place.TheVariants as places
use Rattle.rz_num.specs.Bytes.{are_bytes}
use Rattle.rz_isa.specs.Number.{number, numbers, extended, displaced_by}
use Rattle.rz_isa.specs.Spelling.{Parts, Fits, bit_w, bit_r, bit_x, bit_b, is_met, w_demand, b_demand, disp_len, rm_len, second, rm_fits, opcode_fits, width_of, width_at, imm_len, times}
use Rattle.rz_isa.specs.Fields.{reg_of, index_of, base_of, sib_mem, base_mem, behind_one, place_of, rm_place, rm_width, reg_number, imm_of, repeat_in, rep_of, fields}
use Rattle.rz_isa.specs.Having.{has_width, code_of, is_register, is_first, is_high, is_low_byte, in_reg_field, in_opcode, is_number, is_index, is_memory, names_register, names_memory, has_place, has_cond, has_imm, is_repeat, has_rep, w_needed, x_needed, place_b, b_needed, rex_needed, low_byte_place, high_place, needs_rex, bars_rex, opcode_of, can_have}
use Rattle.rz_isa.specs.Regular.{is_regular, is_block}
use Rattle.rz_isa.specs.Laws.Numbers.{number_less, numbers_of, numbers_full, signed_is_disp, extended_byte, extended_four}
use Rattle.rz_isa.specs.Laws.Again.{can_of}
use Rattle.rz_isa.specs.Laws.Inverse.{IsRegular, regular_of}
use Rattle.rz_isa.specs.Laws.Tests.{if_true, if_false, if_both, and_three, all_three, equal_is, or_left, or_right, below_test}

-- The fields of a spelling are fields that its row can have.

-- ---- the width

pub width_had : (c : Size) (b n : ℕ) → has_width c (width_of c b n) ≡ true
width_had c b n = grind (arith, nat_tests)

-- ---- registers

pub code_again : (w : Width) (rex : Option ℕ) (n : ℕ) → code_of (reg_of w rex n) ≡ n
code_again w rex n = grind (arith, nat_tests)

pub registered : (w : Width) (rex : Option ℕ) (n : ℕ) → n < 16 → (rex ≡ None → n < 8) → is_register w (reg_of w rex n) ≡ true
registered w rex n h1 h2 = grind (arith, nat_tests)

-- three bits and a bit of REX
pub with_bit : (low bit : ℕ) → low < 8 → bit < 2 → low + 8 * bit < 16
with_bit low bit a b = omega arith

pub x_bit : (rex : Option ℕ) → bit_x rex < 2
x_bit rex = omega arith

pub b_bit : (rex : Option ℕ) → bit_b rex < 2
b_bit rex = omega arith

no_b : (rex : Option ℕ) (low : ℕ) → low < 8 → rex ≡ None → low + 8 * bit_b rex < 8
no_b rex low h1 h2 = grind (arith, nat_tests)

eighth_low : (n : ℕ) → n % 8 < 8
eighth_low n = omega arith

pub reg_of_parts : (rm : Option RmRule) (digit : Option ℕ) (span : ℕ) (w : Width) (p : Parts)
    → (if in_reg_field rm digit || in_opcode rm span then is_register w (reg_of w p.rex (reg_number rm digit span p)) else is_first (reg_of w p.rex (reg_number rm digit span p))) ≡ true
reg_of_parts rm digit span w p = grind (arith, nat_tests)

-- ---- memory

base_number : (mode low b : ℕ) → low < 8 → b < 2 → is_number (base_of mode low b) ≡ true
base_number mode low b ll lb = if_both (λ o. is_number o ≡ true) (mode == 0 && low == 5) None (Some (low + 8 * b)) (λ _. refl) (λ _. grind (arith, nat_tests))

quarter : (n : ℕ) → n < 4 → (2 ^ n == 1 || 2 ^ n == 2 || 2 ^ n == 4 || 2 ^ n == 8) ≡ true
quarter zero lt = refl
quarter (suc zero) lt = refl
quarter (suc (suc zero)) lt = refl
quarter (suc (suc (suc zero))) lt = refl
quarter (suc (suc (suc (suc n)))) lt = absurd (omega arith)

index_number : (n s : ℕ) → n < 16 → s < 4 → is_index (index_of n) (if is_some (index_of n) then 2 ^ s else 1) ≡ true
index_number n s ln ls = if_both (λ o. is_index o (if is_some o then 2 ^ s else 1) ≡ true) (n == 4) None (Some n) (λ _. refl) (λ e. all_three (nat_lt n 16) (not (n == 4)) (2 ^ s == 1 || 2 ^ s == 2 || 2 ^ s == 4 || 2 ^ s == 8) (grind (arith, nat_tests)) (grind (arith, nat_tests)) (quarter s ls))

behind_bytes : (bs : List ℕ) → are_bytes bs ≡ true → are_bytes (behind_one bs) ≡ true
behind_bytes bs h1 = grind (arith, nat_tests)

behind_short : (bs : List ℕ) → length bs ≤ 5 → length (behind_one bs) ≤ 4
behind_short bs h1 = grind (arith, nat_tests)

sib_memory : (mode sib : ℕ) (rex : Option ℕ) (disp : List ℕ) → sib < 256 → are_bytes disp ≡ true → length disp ≤ 4 → is_memory (sib_mem mode sib rex disp) ≡ true
sib_memory mode sib rex disp lt h short = all_three _ _ _
    (base_number mode (sib % 8) (bit_b rex) (omega arith) (b_bit rex))
    (index_number (sib / 8 % 8 + 8 * bit_x rex) (sib / 64) (with_bit (sib / 8 % 8) (bit_x rex) (omega arith) (x_bit rex)) (omega arith))
    (signed_is_disp disp h short)

base_memory : (low : ℕ) (rex : Option ℕ) (disp : List ℕ) → low < 8 → are_bytes disp ≡ true → length disp ≤ 4 → is_memory (base_mem low rex disp) ≡ true
base_memory low rex disp lt h short = all_three _ _ _ (grind (arith, nat_tests, b_bit rex)) refl (signed_is_disp disp h short)

second_byte : (m : ℕ) (rest : List ℕ) → are_bytes rest ≡ true → second (m ∷ rest) < 256
second_byte m rest h1 = grind (arith, nat_tests)

pub disp_short : (mode low : ℕ) → disp_len mode low ≤ 4
disp_short mode low = grind arith

address_small : (a : ℕ) → nat_lt (a % 2 ^ 64) (2 ^ 64) ≡ true
address_small a = (let lt : a % 2 ^ 64 < 2 ^ 64 = omega arith in grind (arith, nat_tests))

-- mod 11 names a register, every other mod names memory
pub place_register : (v : Width) (rex : Option ℕ) (next m : ℕ) (rest : List ℕ) → (m / 64 == 3) ≡ true → names_register v (place_of v rex next (m ∷ rest)) ≡ true
place_register v rex next m rest y = ap (names_register v) (if_true (m / 64 == 3) _ _ y) ∙ registered v rex (m % 8 + 8 * bit_b rex) (with_bit (m % 8) (bit_b rex) (eighth_low m) (b_bit rex)) (no_b rex (m % 8) (eighth_low m))

pub place_memory : (v : Width) (rex : Option ℕ) (next m : ℕ) (rest : List ℕ) → are_bytes rest ≡ true → 1 + length rest ≡ rm_len m (second (m ∷ rest)) → (m / 64 == 3) ≡ false
    → names_memory (place_of v rex next (m ∷ rest)) ≡ true
place_memory v rex next m rest h len n = ap names_memory (if_false (m / 64 == 3) _ _ n) ∙ elim (cases_Bool (m % 8 == 4)) [
  | inl y ↦
      (let l : 1 + length rest ≡ 2 + disp_len (m / 64) (second (m ∷ rest) % 8) = len ∙ (if_false (m / 64 == 3) _ _ n ∙ if_true (m % 8 == 4) _ _ y) in
      let short = disp_short (m / 64) (second (m ∷ rest) % 8) in
      ap names_memory (if_true (m % 8 == 4) _ _ y) ∙ sib_memory (m / 64) (second (m ∷ rest)) rex (behind_one rest) (second_byte m rest h) (behind_bytes rest h) (behind_short rest (omega arith)))
  | inr k ↦
      (let l : 1 + length rest ≡ 1 + disp_len (m / 64) (m % 8) = len ∙ (if_false (m / 64 == 3) _ _ n ∙ if_false (m % 8 == 4) _ _ k) in
      let short = disp_short (m / 64) (m % 8) in
      ap names_memory (if_false (m % 8 == 4) _ _ k) ∙ if_both (λ p. names_memory p ≡ true) (m / 64 == 0 && m % 8 == 5) (places.At (displaced_by next rest)) (places.Mem (base_mem (m % 8) rex rest))
      (λ _. address_small (next + extended rest))
      (λ _. base_memory (m % 8) rex rest (eighth_low m) h (omega arith)))
]

-- ---- the ModRM operand

pub place_had : (rm : Option RmRule) (digit : Option ℕ) (v : Width) (rex : Option ℕ) (next : ℕ) (bs : List ℕ) → rm_fits rm digit bs ≡ true → are_bytes bs ≡ true
    → has_place rm v (rm_place rm v rex next bs) ≡ true
place_had None digit v rex next [] fit h = refl
place_had None digit v rex next (m ∷ rest) fit h = absurd (cc)
place_had (Some rule) digit v rex next [] fit h = absurd (cc)
place_had (Some (rules.Fixed b)) digit v rex next (m ∷ rest) fit h = refl
place_had (Some rules.Any) digit v rex next (m ∷ rest) fit h =
    let t = and_three true (is_met digit (m / 8 % 8)) (1 + length rest == rm_len m (second (m ∷ rest))) fit in
    elim (cases_Bool (m / 64 == 3)) [
      | inl y ↦ or_left _ _ (place_register v rex next m rest y)
      | inr n ↦ or_right _ _ (place_memory v rex next m rest (grind arith) (equal_is _ _ t.2) n)
    ]
place_had (Some rules.MemoryOnly) digit v rex next (m ∷ rest) fit h =
    let t = and_three (not (m / 64 == 3)) (is_met digit (m / 8 % 8)) (1 + length rest == rm_len m (second (m ∷ rest))) fit in
    place_memory v rex next m rest (grind arith) (equal_is _ _ t.2) (unnot (m / 64 == 3) t.0)
  where
    unnot : (b : Bool) → not b ≡ true → b ≡ false
    unnot b h = grind arith
place_had (Some rules.RegisterOnly) digit v rex next (m ∷ rest) fit h =
    let t = and_three (m / 64 == 3) (is_met digit (m / 8 % 8)) (1 + length rest == rm_len m (second (m ∷ rest))) fit in
    place_register v rex next m rest t.0

-- ---- the other fields

pub cond_of_opcode : (span o : ℕ) → has_cond span (if span == 16 then o % 16 else 0) ≡ true
cond_of_opcode span o = grind (arith, nat_tests)

number_below : (bs : List ℕ) (m : ℕ) → are_bytes bs ≡ true → numbers bs ≡ m → nat_lt (number bs) m ≡ true
number_below bs m h e = below_test (number bs) m (subst (λ k. number bs < k) e (number_less bs h))

pub imm_had : (k : Option ImmKind) (w : Width) (next : ℕ) (bs : List ℕ) → are_bytes bs ≡ true → length bs ≡ imm_len k w → has_imm k w (imm_of k w next bs) ≡ true
imm_had None w next bs h len = refl
imm_had (Some imms.Ib) w next bs h len = number_below bs (2 ^ 8) h (numbers_of bs 1 len)
imm_had (Some imms.Ibs) w next bs h len = extended_byte bs w h len
imm_had (Some imms.Iw) w next bs h len = number_below bs (2 ^ 16) h (numbers_of bs 2 len)
imm_had (Some imms.Iz) W8 next bs h len = below_test (extended bs % 2 ^ 8) (2 ^ 8) (omega arith)
imm_had (Some imms.Iz) W16 next bs h len = below_test (extended bs % 2 ^ 16) (2 ^ 16) (omega arith)
imm_had (Some imms.Iz) W32 next bs h len = below_test (extended bs % 2 ^ 32) (2 ^ 32) (omega arith)
imm_had (Some imms.Iz) W64 next bs h len = extended_four bs h len
imm_had (Some imms.Iv) W8 next bs h len = number_below bs (2 ^ 8) h (numbers_full W8 bs len)
imm_had (Some imms.Iv) W16 next bs h len = number_below bs (2 ^ 16) h (numbers_full W16 bs len)
imm_had (Some imms.Iv) W32 next bs h len = number_below bs (2 ^ 32) h (numbers_full W32 bs len)
imm_had (Some imms.Iv) W64 next bs h len = number_below bs (2 ^ 64) h (numbers_full W64 bs len)
imm_had (Some imms.J8) w next bs h len = address_small (next + extended bs)
imm_had (Some imms.J32) w next bs h len = address_small (next + extended bs)

pub repeat_in-is : (ps : List ℕ) → is_repeat (repeat_in ps) ≡ true
repeat_in-is ps = if_both (λ k. is_repeat k ≡ true) (nat_lt 0 (times 0xf3 ps)) 0xf3 (if nat_lt 0 (times 0xf2 ps) then 0xf2 else 0) (λ _. refl) (λ _. if_both (λ k. is_repeat k ≡ true) (nat_lt 0 (times 0xf2 ps)) 0xf2 0 (λ _. refl) (λ _. refl))

pub rep_of_prefixes : (r : F3Rule) (b : ℕ) → is_repeat b ≡ true → has_rep r (rep_of r b) ≡ true
rep_of_prefixes r b h1 = grind (arith, nat_tests)

-- ---- REX: with one no register is AH, CH, DH or BH, without one none needs it

not_high : (w : Width) (r n : ℕ) → is_high (reg_of w (Some r) n) ≡ false
not_high w r n = grind (arith, nat_tests)

rm_not_high : (rm : Option RmRule) (v : Width) (r next : ℕ) (bs : List ℕ) → high_place (rm_place rm v (Some r) next bs) ≡ false
rm_not_high rm v r next bs = grind (arith, nat_tests)

not_low : (w : Width) (n : ℕ) → is_low_byte w (reg_of w None n) ≡ false
not_low w n = grind (arith, nat_tests)

rm_not_low : (rm : Option RmRule) (v : Width) (next : ℕ) (bs : List ℕ) → low_byte_place v (rm_place rm v None next bs) ≡ false
rm_not_low rm v next bs = grind (arith, nat_tests)

-- ---- the bits of REX that the fields need are among those that stand there

w_of_size : (c : Size) (b n : ℕ) → b < 2 → is_met (w_demand c) b ≡ true → w_needed c (width_of c b n) ≤ b
w_of_size c b n h1 h2 = grind (arith, nat_tests)

rm_x : (rm : Option RmRule) (v : Width) (rex : Option ℕ) (next : ℕ) (bs : List ℕ) → x_needed (rm_place rm v rex next bs) ≤ bit_x rex
rm_x rm v rex next bs = grind (arith, nat_tests)

reg_b : (v : Width) (rex : Option ℕ) (low b : ℕ) → low < 8 → code_of (reg_of v rex (low + 8 * b)) / 8 ≤ b
reg_b v rex low b lt = subst (λ k. k / 8 ≤ b) (sym (code_again v rex (low + 8 * b))) (omega arith)

place_of_b : (v : Width) (rex : Option ℕ) (next : ℕ) (bs : List ℕ) → place_b (place_of v rex next bs) ≤ bit_b rex
place_of_b v rex next bs = grind (arith, nat_tests)

rm_b : (rm : Option RmRule) (v : Width) (rex : Option ℕ) (next : ℕ) (bs : List ℕ) → place_b (rm_place rm v rex next bs) ≤ bit_b rex
rm_b rm v rex next bs = grind (arith, nat_tests)

reg_r : (rm : Option RmRule) (digit : Option ℕ) (span : ℕ) (w : Width) (p : Parts) → (if in_reg_field rm digit then code_of (reg_of w p.rex (reg_number rm digit span p)) / 8 else 0) ≤ bit_r p.rex
reg_r rm digit span w p = grind (arith, nat_tests)

opcode_b : (rm : Option RmRule) (digit : Option ℕ) (span : ℕ) (w v : Width) (p : Parts) (next : ℕ)
    → (if in_opcode rm span then code_of (reg_of w p.rex (reg_number rm digit span p)) / 8 else place_b (rm_place rm v p.rex next p.rm)) ≤ bit_b p.rex
opcode_b None digit span w v p next = elim (cases_Bool (span == 8)) [
  | inl y ↦ subst (λ k. (if k then code_of (reg_of w p.rex (if k then p.opcode % 8 + 8 * bit_b p.rex else 0)) / 8 else place_b (place_of v p.rex next p.rm)) ≤ bit_b p.rex) (sym y) (reg_b w p.rex (p.opcode % 8) (bit_b p.rex) (eighth_low p.opcode))
  | inr n ↦ subst (λ k. (if k then code_of (reg_of w p.rex (if k then p.opcode % 8 + 8 * bit_b p.rex else 0)) / 8 else place_b (place_of v p.rex next p.rm)) ≤ bit_b p.rex) (sym n) (place_of_b v p.rex next p.rm)
]
opcode_b (Some r) digit span w v p next = rm_b (Some r) v p.rex next p.rm

-- ---- both joined tests

pub w_bit : (rex : Option ℕ) → bit_w rex < 2
w_bit rex = grind (arith, nat_tests)

no_bits : (rex : Option ℕ) → rex ≡ None → (bit_w rex ≡ 0) × (bit_r rex ≡ 0) × (bit_x rex ≡ 0) × (bit_b rex ≡ 0)
no_bits rex h1 = grind (arith, nat_tests)

not_positive : (n : ℕ) → n ≡ 0 → nat_lt 0 n ≡ false
not_positive n e = grind (arith, nat_tests)

three_false : (a b c : Bool) → a ≡ false → b ≡ false → c ≡ false → (a || b || c) ≡ false
three_false a b c ea eb ec = grind arith

sum_zero : (a b c d : ℕ) → a ≤ 0 → b ≤ 0 → c ≤ 0 → d ≤ 0 → 8 * a + 4 * b + 2 * c + d ≡ 0
sum_zero a b c d ea eb ec ed = omega arith

at_zero : (a b : ℕ) → a ≤ b → b ≡ 0 → a ≤ 0
at_zero a b le e = omega arith

pub none_needed : (row : Row) (p : Parts) (next : ℕ) → Fits row p → p.rex ≡ None → needs_rex row (fields row p next) ≡ false
none_needed row p next fit e =
    let w = width_at row p in
    let v = rm_width row.op w in
    let z = no_bits p.rex e in
    let a = at_zero _ _ (w_of_size row.size (bit_w p.rex) (times 0x66 p.prefixes) (w_bit p.rex) fit.w) z.0 in
    let b = at_zero _ _ (reg_r row.rm row.digit row.span w p) z.1 in
    let c = at_zero _ _ (rm_x row.rm v p.rex next p.rm) z.2 in
    let d = at_zero _ _ (opcode_b row.rm row.digit row.span w v p next) z.3 in
    let n : rex_needed row (fields row p next) ≡ 0 = sum_zero _ _ _ _ a b c d in
    three_false _ _ _
    (not_positive (rex_needed row (fields row p next)) n)
    (ap (λ x. is_low_byte w (reg_of w x (reg_number row.rm row.digit row.span p))) e ∙ not_low w (reg_number row.rm row.digit row.span p))
    (ap (λ x. low_byte_place v (rm_place row.rm v x next p.rm)) e ∙ rm_not_low row.rm v next p.rm)

two_false : (a b : Bool) → a ≡ false → b ≡ false → (a || b) ≡ false
two_false a b ea eb = grind arith

pub none_barred : (row : Row) (p : Parts) (next r : ℕ) → p.rex ≡ Some r → bars_rex (fields row p next) ≡ false
none_barred row p next r e =
    let w = width_at row p in
    let v = rm_width row.op w in
    two_false _ _
    (ap (λ x. is_high (reg_of w x (reg_number row.rm row.digit row.span p))) e ∙ not_high w r (reg_number row.rm row.digit row.span p))
    (ap (λ x. high_place (rm_place row.rm v x next p.rm)) e ∙ rm_not_high row.rm v r next p.rm)

pub rex_joined : (row : Row) (p : Parts) (next : ℕ) → Fits row p → not (bars_rex (fields row p next) && needs_rex row (fields row p next)) ≡ true
rex_joined row p next fit = by_rex p.rex refl
  where
    left : (a b : Bool) → a ≡ false → not (a && b) ≡ true
    left a b e = grind arith

    right : (a b : Bool) → b ≡ false → not (a && b) ≡ true
    right a b e = grind arith

    by_rex : (o : Option ℕ) → p.rex ≡ o → not (bars_rex (fields row p next) && needs_rex row (fields row p next)) ≡ true
    by_rex None e = right _ _ (none_needed row p next fit e)
    by_rex (Some r) e = left _ _ (none_barred row p next r e)

-- ---- REX.B where the row demands it

pub eight_aligned : (r : Row) → is_block r ≡ true → (r.span == 8) ≡ true → r.opcode % 8 ≡ 0
eight_aligned r b s = grind (arith, nat_tests)

demand_by : (row : Row) (p : Parts) (next : ℕ) → IsRegular row → opcode_fits row p.opcode ≡ true → is_met (b_demand row.op row.map p.opcode) (bit_b p.rex) ≡ true → rm_fits row.rm row.digit p.rm ≡ true
    → is_met (b_demand row.op row.map (opcode_of row (fields row p next))) (b_needed row (fields row p next)) ≡ true
demand_by row p next h1 h2 h3 h4 = grind (arith, nat_tests)

pub demand_met : (row : Row) (p : Parts) (next : ℕ) → IsRegular row → Fits row p
    → is_met (b_demand row.op row.map (opcode_of row (fields row p next))) (b_needed row (fields row p next)) ≡ true
demand_met row p next regular fit = demand_by row p next regular fit.opcode fit.b fit.rm

-- ---- all tests

pub fields_had : (row : Row) (p : Parts) (next : ℕ) → is_regular row ≡ true → Fits row p → are_bytes p.rm ≡ true → are_bytes p.imm ≡ true → can_have row (fields row p next) ≡ true
fields_had row p next regular fit rm imm =
    let w = width_at row p in
    can_of row (fields row p next) (record {
      w = width_had row.size (bit_w p.rex) (times 0x66 p.prefixes);
      reg = reg_of_parts row.rm row.digit row.span w p;
      rm = place_had row.rm row.digit (rm_width row.op w) p.rex next p.rm fit.rm rm;
      cond = cond_of_opcode row.span p.opcode;
      imm = imm_had row.imm w next p.imm imm (equal_is (length p.imm) (imm_len row.imm w) fit.imm);
      rep = rep_of_prefixes row.f3 (repeat_in p.prefixes) (repeat_in-is p.prefixes);
      rex = rex_joined row p next fit;
      b = demand_met row p next (regular_of row regular) fit;
    })
