use Rattle.std.proofs.Common.{ℕ, ◌≡◌, ◌%◌, ◌^◌, ◌<◌, ◌==◌, refl, ap, ◌∙◌, arith, Bool, true, not, ◌&&◌, ◌⊎◌, inl, inr, Option, Some, None}
use Rattle.std.specs.Prelude.{if◌then◌else◌}
use Rattle.std.specs.Option.{option_and_then}
use Rattle.std.proofs.lemmas.Bool.Decides.{nat_tests}
use Rattle.rz_isa.specs.Laws.Types.{Width, OpMap, Size, RmRule, Row, Letter, Op, Reg, Fields}
use Rattle.rz_flags.specs.Cond.{cond_of, number_of as number_of_cond}
use Rattle.rz_isa.specs.declared.rows.Letter.TheVariants as letters
use Rattle.rz_isa.specs.declared.rows.Op.TheVariants as ops
use Rattle.rz_isa.specs.declared.instruction.Reg.TheVariants as regs
use Rattle.rz_isa.specs.Spelling.{is_met, b_demand}
use Rattle.rz_isa.specs.Fields.{build_op, letter_width, rm_width, is_rep, repeat_of, place_at, operand_at, reg_at, number_of, number_at, count_at, index_at}
use Rattle.rz_isa.specs.Having.{has_width, has_reg, has_place, has_cond, has_imm, has_rep, bars_rex, needs_rex, in_opcode, opcode_of, b_needed, place_b, can_have}
use Rattle.rz_isa.specs.Finding.{repeat_byte, same_truth, same_arith, same_unary, same_wide, same_shift, same_bit, same_scan, same_change, least_width, least_place, least, with_place, with_operand, with_reg, with_number, with_count, with_index, same_width, rep_byte, found_in}
use Rattle.rz_isa.specs.Regular.{is_single, width_suits, names_number, is_exchange}
use Rattle.rz_isa.specs.Laws.Built.{imm_small}
use Rattle.rz_isa.specs.Laws.Exclusion.{each_from_at}
use Rattle.rz_isa.specs.Laws.Tests.{equal_is}
use Rattle.std.proofs.lemmas.Bool.{cases_Bool}

-- ---- fields that are those of others or the least that a row has

pub record Below (row : Row) (g f : Fields) : Type 0 where
  pub w : g.w ≡ f.w
  pub reg : (g.reg ≡ f.reg) ⊎ (g.reg ≡ regs.R 0)
  pub rm : (g.rm ≡ f.rm) ⊎ (g.rm ≡ least_place row.rm)
  pub cond : (g.cond ≡ f.cond) ⊎ (g.cond ≡ 0)
  pub imm : (g.imm ≡ f.imm) ⊎ (g.imm ≡ 0)
  pub rep : (g.rep ≡ f.rep) ⊎ (g.rep ≡ 0)

least_below : (row : Row) (f : Fields) → least_width row.size ≡ f.w → Below row (least row) f
least_below row f w = record { w = w; reg = inr refl; rm = inr refl; cond = inr refl; imm = inr refl; rep = inr refl }

-- the least fields with the width
width_below : (row : Row) (f : Fields) → Below row (record (least row) { w = f.w }) f
width_below row f = record { w = refl; reg = inr refl; rm = inr refl; cond = inr refl; imm = inr refl; rep = inr refl }

-- ---- each step finds what was there

abbrev pub Step : Row → Fields → Option Fields → Type 0
Step row f o = (g : Fields) × ((o ≡ Some g) × Below row g f)

-- the register is the one that its number alone names
abbrev pub Numbered : Fields → Type 0
Numbered f = regs.R (number_of f.reg) ≡ f.reg

reg_below : (row : Row) (f b : Fields) (r : Reg) → r ≡ f.reg → Below row b f → Below row (record b { reg = r }) f
reg_below row f b r e h = record { w = h.w; reg = inl e; rm = h.rm; cond = h.cond; imm = h.imm; rep = h.rep }

rm_below : (row : Row) (f b : Fields) → Below row b f → Below row (record b { rm = f.rm }) f
rm_below row f b h = record { w = h.w; reg = h.reg; rm = inl refl; cond = h.cond; imm = h.imm; rep = h.rep }

imm_below : (row : Row) (f b : Fields) (n : ℕ) → n ≡ f.imm → Below row b f → Below row (record b { imm = n }) f
imm_below row f b n e h = record { w = h.w; reg = h.reg; rm = h.rm; cond = h.cond; imm = inl e; rep = h.rep }

place_again : (row : Row) (l : Letter) (f b : Fields) → Below row b f → Step row f (with_place l (place_at l f) b)
place_again row letters.G f b h = (record b { reg = f.reg }, (refl, reg_below row f b f.reg refl h))
place_again row letters.O f b h = (record b { reg = f.reg }, (refl, reg_below row f b f.reg refl h))
place_again row letters.A f b h = (b, (refl, h))
place_again row _ f b h = (record b { rm = f.rm }, (refl, rm_below row f b h))

operand_again : (row : Row) (l : Letter) (f b : Fields) → Below row b f → Step row f (with_operand l (operand_at l f) b)
operand_again row letters.Imm f b h = (record b { imm = f.imm }, (refl, imm_below row f b f.imm refl h))
operand_again row l f b h = place_again row l f b h

reg_again : (row : Row) (l : Letter) (f b : Fields) → Below row b f → Step row f (with_reg l (reg_at l f) b)
reg_again row letters.A f b h = (b, (refl, h))
reg_again row _ f b h = (record b { reg = f.reg }, (refl, reg_below row f b f.reg refl h))

number_again : (row : Row) (l : Letter) (f b : Fields) → Numbered f → Below row b f → Step row f (with_number l (number_at l f) b)
number_again row letters.A f b n h = (b, (refl, h))
number_again row _ f b n h = (record b { reg = regs.R (number_of f.reg) }, (refl, reg_below row f b (regs.R (number_of f.reg)) n h))

small_is : (n : ℕ) → n < 2 ^ 8 → n % 2 ^ 8 ≡ n
small_is n lt = omega arith

count_again : (row : Row) (l : Letter) (f b : Fields) → f.imm < 2 ^ 8 → Below row b f → Step row f (with_count l (count_at l f) b)
count_again row letters.One f b small h = (b, (refl, h))
count_again row letters.Cl f b small h = (b, (refl, h))
count_again row _ f b small h = (record b { imm = f.imm % 2 ^ 8 }, (refl, imm_below row f b (f.imm % 2 ^ 8) (small_is f.imm small) h))

index_again : (row : Row) (l : Letter) (f b : Fields) → f.imm < 2 ^ 8 → Numbered f → Below row b f → Step row f (with_index l (index_at l f) b)
index_again row letters.Imm f b small n h = (record b { imm = f.imm % 2 ^ 8 }, (refl, imm_below row f b (f.imm % 2 ^ 8) (small_is f.imm small) h))
index_again row l f b small n h = number_again row l f b n h

-- two steps
both_again : (row : Row) (f : Fields) (o : Option Fields) (k : Fields → Option Fields) → Step row f o → ((m : Fields) → Below row m f → Step row f (k m)) → Step row f (option_and_then k o)
both_again row f o k m next = (let g = next m.0 m.1.1 in (g.0, (ap (option_and_then k) m.1.0 ∙ g.1.0, g.1.1)))

place_operand_again : (row : Row) (d s : Letter) (f b : Fields) → Below row b f → Step row f (option_and_then (with_operand s (operand_at s f)) (with_place d (place_at d f) b))
place_operand_again row d s f b h = both_again row f _ _ (place_again row d f b h) (λ m k. operand_again row s f m k)

number_place_again : (row : Row) (d s : Letter) (f b : Fields) → Numbered f → Below row b f → Step row f (option_and_then (with_place s (place_at s f)) (with_number d (number_at d f) b))
number_place_again row d s f b n h = both_again row f _ _ (number_again row d f b n h) (λ m k. place_again row s f m k)

-- ---- the other fields

cond_back : (n : ℕ) → n < 16 → number_of_cond (cond_of (n % 16)) ≡ n
cond_back n lt = equal_is _ _ (each_from_at (λ k. number_of_cond (cond_of (k % 16)) == k) 0 16 n refl (omega arith) (omega arith))

cond_low : (span n : ℕ) → has_cond span n ≡ true → n < 16
cond_low span n h = grind (arith, nat_tests)

pub cond_found : (span n : ℕ) → has_cond span n ≡ true → number_of_cond (cond_of (n % 16)) ≡ n
cond_found span n h = cond_back n (cond_low span n h)

pub rep_found : (n : ℕ) → (rep_byte (is_rep n) ≡ n) ⊎ (rep_byte (is_rep n) ≡ 0)
rep_found n = elim (cases_Bool (n == 0xf3)) [
  | inl y ↦ inl (grind (arith, nat_tests))
  | inr k ↦ inr (ap rep_byte k)
]

-- the same of a comparison that repeats
pub repeat_found : (n : ℕ) → (repeat_byte (repeat_of n) ≡ n) ⊎ (repeat_byte (repeat_of n) ≡ 0)
repeat_found n = elim (cases_Bool (n == 0xf3)) [
  | inl y ↦ inl (grind (arith, nat_tests))
  | inr a ↦ elim (cases_Bool (n == 0xf2)) [ inl y ↦ inl (grind (arith, nat_tests)) | inr b ↦ inr (grind (arith, nat_tests)) ]
]

pub single_width : (c : Size) (w : Width) → is_single c ≡ true → has_width c w ≡ true → least_width c ≡ w
single_width c w h1 h2 = grind (arith, nat_tests)

-- ---- the tests of a row's fields, one by one

pub record Had (row : Row) (f : Fields) : Type 0 where
  pub w : has_width row.size f.w ≡ true
  pub reg : has_reg row f.w f.reg ≡ true
  pub rm : has_place row.rm (rm_width row.op f.w) f.rm ≡ true
  pub cond : has_cond row.span f.cond ≡ true
  pub imm : has_imm row.imm f.w f.imm ≡ true
  pub rep : has_rep row.f3 f.rep ≡ true
  pub rex : not (bars_rex f && needs_rex row f) ≡ true
  pub b : is_met (b_demand row.op row.map (opcode_of row f)) (b_needed row f) ≡ true

pub eight : (a b c d e f g h : Bool) → (a && b && c && d && e && f && g && h) ≡ true → (a ≡ true) × (b ≡ true) × (c ≡ true) × (d ≡ true) × (e ≡ true) × (f ≡ true) × (g ≡ true) × (h ≡ true)
eight a b c d e f g h x = (grind arith, grind arith, grind arith, grind arith, grind arith, grind arith, grind arith, grind arith)

pub all_eight : (a b c d e f g h : Bool) → a ≡ true → b ≡ true → c ≡ true → d ≡ true → e ≡ true → f ≡ true → g ≡ true → h ≡ true → (a && b && c && d && e && f && g && h) ≡ true
all_eight a b c d e f g h ea eb ec ed ee ef eg eh = grind arith

pub had_of : (row : Row) (f : Fields) → can_have row f ≡ true → Had row f
had_of row f h =
    let e = eight (has_width row.size f.w) (has_reg row f.w f.reg) (has_place row.rm (rm_width row.op f.w) f.rm) (has_cond row.span f.cond) (has_imm row.imm f.w f.imm) (has_rep row.f3 f.rep)
    (not (bars_rex f && needs_rex row f)) (is_met (b_demand row.op row.map (opcode_of row f)) (b_needed row f)) h in
    record { w = e.0; reg = e.1; rm = e.2; cond = e.3; imm = e.4; rep = e.5; rex = e.6; b = e.7 }

pub can_of : (row : Row) (f : Fields) → Had row f → can_have row f ≡ true
can_of row f h = all_eight _ _ _ _ _ _ _ _ h.w h.reg h.rm h.cond h.imm h.rep h.rex h.b

-- ---- REX.B of what is found

nop_met : (m : OpMap) (o n : ℕ) → n ≡ 0 → is_met (b_demand ops.Nop m o) n ≡ true
nop_met m o n h1 = grind (arith, nat_tests)

pub least_place_b : (r : Option RmRule) → place_b (least_place r) ≡ 0
least_place_b r = grind (arith, nat_tests)

pub least_b : (row : Row) → b_needed row (least row) ≡ 0
least_b row = grind (arith, nat_tests)

-- the exchange with the accumulator takes its register from the opcode
exchange_met : (row : Row) (f g : Fields) (op : Op) → in_opcode row.rm row.span ≡ true → g.reg ≡ f.reg → is_met (b_demand op row.map (opcode_of row f)) (b_needed row f) ≡ true
    → is_met (b_demand op row.map (opcode_of row g)) (b_needed row g) ≡ true
exchange_met row f g op h1 h2 h3 = grind (arith, nat_tests)

-- ---- what builds an instruction is found again

-- what is found lies below, or is the least where the operation names nothing
abbrev pub Lesser : Op → Row → Fields → Fields → Type 0
Lesser op row g f = Below row g f ⊎ ((g ≡ least row) × (op ≡ ops.Nop))

pub rm_lesser : (op : Op) (row : Row) (g f : Fields) → Lesser op row g f → (g.rm ≡ f.rm) ⊎ (g.rm ≡ least_place row.rm)
rm_lesser op row g f (inl b) = b.rm
rm_lesser op row g f (inr l) = inr (ap (λ (k : Fields). k.rm) l.0)

pub record Again (op : Op) (row : Row) (f : Fields) : Type 0 where
  pub g : Fields
  pub found : found_in op (build_op op f) (least row) ≡ Some g
  pub below : Lesser op row g f
  pub b : is_met (b_demand op row.map (opcode_of row g)) (b_needed row g) ≡ true

pub record Asked (op : Op) (row : Row) (f : Fields) : Type 0 where
  pub w : has_width row.size f.w ≡ true
  pub cond : has_cond row.span f.cond ≡ true
  pub rep : has_rep row.f3 f.rep ≡ true
  pub small : imm_small op f.imm
  pub single : width_suits op row.size ≡ true
  pub number : names_number op ≡ true → Numbered f
  pub exchange : is_exchange op ≡ true → in_opcode row.rm row.span ≡ true
  pub b : is_met (b_demand op row.map (opcode_of row f)) (b_needed row f) ≡ true

cut16 : (n : ℕ) → n < 2 ^ 16 → n % 2 ^ 16 ≡ n
cut16 n lt = omega arith

cond_below : (row : Row) (f b : Fields) (n : ℕ) → n ≡ f.cond → Below row b f → Below row (record b { cond = n }) f
cond_below row f b n e h = record { w = h.w; reg = h.reg; rm = h.rm; cond = inl e; imm = h.imm; rep = h.rep }

rep_below : (row : Row) (f b : Fields) (n : ℕ) → (n ≡ f.rep) ⊎ (n ≡ 0) → Below row b f → Below row (record b { rep = n }) f
rep_below row f b n e h = record { w = h.w; reg = h.reg; rm = h.rm; cond = h.cond; imm = h.imm; rep = e }

-- the least fields where the operation doesn't name its width
alone : (row : Row) (f : Fields) → is_single row.size ≡ true → has_width row.size f.w ≡ true → Below row (least row) f
alone row f s h = least_below row f (single_width row.size f.w s h)

when_true : (b : Bool) (o : Option Fields) → b ≡ true → (if b then o else None) ≡ o
when_true b o e = ap (λ k. if k then o else None) e

-- the operation demands nothing of REX.B
free : (op : Op) (row : Row) (f : Fields) → ((m : OpMap) (o n : ℕ) → is_met (b_demand op m o) n ≡ true) → Step row f (found_in op (build_op op f) (least row)) → Again op row f
free op row f met r = record { g = r.0; found = r.1.0; below = inl r.1.1; b = met row.map (opcode_of row r.0) (b_needed row r.0) }

-- one of several operations
same : (row : Row) (f : Fields) (b : Bool) (o : Option Fields) → b ≡ true → Step row f o → Step row f (if b then o else None)
same row f b o e r = (r.0, (when_true b o e ∙ r.1.0, r.1.1))

stays : (row : Row) (f g : Fields) → Below row g f → Step row f (Some g)
stays row f g h = (g, (refl, h))

pub again : (op : Op) (row : Row) (f : Fields) → Asked op row f → Again op row f
again (ops.Arith o d s) row f h = free _ row f (λ m k n. refl) (same row f (same_arith o o) _ (grind arith) (place_operand_again row d s f _ (width_below row f)))
again (ops.Test d s) row f h = free _ row f (λ m k n. refl) (place_operand_again row d s f _ (width_below row f))
again (ops.Mov d s) row f h = free _ row f (λ m k n. refl) (place_operand_again row d s f _ (width_below row f))
again (ops.Lea d s) row f h = free _ row f (λ m k n. refl) (number_place_again row d s f _ (h.number refl) (width_below row f))
again (ops.Extend o d s) row f h =
    let t : (same_truth o o && same_width (letter_width s f.w) (letter_width s f.w)) ≡ true = grind arith in
    free _ row f (λ m k n. refl) (same row f _ _ t (number_place_again row d s f _ (h.number refl) (width_below row f)))
again (ops.Push s) row f h = free _ row f (λ m k n. refl) (operand_again row s f (least row) (alone row f h.single h.w))
again (ops.Pop d) row f h = free _ row f (λ m k n. refl) (place_again row d f (least row) (alone row f h.single h.w))
again (ops.Unary o d) row f h = free _ row f (λ m k n. refl) (same row f (same_unary o o) _ (grind arith) (place_again row d f _ (width_below row f)))
again (ops.Wide o s) row f h = free _ row f (λ m k n. refl) (same row f (same_wide o o) _ (grind arith) (place_again row s f _ (width_below row f)))
again (ops.Imul2 d s) row f h = free _ row f (λ m k n. refl) (number_place_again row d s f _ (h.number refl) (width_below row f))
again (ops.Imul3 d s i) row f h = free _ row f (λ m k n. refl) (number_place_again row d s f _ (h.number refl) (imm_below row f _ f.imm refl (width_below row f)))
again (ops.Shift o d c) row f h = free _ row f (λ m k n. refl) (same row f (same_shift o o) _ (grind arith) (both_again row f _ _ (place_again row d f _ (width_below row f)) (λ m k. count_again row c f m h.small k)))
again (ops.DoubleShift o d s c) row f h = free _ row f (λ m k n. refl)
    (same row f (same_truth o o) _ (grind arith) (both_again row f _ _ (both_again row f _ _ (place_again row d f _ (width_below row f)) (λ m k. number_again row s f m (h.number refl) k)) (λ m k. count_again row c f m h.small k)))
again (ops.Cmov d s) row f h = free _ row f (λ m k n. refl) (number_place_again row d s f _ (h.number refl) (cond_below row f _ _ (cond_found row.span f.cond h.cond) (width_below row f)))
again (ops.Set d) row f h = free _ row f (λ m k n. refl) (place_again row d f _ (cond_below row f _ _ (cond_found row.span f.cond h.cond) (alone row f h.single h.w)))
again ops.Jcc row f h = free _ row f (λ m k n. refl) (stays row f _ (imm_below row f _ f.imm refl (cond_below row f _ _ (cond_found row.span f.cond h.cond) (alone row f h.single h.w))))
again (ops.CallInd s) row f h = free _ row f (λ m k n. refl) (place_again row s f (least row) (alone row f h.single h.w))
again (ops.JmpInd s) row f h = free _ row f (λ m k n. refl) (place_again row s f (least row) (alone row f h.single h.w))
again ops.Ret row f h = free _ row f (λ m k n. refl) (stays row f _ (imm_below row f (least row) (f.imm % 2 ^ 16) (cut16 f.imm h.small) (alone row f h.single h.w)))
again ops.Convert row f h = free _ row f (λ m k n. refl) (stays row f _ (width_below row f))
again ops.SignFill row f h = free _ row f (λ m k n. refl) (stays row f _ (width_below row f))
again ops.Nop row f h = record { g = least row; found = refl; below = inr (refl, refl); b = nop_met row.map (opcode_of row (least row)) (b_needed row (least row)) (least_b row) }
again (ops.Bswap d) row f h = free _ row f (λ m k n. refl) (number_again row d f _ (h.number refl) (width_below row f))
again (ops.BitTest o d i) row f h = free _ row f (λ m k n. refl) (same row f (same_bit o o) _ (grind arith) (both_again row f _ _ (place_again row d f _ (width_below row f)) (λ m k. index_again row i f m h.small (h.number refl) k)))
again (ops.Scan o d s) row f h = free _ row f (λ m k n. refl) (same row f (same_scan o o) _ (grind arith) (number_place_again row d s f _ (h.number refl) (width_below row f)))
again ops.Movs row f h = free _ row f (λ m k n. refl) (stays row f _ (rep_below row f _ _ (rep_found f.rep) (width_below row f)))
again ops.Stos row f h = free _ row f (λ m k n. refl) (stays row f _ (rep_below row f _ _ (rep_found f.rep) (width_below row f)))
again ops.Cmps row f h = free _ row f (λ m k n. refl) (stays row f _ (rep_below row f _ _ (repeat_found f.rep) (width_below row f)))
again ops.Scas row f h = free _ row f (λ m k n. refl) (stays row f _ (rep_below row f _ _ (repeat_found f.rep) (width_below row f)))
again (ops.Flag o) row f h = free _ row f (λ m k n. refl) (same row f (same_change o o) _ (grind arith) (stays row f _ (alone row f h.single h.w)))
again (ops.Xchg letters.O letters.A) row f h =
    let g : Fields = record (least row) { w = f.w; reg = f.reg } in
    record { g = g; found = refl; below = inl (reg_below row f _ f.reg refl (width_below row f)); b = exchange_met row f g (ops.Xchg letters.O letters.A) (h.exchange refl) refl h.b }
again (ops.Xchg d s) row f h =
    let r = both_again row f _ _ (place_again row d f _ (width_below row f)) (λ m k. reg_again row s f m k) in
    record { g = r.0; found = r.1.0; below = inl r.1.1; b = refl }
again (ops.CmpXchg d s) row f h = free _ row f (λ m k n. refl) (both_again row f _ _ (place_again row d f _ (width_below row f)) (λ m k. reg_again row s f m k))
again (ops.Xadd d s) row f h = free _ row f (λ m k n. refl) (both_again row f _ _ (place_again row d f _ (width_below row f)) (λ m k. reg_again row s f m k))
again ops.Jrcxz row f h = free _ row f (λ m k n. refl) (stays row f _ (imm_below row f _ f.imm refl (alone row f h.single h.w)))
again ops.Jmp row f h = free _ row f (λ m k n. refl) (stays row f _ (imm_below row f _ f.imm refl (alone row f h.single h.w)))
again ops.Call row f h = free _ row f (λ m k n. refl) (stays row f _ (imm_below row f _ f.imm refl (alone row f h.single h.w)))
again _ row f h = free _ row f (λ m k n. refl) (stays row f _ (alone row f h.single h.w))
