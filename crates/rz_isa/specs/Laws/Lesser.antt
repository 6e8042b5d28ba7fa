use Rattle.std.proofs.Common.{ℕ, ◌≡◌, ◌≤◌, ◌==◌, refl, ap, sym, ◌∙◌, subst, arith, Bool, true, false, not, ◌&&◌, ◌||◌, ◌⊎◌, inl, inr, Option}
use Rattle.std.specs.Prelude.{nat_lt}
use Rattle.std.proofs.lemmas.Bool.Decides.{nat_tests}
use Rattle.rz_isa.specs.Laws.Types.{Width, F3Rule, Size, RmRule, ImmKind, Row, Op, Fields}
use Rattle.rz_isa.specs.declared.instruction.Reg.TheVariants as regs
use Rattle.rz_isa.specs.Spelling.{is_met, b_demand}
use Rattle.rz_isa.specs.Fields.{rm_width}
use Rattle.rz_isa.specs.Having.{has_width, is_register, is_first, is_high, is_low_byte, in_reg_field, in_opcode, has_reg, has_place, has_cond, has_imm, has_rep, w_needed, r_needed, x_needed, b_needed, rex_needed, low_byte_place, high_place, bars_rex, needs_rex, opcode_of}
use Rattle.rz_isa.specs.Finding.{least_width, least_place, least}
use Rattle.rz_isa.specs.Regular.{is_byte_class}
use Rattle.rz_isa.specs.Laws.Again.{Below, Lesser, Numbered, Had, least_b}
use Rattle.rz_isa.specs.Laws.Tests.{never, if_both}

-- Lesser fields can be had where the fields that they are below can.

-- ---- a register of more than 8 bits is named by its number

pub numbered : (row : Row) (f : Fields) → Had row f → is_byte_class row.size ≡ false → Numbered f
numbered row f h1 h2 = grind (arith, nat_tests)

-- ---- the least value of each field

first-had : (row : Row) (w : Width) → has_reg row w (regs.R 0) ≡ true
first-had row w = if_both (λ k. k ≡ true) (in_reg_field row.rm row.digit || in_opcode row.rm row.span) (is_register w (regs.R 0)) (is_first (regs.R 0)) (λ _. refl) (λ _. refl)

least_place-had : (r : Option RmRule) (w : Width) → has_place r w (least_place r) ≡ true
least_place-had r w = grind (arith, nat_tests)

no_cond : (span : ℕ) → has_cond span 0 ≡ true
no_cond span = if_both (λ k. k ≡ true) (span == 16) true true (λ _. refl) (λ _. refl)

no_imm : (k : Option ImmKind) (w : Width) → has_imm k w 0 ≡ true
no_imm k w = grind (arith, nat_tests)

no_rep : (r : F3Rule) → has_rep r 0 ≡ true
no_rep r = grind (arith, nat_tests)

pub first_low : (w : Width) → is_low_byte w (regs.R 0) ≡ false
first_low w = grind (arith, nat_tests)

least_low : (r : Option RmRule) (w : Width) → low_byte_place w (least_place r) ≡ false
least_low r w = grind (arith, nat_tests)

least_high : (r : Option RmRule) → high_place (least_place r) ≡ false
least_high r = grind (arith, nat_tests)

least-had : (row : Row) → is_met (b_demand row.op row.map (opcode_of row (least row))) (b_needed row (least row)) ≡ true → Had row (least row)
least-had row h1 = grind (arith, nat_tests)

-- ---- a test that the fields pass, and that the least value passes

pub either_way : {X : Type 0} (P : X → Type 0) (a b c : X) → (a ≡ b) ⊎ (a ≡ c) → P b → P c → P a
either_way P a b c h1 h2 h3 = grind (arith, nat_tests)

rex_less : (row : Row) (g f : Fields) → Below row g f → rex_needed row g ≤ rex_needed row f
rex_less row g f h1 = grind (arith, nat_tests)

-- what the lesser fields need or bar, the others do
abbrev Kept : Bool → Bool → Type 0
Kept a b = a ≡ true → b ≡ true

false_kept : (a b : Bool) → a ≡ false → Kept a b
false_kept a b e h = absurd (never a h e)

or_kept : (a b c d : Bool) → Kept a c → Kept b d → Kept (a || b) (c || d)
or_kept true b c d f g h = (let e : c ≡ true = f refl in grind arith)
or_kept false true c d f g h = (let e : d ≡ true = g refl in grind arith)
or_kept false false c d f g h = absurd (cc)

not_and : (a b c d : Bool) → Kept a c → Kept b d → not (c && d) ≡ true → not (a && b) ≡ true
not_and a b c d h1 h2 h3 = grind (arith, nat_tests)

positive : (a b : ℕ) → a ≤ b → Kept (nat_lt 0 a) (nat_lt 0 b)
positive a b h p = grind (arith, nat_tests)

-- where the lesser fields need a REX, the others do
below_needs : (row : Row) (g f : Fields) → Below row g f → Kept (needs_rex row g) (needs_rex row f)
below_needs row g f b =
    let v = rm_width row.op f.w in
    let low : Kept (is_low_byte g.w g.reg) (is_low_byte f.w f.reg) = subst (λ w. Kept (is_low_byte w g.reg) (is_low_byte f.w f.reg)) (sym b.w)
    (either_way (λ r. Kept (is_low_byte f.w r) (is_low_byte f.w f.reg)) g.reg f.reg (regs.R 0) b.reg (λ e. e) (false_kept _ _ (first_low f.w))) in
    let place : Kept (low_byte_place (rm_width row.op g.w) g.rm) (low_byte_place v f.rm) = subst (λ w. Kept (low_byte_place (rm_width row.op w) g.rm) (low_byte_place v f.rm)) (sym b.w)
    (either_way (λ p. Kept (low_byte_place v p) (low_byte_place v f.rm)) g.rm f.rm (least_place row.rm) b.rm (λ e. e) (false_kept _ _ (least_low row.rm v))) in
    or_kept _ _ _ _ (or_kept _ _ _ _ (positive _ _ (rex_less row g f b)) low) place

w_less : (c : Size) (w : Width) → w_needed c (least_width c) ≤ w_needed c w
w_less c w = grind (arith, nat_tests)

least_x : (r : Option RmRule) → x_needed (least_place r) ≡ 0
least_x r = grind (arith, nat_tests)

least_r : (row : Row) → r_needed row (least row) ≡ 0
least_r row = grind (arith, nat_tests)

least_rex : (row : Row) (f : Fields) → rex_needed row (least row) ≤ rex_needed row f
least_rex row f =
    let w = w_less row.size f.w in
    let r = least_r row in
    let x = least_x row.rm in
    let b = least_b row in
    omega arith

least_needs : (row : Row) (f : Fields) → Kept (needs_rex row (least row)) (needs_rex row f)
least_needs row f = or_kept _ _ _ _ (or_kept _ _ _ _ (positive _ _ (least_rex row f)) (false_kept _ _ (first_low (least_width row.size)))) (false_kept _ _ (least_low row.rm (rm_width row.op (least_width row.size))))

pub needs_kept : (op : Op) (row : Row) (g f : Fields) → Lesser op row g f → needs_rex row g ≡ true → needs_rex row f ≡ true
needs_kept op row g f (inl b) = below_needs row g f b
needs_kept op row g f (inr e) = subst (λ k. Kept (needs_rex row k) (needs_rex row f)) (sym e.0) (least_needs row f)

rex-had : (row : Row) (g f : Fields) → Had row f → Below row g f → not (bars_rex g && needs_rex row g) ≡ true
rex-had row g f h b =
    let bars : Kept (bars_rex g) (bars_rex f) = or_kept _ _ _ _
    (either_way (λ r. Kept (is_high r) (is_high f.reg)) g.reg f.reg (regs.R 0) b.reg (λ e. e) (false_kept _ _ refl))
    (either_way (λ p. Kept (high_place p) (high_place f.rm)) g.rm f.rm (least_place row.rm) b.rm (λ e. e) (false_kept _ _ (least_high row.rm))) in
    not_and (bars_rex g) (needs_rex row g) (bars_rex f) (needs_rex row f) bars (below_needs row g f b) h.rex

below-had : (row : Row) (g f : Fields) → Had row f → Below row g f → is_met (b_demand row.op row.map (opcode_of row g)) (b_needed row g) ≡ true → Had row g
below-had row g f h b met = record {
  w = ap (has_width row.size) b.w ∙ h.w;
  reg = ap (λ w. has_reg row w g.reg) b.w ∙ either_way (λ r. has_reg row f.w r ≡ true) g.reg f.reg (regs.R 0) b.reg h.reg (first-had row f.w);
  rm = ap (λ w. has_place row.rm (rm_width row.op w) g.rm) b.w ∙ either_way (λ p. has_place row.rm (rm_width row.op f.w) p ≡ true) g.rm f.rm (least_place row.rm) b.rm h.rm (least_place-had row.rm (rm_width row.op f.w));
  cond = either_way (λ n. has_cond row.span n ≡ true) g.cond f.cond 0 b.cond h.cond (no_cond row.span);
  imm = ap (λ w. has_imm row.imm w g.imm) b.w ∙ either_way (λ n. has_imm row.imm f.w n ≡ true) g.imm f.imm 0 b.imm h.imm (no_imm row.imm f.w);
  rep = either_way (λ n. has_rep row.f3 n ≡ true) g.rep f.rep 0 b.rep h.rep (no_rep row.f3);
  rex = rex-had row g f h b;
  b = met;
}

pub found_had : (row : Row) (g f : Fields) → Had row f → Lesser row.op row g f → is_met (b_demand row.op row.map (opcode_of row g)) (b_needed row g) ≡ true → Had row g
found_had row g f h (inl b) met = below-had row g f h b met
found_had row g f h (inr e) met = subst (Had row) (sym e.0) (least-had row (subst (λ k. is_met (b_demand row.op row.map (opcode_of row k)) (b_needed row k) ≡ true) e.0 met))
