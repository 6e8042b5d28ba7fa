use Rattle.std.proofs.Common.{ℕ, ◌≡◌, ◌%◌, ◌==◌, refl, ap, sym, ◌∙◌, subst, arith, List, Bool, true, not, ◌&&◌, ◌||◌, ◌⊎◌, inl, inr, Option, Some, None}
use Rattle.std.specs.Prelude.{if◌then◌else◌}
use Rattle.std.specs.List.{list_all}
use Rattle.std.proofs.lemmas.Bool.Decides.{nat_tests}
use Rattle.rz_isa.specs.Laws.Types.{Width, W64, Size, Row, Letter, Op, Insn, Place, Operand, Fields}
use Rattle.rz_flags.specs.Cond.{cond_of}
use Rattle.rz_isa.specs.declared.rows.Letter.TheVariants as letters
use Rattle.rz_isa.specs.declared.rows.Op.TheVariants as ops
use Rattle.rz_isa.specs.declared.instruction.Insn.TheVariants as insns
use Rattle.rz_isa.specs.Fields.{place_at, operand_at, reg_at, number_of, number_at, count_at, index_at, letter_width, rm_width, build_op}
use Rattle.rz_isa.specs.Insn.{target_of, rip_of, rip_of_operand, first_some, rip_target_of}
use Rattle.rz_isa.specs.Spelling.{is_one}
use Rattle.rz_isa.specs.Having.{has_width, has_reg, has_place}
use Rattle.rz_isa.specs.Finding.{same_truth}
use Rattle.rz_isa.specs.Regular.{is_regular}
use Rattle.rz_isa.specs.Suited.{letter_suits, letters_of, has_condition, has_target, has_repeat, is_displacement, is_repeats, has_two_repeats, is_repeats_both, stands_alone_at, lock_suits, prefixes_suit, is_indirect, is_wide_class, form_suits, is_suited}
use Rattle.rz_isa.specs.Spells.{next_address}
use Rattle.rz_isa.specs.Emitted.{is_wide_operand, indirect_operand}
use Rattle.rz_isa.specs.Targets.{IgnoresPlace, RipTargets, DirectTargets, IndirectOperands}
use Rattle.rz_isa.specs.Laws.Again.{Had, had_of}
use Rattle.rz_isa.specs.Laws.Complete.{fields_had}
use Rattle.rz_isa.specs.Laws.Exclusion.{list_all_get}
use Rattle.rz_isa.specs.Laws.Whole.{spelled_bytes}

-- What an instruction names by its address.

-- ---- what doesn't come from the ModRM operand

reg_same : (l : Letter) (f : Fields) (p : Place) → reg_at l (record f { rm = p }) ≡ reg_at l f
reg_same l f p = grind (arith, nat_tests)

number_same : (l : Letter) (f : Fields) (p : Place) → number_at l (record f { rm = p }) ≡ number_at l f
number_same l f p = ap number_of (reg_same l f p)

count_same : (l : Letter) (f : Fields) (p : Place) → count_at l (record f { rm = p }) ≡ count_at l f
count_same l f p = grind (arith, nat_tests)

index_same : (l : Letter) (f : Fields) (p : Place) → index_at l (record f { rm = p }) ≡ index_at l f
index_same l f p = grind (arith, nat_tests)

-- ---- a letter names the ModRM operand, or nothing that it changes

pub record Elsewhere (l : Letter) : Type 0 where
  pub same : (f : Fields) (p : Place) → place_at l (record f { rm = p }) ≡ place_at l f
  pub none : (f : Fields) → rip_of (place_at l f) ≡ None

place_use : (l : Letter) → Elsewhere l ⊎ ((f : Fields) → place_at l f ≡ f.rm)
place_use letters.G = inl (record { same = λ f p. refl; none = λ f. refl })
place_use letters.O = inl (record { same = λ f p. refl; none = λ f. refl })
place_use letters.A = inl (record { same = λ f p. refl; none = λ f. refl })
place_use _ = inr (λ f. refl)

pub record OperandElsewhere (l : Letter) : Type 0 where
  pub same : (f : Fields) (p : Place) → operand_at l (record f { rm = p }) ≡ operand_at l f
  pub none : (f : Fields) → rip_of_operand (operand_at l f) ≡ None

operand_use : (l : Letter) → OperandElsewhere l ⊎ ((f : Fields) → rip_of_operand (operand_at l f) ≡ rip_of f.rm)
operand_use letters.Imm = inl (record { same = λ f p. refl; none = λ f. refl })
operand_use letters.G = inl (record { same = λ f p. refl; none = λ f. refl })
operand_use letters.O = inl (record { same = λ f p. refl; none = λ f. refl })
operand_use letters.A = inl (record { same = λ f p. refl; none = λ f. refl })
operand_use _ = inr (λ f. refl)

-- ---- by the operation

abbrev pub Uses : Op → Type 0
Uses op = IgnoresPlace op ⊎ ((f : Fields) → rip_target_of (build_op op f) ≡ rip_of f.rm)

by_place : (op : Op) (l : Letter) (make : Place → Fields → Insn) → ((f : Fields) → build_op op f ≡ make (place_at l f) f) → ((q : Place) (f : Fields) (p : Place) → make q (record f { rm = p }) ≡ make q f)
    → ((q : Place) (f : Fields) → rip_target_of (make q f) ≡ rip_of q) → Uses op
by_place op l make h1 h2 h3 = grind (arith, nat_tests)

first_same : (o : Option ℕ) → first_some o o ≡ o
first_same o = grind (arith, nat_tests)

first_none : (o : Option ℕ) → first_some o None ≡ o
first_none o = grind (arith, nat_tests)

by_operands : (op : Op) (d s : Letter) (make : Place → Operand → Fields → Insn) → ((f : Fields) → build_op op f ≡ make (place_at d f) (operand_at s f) f)
    → ((q : Place) (r : Operand) (f : Fields) (p : Place) → make q r (record f { rm = p }) ≡ make q r f) → ((q : Place) (r : Operand) (f : Fields) → rip_target_of (make q r f) ≡ first_some (rip_of q) (rip_of_operand r)) → Uses op
by_operands op d s make built same rip = by (place_use d) (operand_use s)
  where
    names : (f : Fields) → rip_target_of (build_op op f) ≡ first_some (rip_of (place_at d f)) (rip_of_operand (operand_at s f))
    names f = ap rip_target_of (built f) ∙ rip (place_at d f) (operand_at s f) f

    by : Elsewhere d ⊎ ((f : Fields) → place_at d f ≡ f.rm) → OperandElsewhere s ⊎ ((f : Fields) → rip_of_operand (operand_at s f) ≡ rip_of f.rm) → Uses op
    by (inl a) (inl b) = inl (record {
      same = λ f p. built (record f { rm = p }) ∙ ((λ i. make (a.same f p i) (b.same f p i) (record f { rm = p })) ∙ (same (place_at d f) (operand_at s f) f p ∙ sym (built f)));
      none = λ f. names f ∙ (λ i. first_some (a.none f i) (b.none f i));
    })
    by (inl a) (inr e) = inr (λ f. names f ∙ (λ i. first_some (a.none f i) (e f i)))
    by (inr e) (inl b) = inr (λ f. names f ∙ ((λ i. first_some (rip_of (e f i)) (b.none f i)) ∙ first_none (rip_of f.rm)))
    by (inr e) (inr k) = inr (λ f. names f ∙ ((λ i. first_some (rip_of (e f i)) (k f i)) ∙ first_same (rip_of f.rm)))

by_operand : (op : Op) (s : Letter) (make : Operand → Insn) → ((f : Fields) → build_op op f ≡ make (operand_at s f)) → ((r : Operand) → rip_target_of (make r) ≡ rip_of_operand r) → Uses op
by_operand op s make h1 h2 = grind (arith, nat_tests)

pub rip_targets : RipTargets
rip_targets (ops.Arith o d s) = by_operands (ops.Arith o d s) d s (λ q r f. insns.Arith o f.w q r) (λ f. refl) (λ q r f p. refl) (λ q r f. refl)
rip_targets (ops.Test d s) = by_operands (ops.Test d s) d s (λ q r f. insns.Test f.w q r) (λ f. refl) (λ q r f p. refl) (λ q r f. refl)
rip_targets (ops.Mov d s) = by_operands (ops.Mov d s) d s (λ q r f. insns.Mov f.w q r) (λ f. refl) (λ q r f p. refl) (λ q r f. refl)
rip_targets (ops.Push s) = by_operand (ops.Push s) s (λ r. insns.Push r) (λ f. refl) (λ r. refl)
rip_targets (ops.Lea d s) = by_place (ops.Lea d s) s (λ q f. insns.Lea f.w (number_at d f) q) (λ f. refl) (λ q f p. ap (λ n. insns.Lea f.w n q) (number_same d f p)) (λ q f. refl)
rip_targets (ops.Extend o d s) = by_place (ops.Extend o d s) s (λ q f. insns.Extend o f.w (letter_width s f.w) (number_at d f) q) (λ f. refl) (λ q f p. ap (λ n. insns.Extend o f.w (letter_width s f.w) n q) (number_same d f p)) (λ q f. refl)
rip_targets (ops.Pop d) = by_place (ops.Pop d) d (λ q f. insns.Pop q) (λ f. refl) (λ q f p. refl) (λ q f. refl)
rip_targets (ops.Unary o d) = by_place (ops.Unary o d) d (λ q f. insns.Unary o f.w q) (λ f. refl) (λ q f p. refl) (λ q f. refl)
rip_targets (ops.Wide o s) = by_place (ops.Wide o s) s (λ q f. insns.Wide o f.w q) (λ f. refl) (λ q f p. refl) (λ q f. refl)
rip_targets (ops.Imul2 d s) = by_place (ops.Imul2 d s) s (λ q f. insns.Imul2 f.w (number_at d f) q) (λ f. refl) (λ q f p. ap (λ n. insns.Imul2 f.w n q) (number_same d f p)) (λ q f. refl)
rip_targets (ops.Imul3 d s i) = by_place (ops.Imul3 d s i) s (λ q f. insns.Imul3 f.w (number_at d f) q f.imm) (λ f. refl) (λ q f p. ap (λ n. insns.Imul3 f.w n q f.imm) (number_same d f p)) (λ q f. refl)
rip_targets (ops.Shift o d c) = by_place (ops.Shift o d c) d (λ q f. insns.Shift o f.w q (count_at c f)) (λ f. refl) (λ q f p. ap (insns.Shift o f.w q) (count_same c f p)) (λ q f. refl)
rip_targets (ops.DoubleShift o d s c) = by_place (ops.DoubleShift o d s c) d (λ q f. insns.DoubleShift o f.w q (number_at s f) (count_at c f)) (λ f. refl) (λ q f p. (λ i. insns.DoubleShift o f.w q (number_same s f p i) (count_same c f p i))) (λ q f. refl)
rip_targets (ops.Cmov d s) = by_place (ops.Cmov d s) s (λ q f. insns.Cmov (cond_of (f.cond % 16)) f.w (number_at d f) q) (λ f. refl) (λ q f p. ap (λ n. insns.Cmov (cond_of (f.cond % 16)) f.w n q) (number_same d f p)) (λ q f. refl)
rip_targets (ops.Set d) = by_place (ops.Set d) d (λ q f. insns.Set (cond_of (f.cond % 16)) q) (λ f. refl) (λ q f p. refl) (λ q f. refl)
rip_targets (ops.CallInd s) = by_place (ops.CallInd s) s (λ q f. insns.CallInd q) (λ f. refl) (λ q f p. refl) (λ q f. refl)
rip_targets (ops.JmpInd s) = by_place (ops.JmpInd s) s (λ q f. insns.JmpInd q) (λ f. refl) (λ q f p. refl) (λ q f. refl)
rip_targets (ops.Xchg d s) = by_place (ops.Xchg d s) d (λ q f. insns.Xchg f.w q (reg_at s f)) (λ f. refl) (λ q f p. ap (insns.Xchg f.w q) (reg_same s f p)) (λ q f. refl)
rip_targets (ops.CmpXchg d s) = by_place (ops.CmpXchg d s) d (λ q f. insns.CmpXchg f.w q (reg_at s f)) (λ f. refl) (λ q f p. ap (insns.CmpXchg f.w q) (reg_same s f p)) (λ q f. refl)
rip_targets (ops.Xadd d s) = by_place (ops.Xadd d s) d (λ q f. insns.Xadd f.w q (reg_at s f)) (λ f. refl) (λ q f p. ap (insns.Xadd f.w q) (reg_same s f p)) (λ q f. refl)
rip_targets (ops.BitTest o d i) = by_place (ops.BitTest o d i) d (λ q f. insns.BitTest o f.w q (index_at i f)) (λ f. refl) (λ q f p. ap (insns.BitTest o f.w q) (index_same i f p)) (λ q f. refl)
rip_targets (ops.Scan o d s) = by_place (ops.Scan o d s) s (λ q f. insns.Scan o f.w (number_at d f) q) (λ f. refl) (λ q f p. ap (λ n. insns.Scan o f.w n q) (number_same d f p)) (λ q f. refl)
rip_targets (ops.Bswap d) = inl (record { same = λ f p. ap (insns.Bswap f.w) (number_same d f p); none = λ f. refl })
rip_targets _ = inl (record { same = λ f p. refl; none = λ f. refl })

-- ---- direct targets

same_truth-is : (a b : Bool) → same_truth a b ≡ true → a ≡ b
same_truth-is a b e = grind arith

-- where two repeat prefixes may stand, the operation repeats in two ways
prefixes_parts : (a b c : Bool) → (a && b && c) ≡ true → b ≡ true
prefixes_parts a b c h = grind arith

suits_prefixes : (a b c d e f g : Bool) → (a && b && c && d && e && f && g) ≡ true → e ≡ true
suits_prefixes a b c d e f g h = grind arith

pub suited_repeats : (r : Row) → is_suited r ≡ true → has_two_repeats r.op ≡ is_repeats_both r.f3
suited_repeats r h = same_truth-is _ _ (prefixes_parts (if is_one r.map then stands_alone_at r 0xe8 else stands_alone_at r 0x1f) _ (lock_suits r)
    (suits_prefixes (list_all (letter_suits r) (letters_of r.op)) (same_truth (has_condition r.op) (r.span == 16)) (same_truth (has_target r.op) (is_displacement r.imm)) (same_truth (has_repeat r.op) (is_repeats r.f3)) (prefixes_suit r) (not (is_indirect r.op) || is_wide_class r.size) (form_suits r.form r.imm) h))

suits_all : (a b c d e f g : Bool) → (a && b && c && d && e && f && g) ≡ true → (c ≡ true) × (f ≡ true) × (g ≡ true)
suits_all a b c d e f g h = (grind arith, grind arith, grind arith)

suits : (r : Row) → is_suited r ≡ true
    → (same_truth (has_target r.op) (is_displacement r.imm) ≡ true) × ((not (is_indirect r.op) || is_wide_class r.size) ≡ true) × (form_suits r.form r.imm ≡ true)
suits r h = suits_all (list_all (letter_suits r) (letters_of r.op)) (same_truth (has_condition r.op) (r.span == 16)) _ (same_truth (has_repeat r.op) (is_repeats r.f3)) (prefixes_suit r) _ _ h

pub suited_form : (r : Row) → is_suited r ≡ true → form_suits r.form r.imm ≡ true
suited_form r h = (suits r h).2

target_by_op : (op : Op) (f : Fields) → target_of (build_op op f) ≡ (if has_target op then Some f.imm else None)
target_by_op op f = grind (arith, nat_tests)

pub direct_targets : (rows : List Row) → list_all is_suited rows ≡ true → DirectTargets rows
direct_targets rows all n row f at =
    let e = same_truth-is (has_target row.op) (is_displacement row.imm) (suits row (list_all_get is_suited rows n row all at)).0 in
    target_by_op row.op f ∙ ap (λ b. if b then Some f.imm else None) e

-- ---- indirect operands

wide_of_class : (c : Size) (w : Width) → is_wide_class c ≡ true → has_width c w ≡ true → W64 ≡ w
wide_of_class c w h1 h2 = grind (arith, nat_tests)

-- a place of 64 bits, by its letter
letter_wide : (row : Row) (l : Letter) (f : Fields) → has_reg row W64 f.reg ≡ true → has_place row.rm W64 f.rm ≡ true → is_wide_operand (place_at l f) ≡ true
letter_wide row l f h1 h2 = grind (arith, nat_tests)

some_is : (p q : Place) → Some p ≡ Some q → p ≡ q
some_is p q e = cc

by_letter : (row : Row) (op : Op) (l : Letter) (f : Fields) (p : Place) → op ≡ row.op → W64 ≡ f.w → has_place row.rm (rm_width op W64) f.rm ≡ has_place row.rm W64 f.rm → Had row f → Some (place_at l f) ≡ Some p → is_wide_operand p ≡ true
by_letter row op l f p eo ew same h e = subst (λ q. is_wide_operand q ≡ true) (some_is _ _ e)
    (letter_wide row l f (subst (λ w. has_reg row w f.reg ≡ true) (sym ew) h.reg) (sym same ∙ (ap (λ w. has_place row.rm (rm_width op w) f.rm) ew ∙ (ap (λ o. has_place row.rm (rm_width o f.w) f.rm) eo ∙ h.rm))))

indirect_wide : (row : Row) (op : Op) (f : Fields) (p : Place) → op ≡ row.op → (not (is_indirect op) || is_wide_class row.size) ≡ true → Had row f → indirect_operand (build_op op f) ≡ Some p → is_wide_operand p ≡ true
indirect_wide row (ops.CallInd l) f p eo wide h e = by_letter row (ops.CallInd l) l f p eo (wide_of_class row.size f.w wide h.w) refl h e
indirect_wide row (ops.JmpInd l) f p eo wide h e = by_letter row (ops.JmpInd l) l f p eo (wide_of_class row.size f.w wide h.w) refl h e
indirect_wide row _ f p eo wide h e = absurd (cc)

pub indirect_operands : (rows : List Row) → list_all is_regular rows ≡ true → list_all is_suited rows ≡ true → IndirectOperands rows
indirect_operands rows regular all n row x p at s e =
    let r = s.by_row in
    let b = spelled_bytes row r.parts s.bytes r.spelled in
    let had = had_of row _ (fields_had row r.parts (next_address s.at s.bytes) (list_all_get is_regular rows n row regular at) r.spelled.fits b.0 b.1) in
    indirect_wide row row.op _ p refl (suits row (list_all_get is_suited rows n row all at)).1 had (sym (ap indirect_operand r.names) ∙ e)
