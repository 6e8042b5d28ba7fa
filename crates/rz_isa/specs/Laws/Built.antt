use Rattle.std.proofs.Common.{ℕ, ◌≡◌, ◌%◌, ◌^◌, ◌<◌, refl, ap, sym, ◌∙◌, arith, true, ◌&&◌, Option, Some}
use Rattle.std.specs.Prelude.{⊤}
use Rattle.std.specs.Option.{option_and_then}
use Rattle.std.proofs.lemmas.Bool.Decides.{nat_tests}
use Rattle.std.proofs.lemmas.Option.{option_and_then_some}
use Rattle.rz_isa.specs.Laws.Types.{Cond, Letter, Op, Insn, Reg, Place, Operand, Count, BitIndex, Fields}
use Rattle.rz_flags.specs.Cond.{cond_of, number_of as number_of_cond}
use Rattle.rz_isa.specs.declared.rows.Op.TheVariants as ops
use Rattle.rz_isa.specs.declared.instruction.Insn.TheVariants as insns
use Rattle.rz_isa.specs.declared.instruction.Reg.TheVariants as regs
use Rattle.rz_isa.specs.Fields.{build_op, letter_width, place_at, operand_at, reg_at, number_of, number_at, count_at, index_at}
use Rattle.rz_isa.specs.Having.{is_first}
use Rattle.rz_isa.specs.Finding.{with_place, with_operand, with_reg, with_number, with_count, with_index, same_width, same_truth, same_arith, same_shift, same_bit, same_scan, found_in}
use Rattle.rz_isa.specs.Regular.{Slot, nowhere, in_rm, in_reg, in_imm, place_slot, operand_slot, reg_slot, count_slot, index_slot, apart, operands_apart}
use Rattle.rz_isa.specs.Laws.Tests.{and_parts, some_same, passed, and_three}

-- ---- a step changes the field of its letter alone

abbrev pub Kept : Slot → Fields → Fields → Type 0
Kept nowhere f g = g ≡ f
Kept in_rm f g = g ≡ record f { rm = g.rm }
Kept in_reg f g = g ≡ record f { reg = g.reg }
Kept in_imm f g = g ≡ record f { imm = g.imm }

pub first_is : (r : Reg) → is_first r ≡ true → regs.R 0 ≡ r
first_is r h1 = grind (arith, nat_tests)

pub with_place-step : (l : Letter) (p : Place) (f g : Fields) → with_place l p f ≡ Some g → (place_at l g ≡ p) × Kept (place_slot l) f g
with_place-step l p f g h1 = grind (arith, nat_tests)

pub with_operand-step : (l : Letter) (o : Operand) (f g : Fields) → with_operand l o f ≡ Some g → (operand_at l g ≡ o) × Kept (operand_slot l) f g
with_operand-step l o f g h1 = grind (arith, nat_tests)

pub with_reg-step : (l : Letter) (r : Reg) (f g : Fields) → with_reg l r f ≡ Some g → (reg_at l g ≡ r) × Kept (reg_slot l) f g
with_reg-step l r f g h1 = grind (arith, nat_tests)

pub with_number-step : (l : Letter) (n : ℕ) (f g : Fields) → with_number l n f ≡ Some g → (number_at l g ≡ n) × Kept (reg_slot l) f g
with_number-step l n f g e = let t = with_reg-step l (regs.R n) f g e in (ap number_of t.0, t.1)

pub with_count-step : (l : Letter) (c : Count) (f g : Fields) → g.imm < 2 ^ 8 → with_count l c f ≡ Some g → (count_at l g ≡ c) × Kept (count_slot l) f g
with_count-step l c f g h1 h2 = grind (arith, nat_tests)

pub with_index-step : (l : Letter) (x : BitIndex) (f g : Fields) → g.imm < 2 ^ 8 → with_index l x f ≡ Some g → (index_at l g ≡ x) × Kept (index_slot l) f g
with_index-step l x f g h1 h2 = grind (arith, nat_tests)

-- ---- what another step leaves

pub place_kept : (l : Letter) (t : Slot) (f g : Fields) → apart (place_slot l) t ≡ true → Kept t f g → place_at l g ≡ place_at l f
place_kept l t f g h1 h2 = grind (arith, nat_tests)

pub reg_kept : (l : Letter) (t : Slot) (f g : Fields) → apart (reg_slot l) t ≡ true → Kept t f g → reg_at l g ≡ reg_at l f
reg_kept l t f g h1 h2 = grind (arith, nat_tests)

pub w_kept : (t : Slot) (f g : Fields) → Kept t f g → g.w ≡ f.w
w_kept t f g h1 = grind (arith, nat_tests)

pub cond_kept : (t : Slot) (f g : Fields) → Kept t f g → g.cond ≡ f.cond
cond_kept t f g h1 = grind (arith, nat_tests)

-- the immediate of a product stands before its operands
place_imm : (l : Letter) (f g : Fields) → Kept (place_slot l) f g → g.imm ≡ f.imm
place_imm l f g h1 = grind (arith, nat_tests)

reg_imm : (l : Letter) (f g : Fields) → Kept (reg_slot l) f g → g.imm ≡ f.imm
reg_imm l f g h1 = grind (arith, nat_tests)

-- ---- two operands: what a step gave stays, if the next one changes another field

record PlaceIs (d : Letter) (p : Place) (f g : Fields) : Type 0 where
  w : g.w ≡ f.w
  dst : place_at d g ≡ p

place_stays : (d : Letter) (p : Place) (t : Slot) (f m g : Fields) → apart (place_slot d) t ≡ true → Kept t m g → PlaceIs d p f m → PlaceIs d p f g
place_stays d p t f m g a k h = record { w = w_kept t m g k ∙ h.w; dst = place_kept d t m g a k ∙ h.dst }

place_and : (d : Letter) (p : Place) (t : Slot) (Q : Type 0) (k : Fields → Option Fields) (f g : Fields) → apart (place_slot d) t ≡ true → ((m : Fields) → k m ≡ Some g → Q × Kept t m g) → option_and_then k (with_place d p f) ≡ Some g
    → PlaceIs d p f g × Q
place_and d p t Q k f g h1 h2 h3 = grind (arith, nat_tests)

place_operand : (d s : Letter) (p : Place) (o : Operand) (f g : Fields) → apart (place_slot d) (operand_slot s) ≡ true → option_and_then (with_operand s o) (with_place d p f) ≡ Some g → PlaceIs d p f g × (operand_at s g ≡ o)
place_operand d s p o f g a e = place_and d p (operand_slot s) _ (with_operand s o) f g a (λ m eg. with_operand-step s o m g eg) e

record NumberPlace (d s : Letter) (n : ℕ) (p : Place) (f g : Fields) : Type 0 where
  w : g.w ≡ f.w
  cond : g.cond ≡ f.cond
  imm : g.imm ≡ f.imm
  dst : number_at d g ≡ n
  src : place_at s g ≡ p

number_place : (d s : Letter) (n : ℕ) (p : Place) (f g : Fields) → apart (reg_slot d) (place_slot s) ≡ true → option_and_then (with_place s p) (with_number d n f) ≡ Some g → NumberPlace d s n p f g
number_place d s n p f g a e = option_and_then_some (with_place s p) (with_number d n f) g e (λ m em eg.
    let x = with_number-step d n f m em in
    let y = with_place-step s p m g eg in
    record {
      w = w_kept (place_slot s) m g y.1 ∙ w_kept (reg_slot d) f m x.1;
      cond = cond_kept (place_slot s) m g y.1 ∙ cond_kept (reg_slot d) f m x.1;
      imm = place_imm s m g y.1 ∙ reg_imm d f m x.1;
      dst = ap number_of (reg_kept d (place_slot s) m g a y.1) ∙ x.0;
      src = y.0;
    })

place_number_count : (d s c : Letter) (p : Place) (n : ℕ) (x : Count) (f g : Fields) → g.imm < 2 ^ 8 → (apart (place_slot d) (reg_slot s) && apart (place_slot d) (count_slot c) && apart (reg_slot s) (count_slot c)) ≡ true
    → option_and_then (with_count c x) (option_and_then (with_number s n) (with_place d p f)) ≡ Some g → PlaceIs d p f g × (number_at s g ≡ n) × (count_at c g ≡ x)
place_number_count d s c p n x f g small a e = option_and_then_some (with_count c x) (option_and_then (with_number s n) (with_place d p f)) g e (λ m em eg.
    let t = and_three (apart (place_slot d) (reg_slot s)) (apart (place_slot d) (count_slot c)) (apart (reg_slot s) (count_slot c)) a in
    let u = place_and d p (reg_slot s) _ (with_number s n) f m t.0 (λ k ek. with_number-step s n k m ek) em in
    let v = with_count-step c x m g small eg in
    (place_stays d p (count_slot c) f m g t.1 v.1 u.0, ap number_of (reg_kept s (count_slot c) m g t.2 v.1) ∙ u.1, v.0))

-- ---- the condition's number

pub cond_again : (c : Cond) → cond_of (number_of_cond c % 16) ≡ c
cond_again c = grind (arith, nat_tests)

-- ---- what is found builds the instruction

abbrev pub imm_small : Op → ℕ → Type 0
imm_small (ops.Shift o d c) n = n < 2 ^ 8
imm_small (ops.DoubleShift o d s c) n = n < 2 ^ 8
imm_small (ops.BitTest o d i) n = n < 2 ^ 8
imm_small ops.Ret n = n < 2 ^ 16
imm_small _ n = ⊤

pub built : (op : Op) (x : Insn) (f g : Fields) → operands_apart op ≡ true → imm_small op g.imm → found_in op x f ≡ Some g → build_op op g ≡ x
built (ops.Arith o d s) (insns.Arith p w dst src) f g a small e =
    let t = passed (same_arith o p) _ g e in
    let q : o ≡ p = grind arith in
    let r = place_operand d s dst src _ g a t.1 in
    λ i. insns.Arith (q i) (r.0.w i) (r.0.dst i) (r.1 i)
built (ops.Test d s) (insns.Test w dst src) f g a small e = let r = place_operand d s dst src _ g a e in λ i. insns.Test (r.0.w i) (r.0.dst i) (r.1 i)
built (ops.Mov d s) (insns.Mov w dst src) f g a small e = let r = place_operand d s dst src _ g a e in λ i. insns.Mov (r.0.w i) (r.0.dst i) (r.1 i)
built (ops.Lea d s) (insns.Lea w dst src) f g a small e = let r = number_place d s dst src _ g a e in λ i. insns.Lea (r.w i) (r.dst i) (r.src i)
built (ops.Extend o d s) (insns.Extend p to from dst src) f g a small e =
    let t = passed (same_truth o p && same_width from (letter_width s to)) _ g e in
    let b = and_parts (same_truth o p) (same_width from (letter_width s to)) t.0 in
    let q : o ≡ p = grind arith in
    let v : from ≡ letter_width s to = grind arith in
    let r = number_place d s dst src _ g a t.1 in
    let u = ap (letter_width s) r.w ∙ sym v in
    λ i. insns.Extend (q i) (r.w i) (u i) (r.dst i) (r.src i)
built (ops.Push s) (insns.Push src) f g a small e = ap insns.Push (with_operand-step s src f g e).0
built (ops.Pop d) (insns.Pop dst) f g a small e = ap insns.Pop (with_place-step d dst f g e).0
built ops.Leave insns.Leave f g a small e = refl
built ops.PushFlags insns.PushFlags f g a small e = refl
built ops.PopFlags insns.PopFlags f g a small e = refl
built (ops.Unary o d) (insns.Unary p w dst) f g a small e = grind (arith, nat_tests)
built (ops.Wide o s) (insns.Wide p w src) f g a small e = grind (arith, nat_tests)
built (ops.Imul2 d s) (insns.Imul2 w dst src) f g a small e = let r = number_place d s dst src _ g a e in λ i. insns.Imul2 (r.w i) (r.dst i) (r.src i)
built (ops.Imul3 d s k) (insns.Imul3 w dst src imm) f g a small e = let r = number_place d s dst src _ g a e in λ i. insns.Imul3 (r.w i) (r.dst i) (r.src i) (r.imm i)
built (ops.Shift o d c) (insns.Shift p w dst count) f g a small e =
    let t = passed (same_shift o p) _ g e in
    let q : o ≡ p = grind arith in
    let r = place_and d dst (count_slot c) _ (with_count c count) _ g a (λ m em. with_count-step c count m g small em) t.1 in
    λ i. insns.Shift (q i) (r.0.w i) (r.0.dst i) (r.1 i)
built (ops.DoubleShift o d s c) (insns.DoubleShift p w dst src count) f g a small e =
    let t = passed (same_truth o p) _ g e in
    let q : o ≡ p = grind arith in
    let r = place_number_count d s c dst src count _ g small a t.1 in
    λ i. insns.DoubleShift (q i) (r.0.w i) (r.0.dst i) (r.1 i) (r.2 i)
built (ops.Cmov d s) (insns.Cmov c w dst src) f g a small e =
    let r = number_place d s dst src _ g a e in
    let q = ap (λ k. cond_of (k % 16)) r.cond ∙ cond_again c in
    λ i. insns.Cmov (q i) (r.w i) (r.dst i) (r.src i)
built (ops.Set d) (insns.Set c dst) f g a small e = grind (arith, nat_tests)
built ops.Jcc (insns.Jcc c target) f g a small e = grind (arith, nat_tests)
built ops.Jrcxz (insns.Jrcxz target) f g a small e = ap (λ (k : Fields). insns.Jrcxz k.imm) (sym (some_same _ g e))
built ops.Jmp (insns.Jmp target) f g a small e = ap (λ (k : Fields). insns.Jmp k.imm) (sym (some_same _ g e))
built ops.Call (insns.Call target) f g a small e = ap (λ (k : Fields). insns.Call k.imm) (sym (some_same _ g e))
built (ops.CallInd s) (insns.CallInd src) f g a small e = ap insns.CallInd (with_place-step s src f g e).0
built (ops.JmpInd s) (insns.JmpInd src) f g a small e = ap insns.JmpInd (with_place-step s src f g e).0
built ops.Ret (insns.Ret pop) f g a small e = grind (arith, nat_tests)
built ops.Convert (insns.Convert w) f g a small e = ap (λ (k : Fields). insns.Convert k.w) (sym (some_same _ g e))
built ops.SignFill (insns.SignFill w) f g a small e = ap (λ (k : Fields). insns.SignFill k.w) (sym (some_same _ g e))
built (ops.Xchg d s) (insns.Xchg w dst src) f g a small e = let r = place_and d dst (reg_slot s) _ (with_reg s src) _ g a (λ m em. with_reg-step s src m g em) e in λ i. insns.Xchg (r.0.w i) (r.0.dst i) (r.1 i)
built (ops.CmpXchg d s) (insns.CmpXchg w dst src) f g a small e = let r = place_and d dst (reg_slot s) _ (with_reg s src) _ g a (λ m em. with_reg-step s src m g em) e in λ i. insns.CmpXchg (r.0.w i) (r.0.dst i) (r.1 i)
built (ops.Xadd d s) (insns.Xadd w dst src) f g a small e = let r = place_and d dst (reg_slot s) _ (with_reg s src) _ g a (λ m em. with_reg-step s src m g em) e in λ i. insns.Xadd (r.0.w i) (r.0.dst i) (r.1 i)
built ops.Nop insns.Nop f g a small e = refl
built (ops.Bswap d) (insns.Bswap w reg) f g a small e = grind (arith, nat_tests)
built (ops.BitTest o d k) (insns.BitTest p w dst index) f g a small e =
    let t = passed (same_bit o p) _ g e in
    let q : o ≡ p = grind arith in
    let r = place_and d dst (index_slot k) _ (with_index k index) _ g a (λ m em. with_index-step k index m g small em) t.1 in
    λ i. insns.BitTest (q i) (r.0.w i) (r.0.dst i) (r.1 i)
built (ops.Scan o d s) (insns.Scan p w dst src) f g a small e =
    let t = passed (same_scan o p) _ g e in
    let q : o ≡ p = grind arith in
    let r = number_place d s dst src _ g a t.1 in
    λ i. insns.Scan (q i) (r.w i) (r.dst i) (r.src i)
built ops.Movs (insns.Movs w rep) f g a small e = grind (arith, nat_tests)
built ops.Stos (insns.Stos w rep) f g a small e = grind (arith, nat_tests)
built ops.Cmps (insns.Cmps w rep) f g a small e = grind (arith, nat_tests)
built ops.Scas (insns.Scas w rep) f g a small e = grind (arith, nat_tests)
built (ops.Flag o) (insns.Flag p) f g a small e = grind arith
built ops.Syscall insns.Syscall f g a small e = refl
built ops.Ud2 insns.Ud2 f g a small e = refl
built ops.Hlt insns.Hlt f g a small e = refl
built ops.Int3 insns.Int3 f g a small e = refl
built _ _ f g a small e = absurd (cc)
