use Rattle.std.proofs.Common.{ℕ, ◌≡◌, ◌==◌, ap, ◌∙◌, subst, arith, Bool, true, false, not, ◌&&◌, ◌||◌, Option, Some, None}
use Rattle.std.specs.Prelude.{is_some, if◌then◌else◌}
use Rattle.std.specs.Option.{option_and_then}
use Rattle.std.proofs.lemmas.Bool.Decides.{nat_tests}
use Rattle.std.proofs.lemmas.Option.{option_and_then_some}
use Rattle.rz_isa.specs.Laws.Types.{Width, OpMap, RmRule, ImmKind, Row, Op, Insn, Fields}
use Rattle.rz_isa.specs.Spelling.{b_demand}
use Rattle.rz_isa.specs.Fields.{build_op}
use Rattle.rz_isa.specs.Having.{has_imm, in_opcode, can_have}
use Rattle.rz_isa.specs.Finding.{least, found_in, if_can, found}
use Rattle.rz_isa.specs.Regular.{operands_apart, imm_suits, width_suits, stands_alone, is_exchange, names_number, is_byte_class, is_block, digit_small, rule_small, is_regular}
use Rattle.rz_isa.specs.Laws.Built.{imm_small, built}
use Rattle.rz_isa.specs.Laws.Again.{Lesser, had_of, can_of, again}
use Rattle.rz_isa.specs.Laws.Lesser.{numbered, found_had}
use Rattle.rz_isa.specs.Laws.Tests.{through}

-- ---- what is asked of a row, one by one

pub record IsRegular (r : Row) : Type 0 where
  pub operands : operands_apart r.op ≡ true
  pub imm : imm_suits r.op r.imm ≡ true
  pub width : width_suits r.op r.size ≡ true
  pub alone : not (stands_alone r.imm && is_some r.rm) ≡ true
  pub block : is_block r ≡ true
  pub digit : digit_small r.digit ≡ true
  pub rule : rule_small r.rm r.digit ≡ true
  pub demand : not (is_some (b_demand r.op r.map 0x90) && is_some r.rm) ≡ true
  pub exchange : (not (is_exchange r.op) || r.span == 8) ≡ true
  pub number : not (names_number r.op && is_byte_class r.size) ≡ true

ten : (a b c d e f g h i j : Bool) → (a && b && c && d && e && f && g && h && i && j) ≡ true → (a ≡ true) × (b ≡ true) × (c ≡ true) × (d ≡ true) × (e ≡ true) × (f ≡ true) × (g ≡ true) × (h ≡ true) × (i ≡ true) × (j ≡ true)
ten a b c d e f g h i j x = (grind arith, grind arith, grind arith, grind arith, grind arith, grind arith, grind arith, grind arith, grind arith, grind arith)

pub regular_of : (r : Row) → is_regular r ≡ true → IsRegular r
regular_of r h =
    let n = ten (operands_apart r.op) (imm_suits r.op r.imm) (width_suits r.op r.size) (not (stands_alone r.imm && is_some r.rm)) (is_block r) (digit_small r.digit) (rule_small r.rm r.digit)
    (not (is_some (b_demand r.op r.map 0x90) && is_some r.rm)) (not (is_exchange r.op) || r.span == 8) (not (names_number r.op && is_byte_class r.size)) h in
    record { operands = n.0; imm = n.1; width = n.2; alone = n.3; block = n.4; digit = n.5; rule = n.6; demand = n.7; exchange = n.8; number = n.9 }

-- ---- immediates of counts, bit indexes and Ret

pub imm_small_of : (op : Op) (k : Option ImmKind) (w : Width) (n : ℕ) → imm_suits op k ≡ true → has_imm k w n ≡ true → imm_small op n
imm_small_of op k w n h1 h2 = grind (arith, nat_tests)

pub exchange_place : (op : Op) (m : OpMap) (r : Option RmRule) (span : ℕ) → not (is_some (b_demand op m 0x90) && is_some r) ≡ true → (not (is_exchange op) || span == 8) ≡ true
    → is_exchange op ≡ true → in_opcode r span ≡ true
exchange_place op m r span h1 h2 h3 = grind (arith, nat_tests)

pub narrow : (a b : Bool) → a ≡ true → not (a && b) ≡ true → b ≡ false
narrow a b e h = grind arith

-- ---- what is found builds the instruction, and what builds it is found

pub record Tested (row : Row) (x : Insn) (g : Fields) : Type 0 where
  pub had : can_have row g ≡ true
  pub built : build_op row.op g ≡ x

pub found_builds : (row : Row) (x : Insn) (g : Fields) → is_regular row ≡ true → found row x ≡ Some g → Tested row x g
found_builds row x g reg e =
    let r = regular_of row reg in
    option_and_then_some (if_can row) (found_in row.op x (least row)) g e (λ m em eg.
    let t = through (can_have row m) m g eg in
    let had : can_have row g ≡ true = subst (λ k. can_have row k ≡ true) t.1 t.0 in
    let h = had_of row g had in
    let em2 : found_in row.op x (least row) ≡ Some g = em ∙ ap Some t.1 in
    record { had = had; built = built row.op x (least row) g r.operands (imm_small_of row.op row.imm g.w g.imm r.imm h.imm) em2 })

pub record FoundAgain (row : Row) (f : Fields) : Type 0 where
  pub g : Fields
  pub found : found row (build_op row.op f) ≡ Some g
  pub below : Lesser row.op row g f

pub found_again : (row : Row) (f : Fields) → is_regular row ≡ true → can_have row f ≡ true → FoundAgain row f
found_again row f reg had =
    let r = regular_of row reg in
    let h = had_of row f had in
    let a = again row.op row f (record {
      w = h.w;
      cond = h.cond;
      rep = h.rep;
      small = imm_small_of row.op row.imm f.w f.imm r.imm h.imm;
      single = r.width;
      number = λ names. numbered row f h (narrow (names_number row.op) (is_byte_class row.size) names r.number);
      exchange = exchange_place row.op row.map row.rm row.span r.demand r.exchange;
      b = h.b;
    }) in
    let can = can_of row a.g (found_had row a.g f h a.below a.b) in
    record { g = a.g; found = ap (option_and_then (if_can row)) a.found ∙ ap (λ k. if k then Some a.g else None) can; below = a.below }
