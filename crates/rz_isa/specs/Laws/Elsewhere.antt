use Rattle.std.proofs.Common.{ℕ, ◌≡◌, ◌+◌, ◌/◌, ◌%◌, ◌^◌, ◌<◌, ◌≤◌, refl, ap, sym, ◌∙◌, subst, arith, List, length, Bool, true, false, ◌⊎◌, inl, inr, Option, Some, None}
use Rattle.std.specs.Prelude.{nat_le, IsSome, if◌then◌else◌}
use Rattle.std.specs.List.{list_all}
use Rattle.std.proofs.lemmas.Bool.Decides.{nat_tests}
use Rattle.std.proofs.lemmas.Option.{option_and_then_some}
use Rattle.rz_isa.specs.Laws.Types.{Form, RmRule, ImmKind, Row, Insn, Place, Fields}
use Rattle.rz_isa.specs.declared.rows.Form.TheVariants as forms
use Rattle.rz_isa.specs.declared.instruction.Place.TheVariants as places
use Rattle.rz_isa.specs.Spelling.{is_met, b_demand, bytes_of}
use Rattle.rz_isa.specs.Fields.{rm_width, fields}
use Rattle.rz_isa.specs.Insn.{target_of, rip_of, rip_target_of}
use Rattle.rz_isa.specs.Having.{is_extended, in_opcode, code_of, place_b, b_needed, opcode_of, can_have}
use Rattle.rz_isa.specs.Finding.{least_place, least, found_in, if_can, found}
use Rattle.rz_isa.specs.Regular.{names_number, is_byte_class, is_regular}
use Rattle.rz_isa.specs.Suited.{is_displacement, form_suits, is_suited}
use Rattle.rz_isa.specs.Spells.{next_address}
use Rattle.rz_isa.specs.Canonical.{offset, parts_for, place_reaches, imm_reaches, reaches, length_for, Chosen, chosen, spelled_at}
use Rattle.rz_isa.specs.Targets.{IgnoresPlace, NamesLow, SpelledElsewhere}
use Rattle.rz_isa.specs.Laws.Again.{Lesser, rm_lesser, had_of, least_place_b, again}
use Rattle.rz_isa.specs.Laws.Lesser.{numbered}
use Rattle.rz_isa.specs.Laws.Inverse.{regular_of, imm_small_of, exchange_place, narrow, found_builds}
use Rattle.rz_isa.specs.Laws.Whole.{find_home, spelled_for}
use Rattle.rz_isa.specs.Laws.Choice.{has_chosen, chosen_first, length_is}
use Rattle.rz_isa.specs.Laws.Exclusion.{list_all_get}
use Rattle.rz_isa.specs.Laws.Targeted.{rip_targets, direct_targets, suited_form}
use Rattle.rz_isa.specs.Laws.Tests.{and_both, some_same, through}

-- An instruction without a direct target has a canonical spelling at every low address.

-- ---- a canonical spelling has at most 15 bytes

short_is : (n k : ℕ) → nat_le n 15 ≡ true → k ≡ n → k ≤ 15
short_is n k h e = grind (arith, nat_tests)

pub length_short : (row : Row) (f : Fields) → is_regular row ≡ true → can_have row f ≡ true → length_for row f ≤ 15
length_short row f regular can =
    let h = had_of row f can in
    let e = find_home row.rm (rm_width row.op f.w) f.w f.rm row.imm f.imm (regular_of row regular).alone h.rm h.imm in
    short_is (length (bytes_of row (parts_for row f e.next))) (length_for row f) (spelled_for row f e.next regular can e.low e.near).short (length_is row f 0 e.next)

-- ---- a row without a displacement from the next address

pub no_displacement : (b : Bool) (n : ℕ) → (if b then Some n else None) ≡ None → b ≡ false
no_displacement b n h1 = grind (arith, nat_tests)

near_form : (f : Form) (k : Option ImmKind) → form_suits f k ≡ true → is_displacement k ≡ false → f ≡ forms.Near
near_form f k h1 h2 = grind (arith, nat_tests)

pub imm_near : (k : Option ImmKind) (next n : ℕ) → is_displacement k ≡ false → imm_reaches k next n ≡ true
imm_near k next n h1 = grind (arith, nat_tests)

-- ---- an operation that doesn't use its ModRM operand is found with the least place

not_least : (r : Option RmRule) (a : ℕ) → places.At a ≡ least_place r → ⊥
not_least r a h1 = grind (arith, nat_tests)

found_before : (row : Row) (x : Insn) (f : Fields) → found row x ≡ Some f → found_in row.op x (least row) ≡ Some f
found_before row x f e = option_and_then_some (if_can row) (found_in row.op x (least row)) f e (λ m em eg. em ∙ ap Some (through (can_have row m) m f eg).1)

place_of_least : (row : Row) (g f : Fields) → f.rm ≡ least_place row.rm → Lesser row.op row g f → g.rm ≡ least_place row.rm
place_of_least row g f h l = elim (rm_lesser row.op row g f l) [ inl e ↦ e ∙ h | inr e ↦ e ]

pub unused_place : (row : Row) (x : Insn) (f : Fields) (a : ℕ) → is_regular row ≡ true → IgnoresPlace row.op → found row x ≡ Some f → f.rm ≡ places.At a → ⊥
unused_place row x f a regular unused e at =
    let r = regular_of row regular in
    let t = found_builds row x f regular e in
    let h = had_of row f t.had in
    let g : Fields = record f { rm = least_place row.rm } in
    let same_b : b_needed row g ≡ b_needed row f = ap (λ k. if in_opcode row.rm row.span then code_of f.reg / 8 else k) (least_place_b row.rm ∙ sym (ap place_b at)) in
    let s = again row.op row g (record {
      w = h.w;
      cond = h.cond;
      rep = h.rep;
      small = imm_small_of row.op row.imm f.w f.imm r.imm h.imm;
      single = r.width;
      number = λ names. numbered row f h (narrow (names_number row.op) (is_byte_class row.size) names r.number);
      exchange = exchange_place row.op row.map row.rm row.span r.demand r.exchange;
      b = subst (λ k. is_met (b_demand row.op row.map (opcode_of row f)) k ≡ true) (sym same_b) h.b;
    }) in
    let again_x : found_in row.op x (least row) ≡ Some s.g = sym (ap (λ y. found_in row.op y (least row)) (unused.same f (least_place row.rm) ∙ t.built)) ∙ s.found in
    let is_f : s.g ≡ f = some_same s.g f (sym again_x ∙ found_before row x f e) in
    not_least row.rm a (sym at ∙ (sym (ap (λ (m : Fields). m.rm) is_f) ∙ place_of_least row s.g g refl s.below))

-- ---- in reach from a low address

low_offset : (next a : ℕ) → next < 2 ^ 31 → a < 2 ^ 31 → is_extended (2 ^ 31) (2 ^ 64) (offset next a) ≡ true
low_offset next a ln la = grind (arith, nat_tests)

low_next : (at n : ℕ) → at + 32 ≤ 2 ^ 31 → n ≤ 15 → (at + n) % 2 ^ 64 < 2 ^ 31
low_next at n low short = omega arith

pub place_near : (row : Row) (x : Insn) (f : Fields) (next : ℕ) (p : Place) → is_regular row ≡ true → found row x ≡ Some f → f.rm ≡ p → NamesLow x → next < 2 ^ 31 → place_reaches next p ≡ true
place_near row x f next (places.Reg r) regular e ep low ln = refl
place_near row x f next (places.Mem m) regular e ep low ln = refl
place_near row x f next (places.At a) regular e ep low ln = elim (rip_targets row.op) [
  | inl unused ↦ absurd (unused_place row x f a regular unused e ep)
  | inr used ↦ low_offset next a ln (low a (sym (ap rip_target_of (found_builds row x f regular e).built) ∙ (used f ∙ ap rip_of ep)))
]

pub low_reaches : (x : Insn) (at : ℕ) (c : Chosen) → is_regular c.row ≡ true → found c.row x ≡ Some c.fields → is_displacement c.row.imm ≡ false → at + 32 ≤ 2 ^ 31 → NamesLow x
    → reaches c.row c.fields ((at + length_for c.row c.fields) % 2 ^ 64) ≡ true
low_reaches x at c regular e free low names =
    let next = (at + length_for c.row c.fields) % 2 ^ 64 in
    let ln = low_next at (length_for c.row c.fields) low (length_short c.row c.fields regular (found_builds c.row x c.fields regular e).had) in
    and_both (place_reaches next c.fields.rm) (imm_reaches c.row.imm next c.fields.imm) (place_near c.row x c.fields next c.fields.rm regular e refl names ln) (imm_near c.row.imm next c.fields.imm free)

some_if : (b : Bool) (s : List ℕ) → b ≡ true → IsSome (if b then Some s else None)
some_if b s h1 = grind (arith, nat_tests)

by_chosen : (rows : List Row) (x : Insn) (at : ℕ) → list_all is_regular rows ≡ true → list_all is_suited rows ≡ true → target_of x ≡ None → at + 32 ≤ 2 ^ 31 → NamesLow x
    → (o : Option Chosen) → chosen rows forms.Near x ≡ o → IsSome o → IsSome (spelled_at at o)
by_chosen rows x at regular suited none low names None eo some = absurd (cc)
by_chosen rows x at regular suited none low names (Some c) eo some =
    let f = chosen_first (λ r. found r x) rows forms.Near c eo in
    let r = list_all_get is_regular rows f.n c.row regular f.in_table in
    let t = found_builds c.row x c.fields r f.is_found in
    let free = no_displacement (is_displacement c.row.imm) c.fields.imm (sym (direct_targets rows suited f.n c.row c.fields f.in_table) ∙ (ap target_of t.built ∙ none)) in
    let next = (at + length_for c.row c.fields) % 2 ^ 64 in
    some_if (reaches c.row c.fields next) (bytes_of c.row (parts_for c.row c.fields next)) (low_reaches x at c r f.is_found free low names)

pub spelled_elsewhere : (rows : List Row) → list_all is_regular rows ≡ true → list_all is_suited rows ≡ true → SpelledElsewhere rows
spelled_elsewhere rows regular suited x s b at h none low names =
    let f = fields h.row h.by_row.parts (next_address b s) in
    let free = no_displacement (is_displacement h.row.imm) f.imm (sym (direct_targets rows suited h.n h.row f h.in_table) ∙ (sym (ap target_of h.by_row.names) ∙ none)) in
    let near = near_form h.row.form h.row.imm (suited_form h.row (list_all_get is_suited rows h.n h.row suited h.in_table)) free in
    let some = has_chosen rows regular x forms.Near h.n h.row h.in_table near (record { bytes = s; at = b; by_row = h.by_row }) in
    by_chosen rows x at regular suited none low names (chosen rows forms.Near x) refl some
