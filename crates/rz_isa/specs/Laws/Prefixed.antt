use Rattle.std.proofs.Common.{ℕ, ◌≡◌, ◌+◌, ◌%◌, ◌^◌, ◌<◌, ◌==◌, refl, ap, sym, ◌∙◌, arith, List, ◌∷◌, ◌++◌, Bool, true, false, inl, inr, Option, Some, None}
use Rattle.std.specs.Prelude.{if◌then◌else◌}
use Rattle.std.specs.List.{list_all, take_while}
use Rattle.std.proofs.lemmas.Bool.{cases_Bool}
use Rattle.std.proofs.lemmas.Bool.Decides.{nat_tests}
use Rattle.rz_isa.specs.Laws.Types.{F3Rule, Form, Row, Op, Insn, Fields}
use Rattle.rz_isa.specs.declared.rows.Op.TheVariants as ops
use Rattle.rz_isa.specs.Spelling.{Parts, bytes_of, is_prefix, rex_bytes, escape, times, SpelledBy}
use Rattle.rz_isa.specs.Fields.{build_op}
use Rattle.rz_isa.specs.Having.{is_half, is_repeat, has_rep}
use Rattle.rz_isa.specs.Finding.{same_truth, found}
use Rattle.rz_isa.specs.Canonical.{repeat_prefix, prefixes_for, parts_for, reaches, length_for, Chosen, chosen_by, spelled_at}
use Rattle.rz_isa.specs.Regular.{is_regular}
use Rattle.rz_isa.specs.Suited.{has_two_repeats, is_repeats_both, is_suited}
use Rattle.rz_isa.specs.Table.{is_plain, is_while_not, PlainPrefixes, CanonicalPrefixes}
use Rattle.rz_isa.specs.Laws.Again.{had_of}
use Rattle.rz_isa.specs.Laws.Choice.{chosen_first}
use Rattle.rz_isa.specs.Laws.Exclusion.{plain_row, list_all_get}
use Rattle.rz_isa.specs.Laws.Front.{take_while-cut, stops_at_rex, prefixes_are}
use Rattle.rz_isa.specs.Laws.Inverse.{found_builds}
use Rattle.rz_isa.specs.Laws.Parts.{repeat_prefix-is}
use Rattle.rz_isa.specs.Laws.Targeted.{suited_repeats}
use Rattle.rz_isa.specs.Laws.Tests.{none_some, through}
use Rattle.rz_isa.specs.Laws.Whole.{spelled_for}

-- The legacy prefixes of a canonical spelling.

-- ---- of 66 and a repeat prefix

no_lock : (a : Bool) (b : ℕ) → is_repeat b ≡ true → times 0xf0 (prefixes_for a b) ≡ 0
no_lock a b h1 = grind (arith, nat_tests)

one_f2 : (a : Bool) (b : ℕ) → is_repeat b ≡ true → times 0xf2 (prefixes_for a b) ≡ (if b == 0xf2 then 1 else 0)
one_f2 a b h1 = grind (arith, nat_tests)

-- ---- F2 stands exactly for a comparison that repeats while what is compared is not equal

never_not : (op : Op) (f : Fields) → has_two_repeats op ≡ false → is_while_not (build_op op f) ≡ false
never_not ops.Cmps f h = absurd (cc)
never_not ops.Scas f h = absurd (cc)
never_not _ f h = refl

never_f2 : (r : F3Rule) (n : ℕ) → is_repeats_both r ≡ false → has_rep r n ≡ true → (repeat_prefix r n == 0xf2) ≡ false
never_f2 r n h1 h2 = grind (arith, nat_tests)

both_f2 : (r : F3Rule) (n : ℕ) → is_repeats_both r ≡ true → repeat_prefix r n ≡ n
both_f2 r n h1 = grind (arith, nat_tests)

cmps_not : (f : Fields) → (f.rep == 0xf2) ≡ is_while_not (build_op ops.Cmps f)
cmps_not f = elim (cases_Bool (f.rep == 0xf3)) [
  | inl y ↦ grind (arith, nat_tests)
  | inr n ↦ elim (cases_Bool (f.rep == 0xf2)) [ inl y ↦ grind (arith, nat_tests) | inr k ↦ grind (arith, nat_tests) ]
]

scas_not : (f : Fields) → (f.rep == 0xf2) ≡ is_while_not (build_op ops.Scas f)
scas_not f = elim (cases_Bool (f.rep == 0xf3)) [
  | inl y ↦ grind (arith, nat_tests)
  | inr n ↦ elim (cases_Bool (f.rep == 0xf2)) [ inl y ↦ grind (arith, nat_tests) | inr k ↦ grind (arith, nat_tests) ]
]

same_is : (a b : Bool) → same_truth a b ≡ true → a ≡ b
same_is a b e = grind arith

f2_is : (op : Op) (f : Fields) (r : F3Rule) → has_two_repeats op ≡ is_repeats_both r → has_rep r f.rep ≡ true → (repeat_prefix r f.rep == 0xf2) ≡ is_while_not (build_op op f)
f2_is ops.Cmps f r e h = ap (λ k. k == 0xf2) (both_f2 r f.rep (sym e)) ∙ cmps_not f
f2_is ops.Scas f r e h = ap (λ k. k == 0xf2) (both_f2 r f.rep (sym e)) ∙ scas_not f
f2_is op f r e h = elim (cases_Bool (has_two_repeats op)) [
  | inl y ↦ absurd (cc)
  | inr n ↦ never_f2 r f.rep (sym e ∙ n) h ∙ sym (never_not op f n)
]

-- ---- the prefixes are read back

prefixes_read : (row : Row) (p : Parts) (s : List ℕ) → is_plain row ≡ true → SpelledBy row p s → take_while is_prefix s ≡ p.prefixes
prefixes_read row p s plain h =
    let fits = h.fits in
    ap (take_while is_prefix) h.bytes
    ∙ take_while-cut is_prefix p.prefixes (rex_bytes p.rex ++ (escape row.map ++ (p.opcode ∷ (p.rm ++ p.imm)))) (prefixes_are row p.prefixes fits.prefixes)
    (stops_at_rex p.rex row.map p.opcode (p.rm ++ p.imm) fits.rex ((plain_row row plain).opcodes p.opcode fits.opcode))

-- ---- of what is chosen

address_low : (a : ℕ) → a % 2 ^ 64 < 2 ^ 64
address_low a = omega arith

chosen_prefixes : (x : Insn) (at : ℕ) (c : Chosen) (s : List ℕ) → is_plain c.row ≡ true → is_regular c.row ≡ true → is_suited c.row ≡ true → found c.row x ≡ Some c.fields → spelled_at at (Some c) ≡ Some s → PlainPrefixes x s
chosen_prefixes x at c s plain regular suited is_found e =
    let next = (at + length_for c.row c.fields) % 2 ^ 64 in
    let p = parts_for c.row c.fields next in
    let t = through (reaches c.row c.fields next) (bytes_of c.row p) s e in
    let b = found_builds c.row x c.fields regular is_found in
    let spelled = spelled_for c.row c.fields next regular b.had (address_low (at + length_for c.row c.fields)) t.0 in
    let read = ap (take_while is_prefix) (sym t.1) ∙ prefixes_read c.row p (bytes_of c.row p) plain spelled in
    let rep = (had_of c.row c.fields b.had).rep in
    let byte = repeat_prefix-is c.row.f3 c.fields.rep rep in
    let f2 = f2_is c.row.op c.fields c.row.f3 (suited_repeats c.row suited) rep ∙ ap is_while_not b.built in
    record {
      no_lock = ap (times 0xf0) read ∙ no_lock (is_half c.fields.w) (repeat_prefix c.row.f3 c.fields.rep) byte;
      while_not = ap (times 0xf2) read ∙ (one_f2 (is_half c.fields.w) (repeat_prefix c.row.f3 c.fields.rep) byte ∙ ap (λ k. if k then 1 else 0) f2);
    }

by_chosen : (rows : List Row) (form : Form) (x : Insn) (at : ℕ) (s : List ℕ) → list_all is_plain rows ≡ true → list_all is_regular rows ≡ true → list_all is_suited rows ≡ true
    → (o : Option Chosen) → chosen_by (λ r. found r x) rows form ≡ o → spelled_at at o ≡ Some s → PlainPrefixes x s
by_chosen rows form x at s plain regular suited None eo e = absurd (none_some s e)
by_chosen rows form x at s plain regular suited (Some c) eo e =
    let f = chosen_first (λ r. found r x) rows form c eo in
    chosen_prefixes x at c s (list_all_get is_plain rows f.n c.row plain f.in_table) (list_all_get is_regular rows f.n c.row regular f.in_table) (list_all_get is_suited rows f.n c.row suited f.in_table) f.is_found e

pub canonical_prefixes : (rows : List Row) → list_all is_plain rows ≡ true → list_all is_regular rows ≡ true → list_all is_suited rows ≡ true → CanonicalPrefixes rows
canonical_prefixes rows plain regular suited x at form s e = by_chosen rows form x at s plain regular suited (chosen_by (λ r. found r x) rows form) refl e
