use Rattle.std.proofs.Common.{ℕ, zero, suc, ◌≡◌, ◌+◌, ◌-◌, ◌%◌, ◌^◌, ◌<◌, ◌≤◌, refl, ap, sym, ◌∙◌, subst, arith, List, [], ◌∷◌, length, Bool, true, false, ◌&&◌, inl, inr, Option, Some, None}
use Rattle.std.specs.Prelude.{nat_lt, slice_get, is_some, IsSome, if◌then◌else◌}
use Rattle.std.specs.List.{list_all}
use Rattle.std.proofs.lemmas.Bool.{cases_Bool}
use Rattle.std.proofs.lemmas.Bool.Decides.{nat_tests}
use Rattle.rz_isa.specs.Laws.Types.{Form, RmRule, Row, Insn, Place, Fields}
use Rattle.rz_isa.specs.Spelling.{bytes_of, rex_bytes, escape, imm_len, SpelledBy}
use Rattle.rz_isa.specs.Fields.{fields, build_op}
use Rattle.rz_isa.specs.Having.{code_of}
use Rattle.rz_isa.specs.Finding.{found}
use Rattle.rz_isa.specs.Regular.{is_regular}
use Rattle.rz_isa.specs.Spells.{next_address, RowSpells, CanHave, Builds, NoneBuilds}
use Rattle.rz_isa.specs.Canonical.{rm_bytes, imm_value, parts_for, reaches, length_for, same_form, Chosen, or_chosen, chosen_by, spelled_at}
use Rattle.rz_isa.specs.Table.{SpelledSomewhere, IsCanonicalRow, OneCanonicalRow, HasChosen, CanonicalSpells}
use Rattle.rz_isa.specs.Laws.Exclusion.{list_all_get}
use Rattle.rz_isa.specs.Laws.Inverse.{found_again}
use Rattle.rz_isa.specs.Laws.Inverse as inverse
use Rattle.rz_isa.specs.Laws.Read.{little_length}
use Rattle.rz_isa.specs.Laws.Whole.{can_is, is_can, length_of, spelled_for, parts_read}
use Rattle.rz_isa.specs.Laws.Tests.{never, and_parts, and_both, some_same, none_some, through}

-- ---- what is found, by spellings

pub found_builds : (row : Row) (x : Insn) (g : Fields) → is_regular row ≡ true → found row x ≡ Some g → Builds row x g
found_builds row x g regular e = (let t = inverse.found_builds row x g regular e in record { had = can_is row g regular t.had; built = t.built })

pub none_builds : (row : Row) (x : Insn) → is_regular row ≡ true → found row x ≡ None → NoneBuilds row x
none_builds row x regular none f b =
    let g = found_again row f regular (is_can row f regular b.had) in
    none_some g.g (sym none ∙ (ap (found row) (sym b.built) ∙ g.found))

-- ---- a row spells an instruction somewhere where its fields are found

address_low : (a : ℕ) → a % 2 ^ 64 < 2 ^ 64
address_low a = omega arith

pub somewhere_found : (row : Row) (x : Insn) → is_regular row ≡ true → SpelledSomewhere row x → is_some (found row x) ≡ true
somewhere_found row x regular h =
    let next = next_address h.at h.bytes in
    let can : CanHave row (fields row h.by_row.parts next) = record { next = next; next_low = address_low (h.at + length h.bytes); bytes = h.bytes; parts = h.by_row.parts; spelled = h.by_row.spelled; same = refl } in
    let g = found_again row (fields row h.by_row.parts next) regular (is_can row (fields row h.by_row.parts next) regular can) in
    ap (λ k. is_some (found row k)) h.by_row.names ∙ ap is_some g.found

-- the address from which bytes end at the next
back : (next n : ℕ) → next < 2 ^ 64 → n ≤ 15 → ((next + (2 ^ 64 - n)) % 2 ^ 64 + n) % 2 ^ 64 ≡ next
back next n low short = omega arith

pub builds_somewhere : (row : Row) (x : Insn) (g : Fields) → Builds row x g → SpelledSomewhere row x
builds_somewhere row x g b =
    let h = b.had in
    let short : length h.bytes ≤ 15 = grind (arith, nat_tests, h.spelled.short) in
    let at = (h.next + (2 ^ 64 - length h.bytes)) % 2 ^ 64 in
    let next : next_address at h.bytes ≡ h.next = back h.next (length h.bytes) h.next_low short in
    record {
      bytes = h.bytes;
      at = at;
      by_row = record { parts = h.parts; spelled = h.spelled; names = sym b.built ∙ (ap (build_op row.op) (sym h.same) ∙ ap (λ k. build_op row.op (fields row h.parts k)) (sym next)) };
    }

-- ---- the first row that meets a test

pub record First (test : Row → Bool) (rows : List Row) : Type 0 where
  pub n : ℕ
  pub row : Row
  pub in_table : slice_get rows n ≡ Some row
  pub holds : test row ≡ true
  pub none_before : (m : ℕ) (q : Row) → m < n → slice_get rows m ≡ Some q → test q ≡ false

before_next : (test : Row → Bool) (r : Row) (rows : List Row) (n : ℕ) → test r ≡ false → ((m : ℕ) (q : Row) → m < n → slice_get rows m ≡ Some q → test q ≡ false)
    → (k : ℕ) (s : Row) → k < suc n → slice_get (r ∷ rows) k ≡ Some s → test s ≡ false
before_next test r rows n h1 h2 k s h3 h4 = grind (arith, nat_tests)

pub first_of_rows : (test : Row → Bool) (rows : List Row) (m : ℕ) (q : Row) → slice_get rows m ≡ Some q → test q ≡ true → First test rows
first_of_rows test [] m q at holds = absurd (grind arith)
first_of_rows test (r ∷ rows) zero q at holds = record { n = 0; row = r; in_table = refl; holds = ap test (some_same r q at) ∙ holds; none_before = λ k s lt e. absurd (omega arith) }
first_of_rows test (r ∷ rows) (suc m) q at holds = elim (cases_Bool (test r)) [
  | inl y ↦ record { n = 0; row = r; in_table = refl; holds = y; none_before = λ k s lt e. absurd (omega arith) }
  | inr miss ↦
      (let f = first_of_rows test rows m q at holds in
      record { n = suc f.n; row = f.row; in_table = f.in_table; holds = f.holds; none_before = before_next test r rows f.n miss f.none_before })
]

-- ---- the canonical row

form_is : (a b : Form) → same_form a b ≡ true → a ≡ b
form_is a b h1 = grind (arith, nat_tests)

form_same : (a b : Form) → a ≡ b → same_form a b ≡ true
form_same a b h1 = grind (arith, nat_tests)

abbrev pub serves : Form → Insn → Row → Bool
serves form x r = same_form r.form form && is_some (found r x)

some_found : (row : Row) (x : Insn) (o : Option Fields) → is_regular row ≡ true → found row x ≡ o → is_some o ≡ true → SpelledSomewhere row x
some_found row x None regular e s = absurd (cc)
some_found row x (Some g) regular e s = builds_somewhere row x g (found_builds row x g regular e)

pub canonical_of_first : (rows : List Row) (form : Form) (x : Insn) → list_all is_regular rows ≡ true → (f : First (serves form x) rows) → IsCanonicalRow rows form x f.n
canonical_of_first rows form x regular f =
    let t = and_parts (same_form f.row.form form) (is_some (found f.row x)) f.holds in
    record {
      row = f.row;
      in_table = f.in_table;
      same_form = form_is f.row.form form t.0;
      somewhere = some_found f.row x (found f.row x) (list_all_get is_regular rows f.n f.row regular f.in_table) refl t.1;
      first = λ m q lt at same somewhere.
          never (serves form x q)
          (and_both (same_form q.form form) (is_some (found q x)) (form_same q.form form same) (somewhere_found q x (list_all_get is_regular rows m q regular at) somewhere))
          (f.none_before m q lt at);
    }

pub one_only : (rows : List Row) (form : Form) (x : Insn) (n k : ℕ) → IsCanonicalRow rows form x n → IsCanonicalRow rows form x k → k ≡ n
one_only rows form x n k a b = elim (cases_Bool (nat_lt k n)) [
  | inl lt ↦ absurd (a.first k b.row (grind (arith, nat_tests)) b.in_table b.same_form b.somewhere)
  | inr ge ↦ elim (cases_Bool (nat_lt n k)) [
    | inl gt ↦ absurd (b.first n a.row (grind (arith, nat_tests)) a.in_table a.same_form a.somewhere)
    | inr le ↦ grind (arith, nat_tests)
  ]
]

pub one_canonical_row : (rows : List Row) → list_all is_regular rows ≡ true → OneCanonicalRow rows
one_canonical_row rows regular x form m q at same somewhere =
    let holds = and_both (same_form q.form form) (is_some (found q x)) (form_same q.form form same) (somewhere_found q x (list_all_get is_regular rows m q regular at) somewhere) in
    let f = first_of_rows (serves form x) rows m q at holds in
    let c = canonical_of_first rows form x regular f in
    (f.n, (c, λ k h. one_only rows form x f.n k c h))

-- ---- the row and the fields of the canonical spelling

abbrev pub serves_by : (Row → Option Fields) → Form → Row → Bool
serves_by find form r = same_form r.form form && is_some (find r)

pub record FirstChosen (find : Row → Option Fields) (rows : List Row) (form : Form) (c : Chosen) : Type 0 where
  pub n : ℕ
  pub in_table : slice_get rows n ≡ Some c.row
  pub same : same_form c.row.form form ≡ true
  pub is_found : find c.row ≡ Some c.fields
  pub none_before : (m : ℕ) (q : Row) → m < n → slice_get rows m ≡ Some q → serves_by find form q ≡ false

later : (find : Row → Option Fields) (rows : List Row) (form : Form) (c : Chosen) (r : Row) → serves_by find form r ≡ false → FirstChosen find rows form c → FirstChosen find (r ∷ rows) form c
later find rows form c r miss f = record { n = suc f.n; in_table = f.in_table; same = f.same; is_found = f.is_found; none_before = before_next (serves_by find form) r rows f.n miss f.none_before }

here : (find : Row → Option Fields) (rows : List Row) (form : Form) (c : Chosen) (r : Row) (o : Option Fields) → find r ≡ o → same_form r.form form ≡ true
    → (chosen_by find rows form ≡ Some c → FirstChosen find rows form c) → or_chosen r o (chosen_by find rows form) ≡ Some c → FirstChosen find (r ∷ rows) form c
here find rows form c r None eo same rest e = later find rows form c r (ap (λ k. k && is_some (find r)) same ∙ ap is_some eo) (rest e)
here find rows form c r (Some f) eo same rest e =
    let s = some_same (record { row = r; fields = f }) c e in
    record {
      n = 0;
      in_table = ap (λ (k : Chosen). Some k.row) s;
      same = sym (ap (λ (k : Chosen). same_form k.row.form form) s) ∙ same;
      is_found = sym (ap (λ (k : Chosen). find k.row) s) ∙ (eo ∙ ap (λ (k : Chosen). Some k.fields) s);
      none_before = λ m q lt at. absurd (omega arith);
    }

pub chosen_first : (find : Row → Option Fields) (rows : List Row) (form : Form) (c : Chosen) → chosen_by find rows form ≡ Some c → FirstChosen find rows form c
chosen_first find [] form c e = absurd (none_some c e)
chosen_first find (r ∷ rows) form c e = elim (cases_Bool (same_form r.form form)) [
  | inr miss ↦ later find rows form c r (ap (λ k. k && is_some (find r)) miss) (chosen_first find rows form c (sym (ap (λ k. if k then or_chosen r (find r) (chosen_by find rows form) else chosen_by find rows form) miss) ∙ e))
  | inl same ↦ here find rows form c r (find r) refl same (λ h. chosen_first find rows form c h) (sym (ap (λ k. if k then or_chosen r (find r) (chosen_by find rows form) else chosen_by find rows form) same) ∙ e)
]

chosen_some : (find : Row → Option Fields) (rows : List Row) (form : Form) (m : ℕ) (q : Row) → slice_get rows m ≡ Some q → serves_by find form q ≡ true → IsSome (chosen_by find rows form)
chosen_some find [] form m q at holds = absurd (grind arith)
chosen_some find (r ∷ rows) form m q at holds = by (same_form r.form form) (find r) m at refl (λ k e. chosen_some find rows form k q e holds)
  where
    -- where the row doesn't serve, a later one does
    later_row : (m : ℕ) → slice_get (r ∷ rows) m ≡ Some q → serves_by find form r ≡ false → ((k : ℕ) → slice_get rows k ≡ Some q → IsSome (chosen_by find rows form)) → IsSome (chosen_by find rows form)
    later_row zero e miss rest = absurd (never _ (ap (serves_by find form) (some_same r q e) ∙ holds) miss)
    later_row (suc k) e miss rest = rest k e

    by : (b : Bool) (o : Option Fields) (m : ℕ) → slice_get (r ∷ rows) m ≡ Some q → serves_by find form r ≡ (b && is_some o) → ((k : ℕ) → slice_get rows k ≡ Some q → IsSome (chosen_by find rows form))
        → IsSome (if b then or_chosen r o (chosen_by find rows form) else chosen_by find rows form)
    by true (Some f) m e s rest = refl
    by true None m e s rest = later_row m e s rest
    by false o m e s rest = later_row m e s rest

pub has_chosen : (rows : List Row) → list_all is_regular rows ≡ true → HasChosen rows
has_chosen rows regular x form m q at same somewhere = chosen_some (λ r. found r x) rows form m q at
    (and_both (same_form q.form form) (is_some (found q x)) (form_same q.form form same) (somewhere_found q x (list_all_get is_regular rows m q regular at) somewhere))

-- ---- the canonical spelling

rm_length : (rm : Option RmRule) (digit : Option ℕ) (code a b : ℕ) (p : Place) → length (rm_bytes rm digit code a p) ≡ length (rm_bytes rm digit code b p)
rm_length rm digit code a b p = grind (arith, nat_tests)

-- its length depends on the row and the fields alone
pub length_is : (row : Row) (f : Fields) (a b : ℕ) → length (bytes_of row (parts_for row f a)) ≡ length (bytes_of row (parts_for row f b))
length_is row f a b =
    let r = rm_length row.rm row.digit (code_of f.reg) a b f.rm in
    let i = little_length (imm_len row.imm f.w) (imm_value row.imm a f.imm) ∙ sym (little_length (imm_len row.imm f.w) (imm_value row.imm b f.imm)) in
    let p = parts_for row f a in
    let q = parts_for row f b in
    let c : length p.rm + length p.imm ≡ length q.rm + length q.imm = ap (λ k. k + length p.imm) r ∙ ap (λ k. length q.rm + k) i in
    length_of row p ∙ (ap (λ k. length p.prefixes + (length (rex_bytes p.rex) + (length (escape row.map) + (1 + k)))) c ∙ sym (length_of row q))

pub chosen_spells : (x : Insn) (at : ℕ) (c : Chosen) (s : List ℕ) → is_regular c.row ≡ true → found c.row x ≡ Some c.fields → spelled_at at (Some c) ≡ Some s → RowSpells c.row s at x
chosen_spells x at c s regular is_found e =
    let next = (at + length_for c.row c.fields) % 2 ^ 64 in
    let low = address_low (at + length_for c.row c.fields) in
    let t = through (reaches c.row c.fields next) (bytes_of c.row (parts_for c.row c.fields next)) s e in
    let b = inverse.found_builds c.row x c.fields regular is_found in
    let spelled = spelled_for c.row c.fields next regular b.had low t.0 in
    let len : length s ≡ length_for c.row c.fields = sym (ap length t.1) ∙ length_is c.row c.fields next 0 in
    let same : next ≡ next_address at s = ap (λ k. (at + k) % 2 ^ 64) (sym len) in
    record {
      parts = parts_for c.row c.fields next;
      spelled = subst (λ k. SpelledBy c.row (parts_for c.row c.fields next) k) t.1 spelled;
      names = sym b.built ∙ (ap (build_op c.row.op) (sym (parts_read c.row c.fields next regular b.had low t.0).same) ∙ ap (λ k. build_op c.row.op (fields c.row (parts_for c.row c.fields next) k)) same);
    }

none_spelled : (at : ℕ) (s : List ℕ) → spelled_at at None ≡ Some s → ⊥
none_spelled at s e = none_some s e

by_chosen : (rows : List Row) (form : Form) (x : Insn) (at : ℕ) (s : List ℕ) → list_all is_regular rows ≡ true → (o : Option Chosen) → chosen_by (λ r. found r x) rows form ≡ o → spelled_at at o ≡ Some s
    → (n : ℕ) × (IsCanonicalRow rows form x n × ((row : Row) → slice_get rows n ≡ Some row → RowSpells row s at x))
by_chosen rows form x at s regular None eo e = absurd (none_spelled at s e)
by_chosen rows form x at s regular (Some c) eo e =
    let f = chosen_first (λ r. found r x) rows form c eo in
    let first : First (serves form x) rows = record { n = f.n; row = c.row; in_table = f.in_table; holds = and_both (same_form c.row.form form) (is_some (found c.row x)) f.same (ap is_some f.is_found); none_before = f.none_before } in
    let r = list_all_get is_regular rows f.n c.row regular f.in_table in
    (f.n, (canonical_of_first rows form x regular first, λ row at_n. subst (λ k. RowSpells k s at x) (some_same c.row row (sym f.in_table ∙ at_n)) (chosen_spells x at c s r f.is_found e)))

pub canonical_spells : (rows : List Row) → list_all is_regular rows ≡ true → CanonicalSpells rows
canonical_spells rows regular x at form s e = by_chosen rows form x at s regular (chosen_by (λ r. found r x) rows form) refl e
