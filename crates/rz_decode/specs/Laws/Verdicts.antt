use Rattle.std.proofs.Common.{ℕ, ◌≡◌, ◌+◌, ◌%◌, ◌^◌, ◌≤◌, ◌<◌, List, [], ◌∷◌, ◌++◌, Option, Some, None, refl, ap, sym, ◌∙◌, subst, arith, length, take, drop, Bool, true, false, zero, suc, append_assoc, length-append, inl, inr}
use Rattle.std.specs.Prelude.{nat_le, if◌then◌else◌, slice_get}
use Rattle.std.specs.List.{list_all}
use Rattle.std.proofs.lemmas.Bool.{cases_Bool}
use Rattle.std.proofs.lemmas.Bool.Decides.{nat_tests}
use Rattle.std.proofs.lemmas.List.{take-append-le, drop-append-le}
use Rattle.std.proofs.lemmas.Grind.{common_steps}
use Rattle.rz_isa.specs.declared.rows.Row.{Row}
use Rattle.rz_isa.specs.declared.rows.RmRule.{RmRule}
use Rattle.rz_num.specs.Bytes.{are_bytes}
use Rattle.rz_isa.specs.Spelling.{Parts, bytes_of, SpelledBy, rex_bytes, escape}
use Rattle.rz_isa.specs.Regular.{is_regular}
use Rattle.rz_isa.specs.Table.{is_plain, all_exclude, OneRow}
use Rattle.rz_isa.specs.Fields.{fields, build_op}
use Rattle.rz_isa.specs.Laws.Exclusion.{plain_row, list_all_get}
use Rattle.rz_isa.specs.Laws.OneRow.{one_row}
use Rattle.rz_isa.specs.Laws.Tests.{some_same, within_test}
use Rattle.rz_isa.specs.declared.decoding.Decoded.{Decoded}
use Rattle.rz_isa.specs.declared.decoding.Decoded.TheVariants as decodeds
use Rattle.rz_isa.specs.Decoded.{Front, front_at, rm_part, imm_part, front_len, parts_of, serves, first_row, decoded_by, decoded}
use Rattle.rz_decode.specs.Laws.Rejoined.{front_again, longer, longer_by_some}
use Rattle.rz_decode.specs.Laws.Filler.{zeros, first_rm}
use Rattle.rz_decode.specs.Laws.Filling.{fill, filled_parts, Suits, suits_of}
use Rattle.rz_decode.specs.Laws.Serving.{served}

-- ---- where the whole front is there, nothing is filled

first_there : (rule : Option RmRule) (d : Option ℕ) (rest : List ℕ) → rm_part rule rest ≤ length rest → first_rm rule d rest ≡ rest
first_there None d rest le = refl
first_there (Some rule) d [] le = absurd (omega arith)
first_there (Some rule) d (m ∷ rest) le = refl

cut_there : (n k : ℕ) (rest more : List ℕ) → n + k ≤ length rest → (take n (rest ++ more) ≡ take n rest) × (take k (drop n (rest ++ more)) ≡ take k (drop n rest))
cut_there n k rest more le = (
  take-append-le n rest more (omega arith),
  ap (take k) (drop-append-le n rest more (omega arith)) ∙ take-append-le k (drop n rest) more (grind (arith, common_steps)),
)

parts_same : (row : Row) (f : Front) (xs : List ℕ) → rm_part row.rm f.opcode.rest + imm_part row f ≤ length f.opcode.rest → filled_parts row f ≡ parts_of row f
parts_same row f xs le =
    let n : ℕ = rm_part row.rm f.opcode.rest in
    let k : ℕ = imm_part row f in
    let e = ap (λ x. x ++ zeros (n + k)) (first_there row.rm row.digit f.opcode.rest (omega arith)) in
    let c = cut_there n k f.opcode.rest (zeros (n + k)) le in
    let rm = ap (take n) e ∙ c.0 in
    let imm = ap (λ x. take k (drop n x)) e ∙ c.1 in
    λ i. record { prefixes = f.prefixes; rex = f.rex; opcode = f.opcode.byte; rm = rm i; imm = imm i }

whole_length : (a b c rest : List ℕ) (o : ℕ) → length (a ++ (b ++ (c ++ (o ∷ (rest ++ []))))) ≡ length a + (length b + (length c + (1 + length rest)))
whole_length a b c rest o = grind (arith, length-append, common_steps)

-- so many bytes stand behind the opcode
there : (row : Row) (bytes : List ℕ) → Suits row (front_at row bytes) → front_len row (front_at row bytes) ≤ length bytes →
    rm_part row.rm (front_at row bytes).opcode.rest + imm_part row (front_at row bytes) ≤ length (front_at row bytes).opcode.rest
there row bytes s le =
    let f : Front = front_at row bytes in
    let g = front_again row bytes [] in
    let a = ap length g.same in
    let b = whole_length f.prefixes (rex_bytes f.rex) (escape f.opcode.map) f.opcode.rest f.opcode.byte in
    let c = length-append bytes g.more in
    let m = ap (λ k. length (escape k)) s.map in
    omega arith

-- ---- what a row that serves the bytes spells

pub record Whole (row : Row) (bytes : List ℕ) : Type 0 where
  pub more : List ℕ
  pub same : bytes ≡ bytes_of row (parts_of row (front_at row bytes)) ++ more
  pub len : length (bytes_of row (parts_of row (front_at row bytes))) ≡ front_len row (front_at row bytes)
  pub spelled : SpelledBy row (parts_of row (front_at row bytes)) (bytes_of row (parts_of row (front_at row bytes)))

pub record Begun (row : Row) (bytes : List ℕ) : Type 0 where
  pub parts : Parts
  pub next : ℕ
  pub more : List ℕ
  pub spelled : SpelledBy row parts (bytes ++ (next ∷ more))

pub whole_of : (row : Row) (bytes : List ℕ) → is_regular row ≡ true → are_bytes bytes ≡ true → serves bytes row ≡ true → front_len row (front_at row bytes) ≤ length bytes → Whole row bytes
whole_of row bytes regular h serve le =
    let f : Front = front_at row bytes in
    let s = suits_of row f serve in
    let l = fill row bytes regular h serve in
    let e : filled_parts row f ≡ parts_of row f = parts_same row f [] (there row bytes s le) in
    let eb = ap (bytes_of row) e in
    let o = longer (bytes_of row (filled_parts row f)) bytes l.behind l.more l.same (let n = l.len in omega arith) in
    record {
      more = o.0;
      same = o.1 ∙ ap (λ k. k ++ o.0) eb;
      len = sym (ap length eb) ∙ l.len;
      spelled = subst (λ k. SpelledBy row k (bytes_of row k)) e (record { bytes = refl; fits = l.fits; all = l.all; short = within_test _ 15 (let n = l.len in let r = s.room in omega arith) });
    }

pub begun_of : (row : Row) (bytes : List ℕ) → is_regular row ≡ true → are_bytes bytes ≡ true → serves bytes row ≡ true → length bytes < front_len row (front_at row bytes) → Begun row bytes
begun_of row bytes regular h serve lt =
    let f : Front = front_at row bytes in
    let s = suits_of row f serve in
    let l = fill row bytes regular h serve in
    let o = longer_by_some bytes (bytes_of row (filled_parts row f)) l.more l.behind (sym l.same) (let n = l.len in omega arith) in
    record {
      parts = filled_parts row f;
      next = o.0;
      more = o.1;
      spelled = subst (λ k. SpelledBy row (filled_parts row f) k) o.2 (record { bytes = refl; fits = l.fits; all = l.all; short = within_test _ 15 (let n = l.len in let r = s.room in omega arith) });
    }

-- ---- the first row that serves

first_is : (test : Row → Bool) (rows : List Row) (row : Row) → first_row test rows ≡ Some row → (n : ℕ) × (slice_get rows n ≡ Some row) × (test row ≡ true)
first_is test [] row e = absurd (cc)
first_is test (q ∷ rows) row e = elim (cases_Bool (test q)) [
  | inl y ↦ (let s = some_same q row (sym (ap (λ k. if k then Some q else first_row test rows) y) ∙ e) in (zero, ap Some s, subst (λ k. test k ≡ true) s y))
  | inr n ↦ (let i = first_is test rows row (sym (ap (λ k. if k then Some q else first_row test rows) n) ∙ e) in (suc i.0, i.1, i.2))
]

tail_none : (test : Row → Bool) (rows : List Row) (q : Row) → first_row test (q ∷ rows) ≡ None → (test q ≡ false) × (first_row test rows ≡ None)
tail_none test rows q e = elim (cases_Bool (test q)) [
  | inl y ↦ absurd (let c : Some q ≡ None = sym (ap (λ k. if k then Some q else first_row test rows) y) ∙ e in cc)
  | inr k ↦ (k, sym (ap (λ z. if z then Some q else first_row test rows) k) ∙ e)
]

first_none : (test : Row → Bool) (rows : List Row) (n : ℕ) (row : Row) → first_row test rows ≡ None → slice_get rows n ≡ Some row → test row ≡ false
first_none test [] n row e at = absurd (grind arith)
first_none test (q ∷ rows) zero row e at = (let s : q ≡ row = grind arith in subst (λ z. test z ≡ false) s (tail_none test rows q e).0)
first_none test (q ∷ rows) (suc n) row e at = first_none test rows n row (tail_none test rows q e).1 (grind arith)

-- ---- the laws

pub record Laws (rows : List Row) : Type 0 where
  pub plain : list_all is_plain rows ≡ true
  pub exclude : all_exclude rows ≡ true
  pub regular : list_all is_regular rows ≡ true

pub regular_at : (rows : List Row) (n : ℕ) (row : Row) → Laws rows → slice_get rows n ≡ Some row → is_regular row ≡ true
regular_at rows n row l at = list_all_get is_regular rows n row l.regular at

pub one : (rows : List Row) → Laws rows → OneRow rows
one rows l = one_row rows l.plain l.exclude

-- a row that spells a front of the bytes, or a list that they begin, serves them
pub serves_front : (rows : List Row) (n : ℕ) (row : Row) (p : Parts) (s bytes more rest : List ℕ) → Laws rows → slice_get rows n ≡ Some row → SpelledBy row p s → s ++ more ≡ bytes ++ rest → serves bytes row ≡ true
serves_front rows n row p s bytes more rest l at h same = served row p s bytes more rest (plain_row row (list_all_get is_plain rows n row l.plain at)) (regular_at rows n row l at) h same

-- what the first row that serves says
pub data Verdict (rows : List Row) (bytes : List ℕ) (at : ℕ) : Decoded → Type 0 where
  named : (n : ℕ) (row : Row) (in_table : slice_get rows n ≡ Some row) (w : Whole row bytes)
      → Verdict rows bytes at (decodeds.Insn (build_op row.op (fields row (parts_of row (front_at row bytes)) ((at + front_len row (front_at row bytes)) % 2 ^ 64))) (front_len row (front_at row bytes)))
  begun : (n : ℕ) (row : Row) (in_table : slice_get rows n ≡ Some row) (b : Begun row bytes) → Verdict rows bytes at decodeds.Short
  unserved : ((n : ℕ) (row : Row) → slice_get rows n ≡ Some row → serves bytes row ≡ false) → Verdict rows bytes at decodeds.Unknown

pub verdict_by : (rows : List Row) (n : ℕ) (row : Row) (bytes : List ℕ) (at : ℕ) → Laws rows → are_bytes bytes ≡ true → slice_get rows n ≡ Some row → serves bytes row ≡ true → Verdict rows bytes at (decoded_by bytes at (Some row))
verdict_by rows n row bytes at l h in_table serve =
    let f : Front = front_at row bytes in
    let x : Decoded = decodeds.Insn (build_op row.op (fields row (parts_of row f) ((at + front_len row f) % 2 ^ 64))) (front_len row f) in
    elim (cases_Bool (nat_le (front_len row f) (length bytes))) [
      | inl y ↦ subst (λ k. Verdict rows bytes at (if k then x else decodeds.Short)) (sym y) (named n row in_table (whole_of row bytes (regular_at rows n row l in_table) h serve (le _ _ y)))
      | inr z ↦ subst (λ k. Verdict rows bytes at (if k then x else decodeds.Short)) (sym z) (begun n row in_table (begun_of row bytes (regular_at rows n row l in_table) h serve (lt _ _ z)))
    ]
  where
    le : (n k : ℕ) → nat_le n k ≡ true → n ≤ k
    le n k h = grind (arith, nat_tests)

    lt : (n k : ℕ) → nat_le n k ≡ false → k < n
    lt n k h = grind (arith, nat_tests)

pub verdict : (rows : List Row) (bytes : List ℕ) (at : ℕ) → Laws rows → are_bytes bytes ≡ true → Verdict rows bytes at (decoded rows bytes at)
verdict rows bytes at l h = go (first_row (serves bytes) rows) refl
  where
    go : (o : Option Row) → first_row (serves bytes) rows ≡ o → Verdict rows bytes at (decoded_by bytes at o)
    go None e = unserved (λ n row in_table. first_none (serves bytes) rows n row e in_table)
    go (Some row) e = (let i = first_is (serves bytes) rows row e in verdict_by rows i.0 row bytes at l h i.1 i.2)

-- ---- what each verdict means

some_rest : (more : List ℕ) (n : ℕ) (m : List ℕ) → more ++ (n ∷ m) ≡ [] → ⊥
some_rest [] n m e = cc
some_rest (x ∷ more) n m e = cc

-- a spelled front and a begun spelling don't go together
pub apart : (rows : List Row) → Laws rows → (n m : ℕ) (row q : Row) (p : Parts) (s more bytes : List ℕ) → slice_get rows n ≡ Some row → slice_get rows m ≡ Some q → SpelledBy row p s → s ++ more ≡ bytes → Begun q bytes → ⊥
apart rows l n m row q p s more bytes at_n at_m h same b =
    let e : bytes ++ (b.next ∷ b.more) ≡ s ++ (more ++ (b.next ∷ b.more)) = ap (λ k. k ++ (b.next ∷ b.more)) (sym same) ∙ append_assoc s more (b.next ∷ b.more) in
    some_rest more b.next b.more (one rows l n m row q s (more ++ (b.next ∷ b.more)) p b.parts at_n at_m h (subst (λ k. SpelledBy q b.parts k) e b.spelled)).whole
