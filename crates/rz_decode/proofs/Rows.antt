use Rattle.std.proofs.Common.{ℕ, ◌≡◌, ◌+◌, ◌%◌, ◌^◌, ◌≤◌, ◌<◌, ◌==◌, List, [], ◌∷◌, ◌++◌, Option, Some, None, refl, ap, sym, ◌∙◌, subst, arith, length, take, drop, get_or, Bool, true, false, zero, suc, inl, inr}
use Rattle.std.specs.Prelude.{nat_le, nat_lt, min, slice_get, if◌then◌else◌}
use Rattle.std.specs.List.{take_while}
use Rattle.std.proofs.lemmas.Bool.{cases_Bool}
use Rattle.std.proofs.lemmas.Bool.Decides.{nat_tests}
use Rattle.std.proofs.lemmas.List.{take_all}
use Rattle.std.proofs.lemmas.Grind.{common_steps}
use Rattle.std.proofs.lemmas.List.Sums.{take_while-cons}
use Rattle.rz_isa.specs.declared.decoding.Decoded.{Decoded}
use Rattle.rz_isa.specs.declared.decoding.Decoded.TheVariants as decodeds
use Rattle.rz_isa.specs.declared.rows.Row.{Row}
use Rattle.rz_isa.specs.declared.rows.RmRule.{RmRule}
use Rattle.rz_num.specs.Bytes.{are_bytes}
use Rattle.rz_isa.specs.Spelling.{Parts, bytes_of, is_prefix, rm_fits}
use Rattle.rz_isa.specs.Reading.{skip_while, behind_rex, opcode_at}
use Rattle.rz_isa.specs.Fields.{fields, build_op}
use Rattle.rz_isa.specs.Regular.{is_regular}
use Rattle.rz_isa.specs.Index.{is_listed}
use Rattle.rz_isa.specs.Decoded.{Front, front_by, front_at, front_len, front_width, rm_part, imm_part, first_row, last_opcode, parts_of, suits, serves, decoded_by, decoded}
use Rattle.rz_isa.specs.Laws.Exclusion.{rm_fits_len}
use Rattle.rz_isa.specs.Laws.Inverse.{regular_of}
use Rattle.rz_isa.specs.Laws.Tests.{some_same, and_both}
use Rattle.rz_decode.specs.declared.front.Front as fronts
use Rattle.rz_decode.specs.declared.front.Opcode as opcodes
use Rattle.rz_decode.specs.Calls.Decode.{Says, ListsServing, EndsBeforeOpcode}
use Rattle.rz_decode.specs.Calls.Views.{opcode_option, front_view, is_whole_rm}
use Rattle.rz_decode.specs.Laws.Filling.{last_byte, suits_of}
use Rattle.rz_decode.specs.Laws.Room.{imm_eight}
use Rattle.rz_decode.specs.Laws.Verdicts.{Laws, Verdict, named, begun, unserved, verdict_by, whole_of}
use Rattle.rz_decode.specs.Laws.Exactness.{whole_spells, complete_law, short_law, fifteen_law}
use Rattle.rz_decode.proofs.Unfinished.{ends_before}

-- ---- any row that serves decides

pub unserved_is : (rows : List Row) (bytes : List ℕ) (at : ℕ) → ((n : ℕ) (row : Row) → slice_get rows n ≡ Some row → serves bytes row ≡ false) → decodeds.Unknown ≡ decoded rows bytes at
unserved_is rows bytes at none = go rows none
  where
    go : (rs : List Row) → ((n : ℕ) (row : Row) → slice_get rs n ≡ Some row → serves bytes row ≡ false) → decodeds.Unknown ≡ decoded rs bytes at
    go [] none = refl
    go (r ∷ rs) none = go rs (λ n row e. none (suc n) row e) ∙ ap (λ k. decoded_by bytes at (if k then Some r else first_row (serves bytes) rs)) (sym (none zero r refl))

unique : (rows : List Row) (bytes : List ℕ) (at : ℕ) (d : Decoded) → Laws rows → are_bytes bytes ≡ true → Verdict rows bytes at d → d ≡ decoded rows bytes at
unique rows bytes at _ l h (named n row in_table w) =
    let s : List ℕ = bytes_of row (parts_of row (front_at row bytes)) in
    let c = complete_law rows l s w.more at _ (ap are_bytes (sym w.same) ∙ h) (whole_spells rows n row bytes at in_table w) in
    sym (ap (λ k. decoded rows k at) w.same ∙ (c ∙ ap (decodeds.Insn (build_op row.op (fields row (parts_of row (front_at row bytes)) ((at + front_len row (front_at row bytes)) % 2 ^ 64)))) w.len))
unique rows bytes at _ l h (begun n row in_table b) =
    sym ((short_law rows l).short bytes at h (record { n = n; row = row; in_table = in_table; parts = b.parts; next = b.next; more = b.more; spelled = b.spelled }))
unique rows bytes at _ l h (unserved none) = unserved_is rows bytes at none

pub served_is : (rows : List Row) (n : ℕ) (row : Row) (bytes : List ℕ) (at : ℕ) (d : Decoded) → Laws rows → are_bytes bytes ≡ true → slice_get rows n ≡ Some row → Says row bytes at d → d ≡ decoded rows bytes at
served_is rows n row bytes at d l h in_table s = s.is ∙ unique rows bytes at _ l h (verdict_by rows n row bytes at l h in_table s.serves)

-- where the bytes end before their opcode, a row that serves them says that they are short
pub unfinished_is : (rows : List Row) (n : ℕ) (row : Row) (bytes : List ℕ) (at : ℕ) → Laws rows → are_bytes bytes ≡ true → slice_get rows n ≡ Some row → serves bytes row ≡ true → opcode_at (behind_rex (skip_while is_prefix bytes)) ≡ None
    → decodeds.Short ≡ decoded rows bytes at
unfinished_is rows n row bytes at l h in_table serve ended =
    let f : Front = front_at row bytes in
    let x : Decoded = decodeds.Insn (build_op row.op (fields row (parts_of row f) ((at + front_len row f) % 2 ^ 64))) (front_len row f) in
    served_is rows n row bytes at decodeds.Short l h in_table
    (record { serves = serve; is = sym (ap (λ k. if k then x else decodeds.Short) (ends_before rows n row bytes l h in_table serve ended)) })

-- within 15 bytes there is no room for one
pub full_is : (rows : List Row) (bytes : List ℕ) (at : ℕ) → Laws rows → are_bytes bytes ≡ true → 15 ≤ length bytes → opcode_at (behind_rex (skip_while is_prefix bytes)) ≡ None → decodeds.Unknown ≡ decoded rows bytes at
full_is rows bytes at l h full ended = unserved_is rows bytes at (λ n row in_table. elim (cases_Bool (serves bytes row)) [
  | inl y ↦ absurd (long (front_len row (front_at row bytes)) (length bytes) (suits_of row (front_at row bytes) y).room full (ends_before rows n row bytes l h in_table y ended))
  | inr z ↦ z
])
  where
    long : (n k : ℕ) → n ≤ 15 → 15 ≤ k → nat_le n k ≡ false → ⊥
    long n k a b h = grind (arith, nat_tests)

-- ---- bytes of a slice

pub bytes_from : (s : List ℕ) → ((i : ℕ) → get_or s i 0 < 256) → are_bytes s ≡ true
bytes_from [] each = refl
bytes_from (b ∷ s) each = and_both _ _ (first b (each 0)) (bytes_from s (λ i. each (suc i)))
  where
    first : (b : ℕ) → b < 256 → nat_lt b 256 ≡ true
    first b l = grind (arith, nat_tests)

-- ---- the parts of an instruction that is there

pub whole_rm : (rule : Option RmRule) (d : Option ℕ) (rm : List ℕ) → rm_fits rule d rm ≡ true → is_whole_rm rm ≡ true
whole_rm None d [] fit = refl
whole_rm None d (m ∷ rm) fit = absurd (cc)
whole_rm (Some rule) d [] fit = absurd (cc)
whole_rm (Some rule) d (m ∷ rm) fit = (let e = rm_fits_len rule d m rm fit in grind (arith, nat_tests))

pub parts_sized : (row : Row) (bytes : List ℕ) → is_regular row ≡ true → are_bytes bytes ≡ true → serves bytes row ≡ true → front_len row (front_at row bytes) ≤ length bytes
    → (is_whole_rm (parts_of row (front_at row bytes)).rm ≡ true) × (length (parts_of row (front_at row bytes)).imm ≤ 8)
parts_sized row bytes regular h serve le =
    let w = whole_of row bytes regular h serve le in
    let e = imm_eight row.imm (front_width row (front_at row bytes)) in
    (whole_rm row.rm row.digit (parts_of row (front_at row bytes)).rm w.spelled.fits.rm, small (imm_part row (front_at row bytes)) (drop (rm_part row.rm (front_at row bytes).opcode.rest) (front_at row bytes).opcode.rest) e)
  where
    small : (k : ℕ) (xs : List ℕ) → k ≤ 8 → length (take k xs) ≤ 8
    small k xs le = grind (arith, common_steps)

pub rm_ok : (row : Row) (bytes : List ℕ) (f : Front) (p : Parts) (n : ℕ) → is_regular row ≡ true → are_bytes bytes ≡ true → serves bytes row ≡ true → f ≡ front_at row bytes → p ≡ parts_of row f → n ≡ front_len row f → n ≤ length bytes
    → is_whole_rm p.rm ≡ true
rm_ok row bytes f p n regular h serve ef ep en le =
    let l = ap (front_len row) ef in
    ap (λ (k : Parts). is_whole_rm k.rm) (ep ∙ ap (parts_of row) ef) ∙ (parts_sized row bytes regular h serve (omega arith)).0

pub last_low : (row : Row) → is_regular row ≡ true → last_opcode row < 256
last_low row regular = low _ (last_byte row (regular_of row regular).block)
  where
    low : (n : ℕ) → nat_lt n 256 ≡ true → n < 256
    low n h = grind (arith, nat_tests)

passed_few : (p : ℕ → Bool) (xs : List ℕ) → length (take_while p xs) ≤ length xs
passed_few p [] = omega arith
passed_few p (x ∷ xs) = grind (arith, common_steps, take_while-cons p x xs, passed_few p xs)

-- ---- the numbers that are tried have every row that serves

any_at : (xs : List ℕ) (n : ℕ) → is_listed xs n ≡ true → (j : ℕ) × (j < length xs) × (get_or xs j 0 ≡ n)
any_at [] n h = absurd (cc)
any_at (x ∷ xs) n h = elim (cases_Bool (x == n)) [
  | inl y ↦ (0, omega arith, grind (arith, nat_tests))
  | inr z ↦ (let i = any_at xs n (grind arith) in (suc i.0, (let l = i.1 in omega arith), i.2))
]

-- what is listed and doesn't serve
pub none_listed : (rows : List Row) (numbers bytes : List ℕ) → ListsServing rows bytes numbers → ((j : ℕ) (row : Row) → j < length numbers → slice_get rows (get_or numbers j 0) ≡ Some row → serves bytes row ≡ false)
    → (n : ℕ) (row : Row) → slice_get rows n ≡ Some row → serves bytes row ≡ false
none_listed rows numbers bytes l none n row at = elim (cases_Bool (serves bytes row)) [
  | inl y ↦ (let j = any_at numbers n (l n row at y) in none j.0 row j.1 (ap (slice_get rows) j.2 ∙ at))
  | inr z ↦ z
]

-- ---- what the code has read

-- the test of a row with the front by it is whether the row serves
pub tested : (row : Row) (bytes ps t : List ℕ) (f : fronts.Front) (b : Bool) → ps ≡ take_while is_prefix bytes → t ≡ skip_while is_prefix bytes → front_view f ≡ front_by row ps t → b ≡ suits row (front_view f) → serves bytes row ≡ b
tested row bytes ps t f b ep et ef eb = sym (eb ∙ (ap (suits row) ef ∙ (ap (λ k. suits row (front_by row k t)) ep ∙ ap (λ k. suits row (front_by row (take_while is_prefix bytes) k)) et)))

-- no opcode was found
pub ended : (bytes t r : List ℕ) (o : Option opcodes.Opcode) → t ≡ skip_while is_prefix bytes → r ≡ behind_rex t → opcode_option o ≡ opcode_at r → o ≡ None → EndsBeforeOpcode bytes
ended bytes t r o et er eo en = sym (ap opcode_option (sym en) ∙ (eo ∙ (ap opcode_at er ∙ ap (λ k. opcode_at (behind_rex k)) et)))

-- ---- the loops

pub get_within : (rows : List Row) (n : ℕ) (row : Row) → slice_get rows n ≡ Some row → n < length rows
get_within [] n row at = absurd (grind arith)
get_within (r ∷ rows) zero row at = omega arith
get_within (r ∷ rows) (suc n) row at = (let i = get_within rows n row (grind arith) in omega arith)

pub one_more : (at : ℕ → ℕ) (rows : List Row) (bytes : List ℕ) (n : ℕ) → ((k : ℕ) (r : Row) → k < n → slice_get rows (at k) ≡ Some r → serves bytes r ≡ false) → ((r : Row) → slice_get rows (at n) ≡ Some r → serves bytes r ≡ false)
    → (k : ℕ) (r : Row) → k < n + 1 → slice_get rows (at k) ≡ Some r → serves bytes r ≡ false
one_more at rows bytes n before last k r lt e = elim (cases_Bool (nat_lt k n)) [
  | inl y ↦ before k r (grind (arith, nat_tests)) e
  | inr z ↦ (let s : k ≡ n = grind (arith, nat_tests) in last r (ap (λ x. slice_get rows (at x)) (sym s) ∙ e))
]

pub row_none : (rows : List Row) (bytes : List ℕ) (n : ℕ) (q : Row) → slice_get rows n ≡ Some q → serves bytes q ≡ false → (r : Row) → slice_get rows n ≡ Some r → serves bytes r ≡ false
row_none rows bytes n q in_table none r at = subst (λ k. serves bytes k ≡ false) (some_same q r (sym in_table ∙ at)) none

pub row_absent : (rows : List Row) (bytes : List ℕ) (n : ℕ) → length rows ≤ n → (r : Row) → slice_get rows n ≡ Some r → serves bytes r ≡ false
row_absent rows bytes n le r at = absurd (let l = get_within rows n r at in omega arith)

-- ---- the cut to 15 bytes

cut_same : (m : ℕ) (bytes : List ℕ) → m ≡ min (length bytes) 15 → take m bytes ≡ take 15 bytes
cut_same m bytes e = elim (cases_Bool (nat_le (length bytes) 15)) [
  | inl y ↦ (let l : length bytes ≤ 15 = grind (arith, nat_tests) in take_all m bytes (omega arith) ∙ sym (take_all 15 bytes l))
  | inr n ↦ (let l : 15 < length bytes = grind (arith, nat_tests) in let f : m ≡ 15 = omega arith in ap (λ k. take k bytes) f)
]

pub cut_decides : (rows : List Row) (bytes : List ℕ) (at m : ℕ) (d : Decoded) → Laws rows → ((i : ℕ) → get_or bytes i 0 < 256) → m ≡ min (length bytes) 15 → d ≡ decoded rows (take m bytes) at → d ≡ decoded rows bytes at
cut_decides rows bytes at m d l each em ed = ed ∙ (ap (λ k. decoded rows k at) (cut_same m bytes em) ∙ fifteen_law rows l bytes at (bytes_from bytes each))

-- ---- the prefixes with F3 behind them

front_and_one : (ps : List ℕ) (x : ℕ) (ys : List ℕ) → take (length ps + 1) (ps ++ (x ∷ ys)) ≡ ps ++ (x ∷ [])
front_and_one [] x ys = refl
front_and_one (p ∷ ps) x ys = ap (λ k. take k (p ∷ (ps ++ (x ∷ ys)))) (one_up (length ps)) ∙ ap (λ z. p ∷ z) (front_and_one ps x ys)
  where
    one_up : (n : ℕ) → suc n + 1 ≡ suc (n + 1)
    one_up n = omega arith

many_f3 : ℕ → List ℕ
many_f3 zero = []
many_f3 (suc n) = 0xf3 ∷ many_f3 n

drop_many : (n m : ℕ) → n < m → (ys : List ℕ) × (drop n (many_f3 m) ≡ 0xf3 ∷ ys)
unfolding many_f3
drop_many n zero lt = absurd (omega arith)
drop_many zero (suc m) lt = (many_f3 m, refl)
drop_many (suc n) (suc m) lt = drop_many n m (omega arith)

pub with_f3_is : (ps self : List ℕ) → self ≡ ps → length ps ≤ 15 →
    take (length ps + 1) (self ++ drop (length ps) (243 ∷ 243 ∷ 243 ∷ 243 ∷ 243 ∷ 243 ∷ 243 ∷ 243 ∷ 243 ∷ 243 ∷ 243 ∷ 243 ∷ 243 ∷ 243 ∷ 243 ∷ 243 ∷ [])) ≡ ps ++ (0xf3 ∷ [])
unfolding many_f3
with_f3_is ps self e le =
    let d = drop_many (length ps) 16 (omega arith) in
    ap (λ k. take (length ps + 1) (k ++ drop (length ps) (many_f3 16))) e ∙ (ap (λ k. take (length ps + 1) (ps ++ k)) d.1 ∙ front_and_one ps 0xf3 d.0)

pub prefixes_few : (bytes ps : List ℕ) → ps ≡ take_while is_prefix bytes → length bytes ≤ 15 → length ps ≤ 15
prefixes_few bytes ps e le = (let a = passed_few is_prefix bytes in let b = ap (λ (k : List ℕ). length k) e in omega arith)
