use Rattle.std.proofs.Common.{ℕ, ◌≡◌, ◌+◌, ◌-◌, ◌%◌, ◌^◌, ◌≤◌, ◌<◌, List, [], ◌∷◌, ◌++◌, Some, refl, ap, sym, ◌∙◌, subst, arith, length, take, drop, true, zero, suc, append_assoc, length-append, inl, inr}
use Rattle.std.specs.Prelude.{nat_le, slice_get}
use Rattle.std.proofs.Math.Seq.{take-append_seam}
use Rattle.std.proofs.lemmas.Bool.{cases_Bool}
use Rattle.std.proofs.lemmas.Bool.Decides.{nat_tests}
use Rattle.std.proofs.lemmas.List.{append-nil, take-append-drop, take_all}
use Rattle.std.proofs.lemmas.Grind.{common_steps}
use Rattle.rz_isa.specs.declared.rows.Row.{Row}
use Rattle.rz_isa.specs.declared.instruction.Insn.{Insn}
use Rattle.rz_num.specs.Bytes.{are_bytes}
use Rattle.rz_isa.specs.Spelling.{Parts, bytes_of, SpelledBy}
use Rattle.rz_isa.specs.Fields.{fields, build_op}
use Rattle.rz_isa.specs.Spells.{Spells, Begins, IsUnknown}
use Rattle.rz_isa.specs.Laws.Tests.{never, some_same}
use Rattle.rz_isa.specs.declared.decoding.Decoded.{Decoded}
use Rattle.rz_isa.specs.declared.decoding.Decoded.TheVariants as decodeds
use Rattle.rz_isa.specs.Decoded.{Front, front_at, front_len, parts_of, decoded}
use Rattle.rz_isa.specs.DecodedLaws.{FrontSpells, Exact, DecodesExactly, FifteenCount}
use Rattle.rz_decode.specs.Laws.Rejoined.{longer}
use Rattle.rz_decode.specs.Laws.Filling.{all_parts}
use Rattle.rz_decode.specs.Laws.Verdicts.{Laws, Whole, Begun, Verdict, named, begun, unserved, verdict, one, serves_front, apart}

-- ---- the laws one by one

-- what is called an instruction is spelled by the first bytes
abbrev Named : List Row → Type 0
Named rows = (bytes : List ℕ) (at n : ℕ) (x : Insn) → are_bytes bytes ≡ true → decoded rows bytes at ≡ decodeds.Insn x n → FrontSpells rows bytes at x n

-- where the first bytes spell an instruction, it is named with their number
abbrev pub Complete : List Row → Type 0
Complete rows = (s more : List ℕ) (at : ℕ) (x : Insn) → are_bytes (s ++ more) ≡ true → Spells rows s at x → decoded rows (s ++ more) at ≡ decodeds.Insn x (length s)

pub record ShortExact (rows : List Row) : Type 0 where
  pub begins : (bytes : List ℕ) (at : ℕ) → are_bytes bytes ≡ true → decoded rows bytes at ≡ decodeds.Short → Begins rows bytes
  pub short : (bytes : List ℕ) (at : ℕ) → are_bytes bytes ≡ true → Begins rows bytes → decoded rows bytes at ≡ decodeds.Short

record UnknownExact (rows : List Row) : Type 0 where
  unknown : (bytes : List ℕ) (at : ℕ) → are_bytes bytes ≡ true → decoded rows bytes at ≡ decodeds.Unknown → IsUnknown rows bytes
  is_unknown : (bytes : List ℕ) (at : ℕ) → are_bytes bytes ≡ true → IsUnknown rows bytes → decoded rows bytes at ≡ decodeds.Unknown

-- ---- what is named is spelled

address : (row : Row) (at n : ℕ) (p : Parts) (s : List ℕ) → length s ≡ n → build_op row.op (fields row p ((at + n) % 2 ^ 64)) ≡ build_op row.op (fields row p ((at + length s) % 2 ^ 64))
address row at n p s e = ap (λ k. build_op row.op (fields row p ((at + k) % 2 ^ 64))) (sym e)

pub whole_spells : (rows : List Row) (n : ℕ) (row : Row) (bytes : List ℕ) (at : ℕ) → slice_get rows n ≡ Some row → Whole row bytes
    → Spells rows (bytes_of row (parts_of row (front_at row bytes))) at (build_op row.op (fields row (parts_of row (front_at row bytes)) ((at + front_len row (front_at row bytes)) % 2 ^ 64)))
whole_spells rows n row bytes at in_table w = record {
  n = n;
  row = row;
  in_table = in_table;
  by_row = record { parts = parts_of row (front_at row bytes); spelled = w.spelled; names = address row at (front_len row (front_at row bytes)) (parts_of row (front_at row bytes)) (bytes_of row (parts_of row (front_at row bytes))) w.len };
}

named_by : (rows : List Row) (bytes : List ℕ) (at n : ℕ) (x : Insn) (d : Decoded) → Verdict rows bytes at d → d ≡ decodeds.Insn x n → FrontSpells rows bytes at x n
named_by rows bytes at n x _ (named m row in_table w) e =
    let f : Front = front_at row bytes in
    let s : List ℕ = bytes_of row (parts_of row f) in
    let en : front_len row f ≡ n = cc in
    let ex : build_op row.op (fields row (parts_of row f) ((at + front_len row f) % 2 ^ 64)) ≡ x = cc in
    let len = w.len in
    let t : take n bytes ≡ s = ap (λ k. take k bytes) (sym en ∙ sym len) ∙ (ap (take (length s)) w.same ∙ take-append_seam s w.more) in
    let a = ap length w.same in
    let b = length-append s w.more in
    let sp = subst (λ k. Spells rows s at k) ex (whole_spells rows m row bytes at in_table w) in
    record { within = omega arith; spells = subst (λ k. Spells rows k at x) (sym t) sp }
named_by rows bytes at n x _ (begun m row in_table b) e = absurd (cc)
named_by rows bytes at n x _ (unserved none) e = absurd (cc)

named_law : (rows : List Row) → Laws rows → Named rows
named_law rows l bytes at n x h e = named_by rows bytes at n x _ (verdict rows bytes at l h) e

-- ---- what is spelled is named

pub record SameSpelling (n m : ℕ) (p q : Parts) (s t : List ℕ) : Type 0 where
  pub row : n ≡ m
  pub parts : p ≡ q
  pub bytes : s ≡ t

one_front : (rows : List Row) → Laws rows → (n m : ℕ) (r q : Row) (a b : Parts) (s t x y : List ℕ) → slice_get rows n ≡ Some r → slice_get rows m ≡ Some q → SpelledBy r a s → SpelledBy q b t → s ++ x ≡ t ++ y → SameSpelling n m a b s t
one_front rows l n m r q a b s t x y at_n at_m hs ht same = elim (cases_Bool (nat_le (length s) (length t))) [
  | inl z ↦
      (let o = longer s t x y same (grind (arith, nat_tests)) in
      let i = one rows l n m r q s o.0 a b at_n at_m hs (subst (λ k. SpelledBy q b k) o.1 ht) in
      record { row = i.row; parts = i.parts; bytes = sym (o.1 ∙ (ap (λ k. s ++ k) i.whole ∙ append-nil s)) })
  | inr z ↦
      (let o = longer t s y x (sym same) (grind (arith, nat_tests)) in
      let i = one rows l m n q r t o.0 b a at_m at_n ht (subst (λ k. SpelledBy r a k) o.1 hs) in
      record { row = sym i.row; parts = sym i.parts; bytes = o.1 ∙ (ap (λ k. t ++ k) i.whole ∙ append-nil t) })
]

complete_by : (rows : List Row) (s more : List ℕ) (at : ℕ) (x : Insn) (d : Decoded) → Laws rows → Spells rows s at x → Verdict rows (s ++ more) at d → d ≡ decodeds.Insn x (length s)
complete_by rows s more at x _ l h (named m row in_table w) =
    let f : Front = front_at row (s ++ more) in
    let t : List ℕ = bytes_of row (parts_of row f) in
    let o = one_front rows l h.n m h.row row h.by_row.parts (parts_of row f) s t more w.more h.in_table in_table h.by_row.spelled w.spelled w.same in
    let er : h.row ≡ row = some_same _ _ (sym h.in_table ∙ (ap (slice_get rows) o.row ∙ in_table)) in
    let en : front_len row f ≡ length s = sym w.len ∙ ap length (sym o.bytes) in
    let ex : x ≡ build_op row.op (fields row (parts_of row f) ((at + front_len row f) % 2 ^ 64)) =
    h.by_row.names ∙ (ap (λ k. build_op k.op (fields k h.by_row.parts ((at + length s) % 2 ^ 64))) er ∙ (ap (λ k. build_op row.op (fields row k ((at + length s) % 2 ^ 64))) o.parts
    ∙ ap (λ k. build_op row.op (fields row (parts_of row f) ((at + k) % 2 ^ 64))) (sym en))) in
    both _ _ _ _ (sym ex) en
  where
    both : (x y : Insn) (n k : ℕ) → x ≡ y → n ≡ k → decodeds.Insn x n ≡ decodeds.Insn y k
    both x y n k ex en = cc
complete_by rows s more at x _ l h (begun m row in_table b) = absurd (apart rows l h.n m h.row row h.by_row.parts s more (s ++ more) h.in_table in_table h.by_row.spelled refl b)
complete_by rows s more at x _ l h (unserved none) =
    absurd (never _ (serves_front rows h.n h.row h.by_row.parts s (s ++ more) more [] l h.in_table h.by_row.spelled (sym (append-nil (s ++ more)))) (none h.n h.row h.in_table))

pub complete_law : (rows : List Row) → Laws rows → Complete rows
complete_law rows l s more at x all h = complete_by rows s more at x _ l h (verdict rows (s ++ more) at l all)

-- ---- Short

begins_by : (rows : List Row) (bytes : List ℕ) (at : ℕ) (d : Decoded) → Verdict rows bytes at d → d ≡ decodeds.Short → Begins rows bytes
begins_by rows bytes at _ (named m row in_table w) e = absurd (cc)
begins_by rows bytes at _ (begun m row in_table b) e = record { n = m; row = row; in_table = in_table; parts = b.parts; next = b.next; more = b.more; spelled = b.spelled }
begins_by rows bytes at _ (unserved none) e = absurd (cc)

begun_from : (rows : List Row) (bytes : List ℕ) → (h : Begins rows bytes) → Begun h.row bytes
begun_from rows bytes h = record { parts = h.parts; next = h.next; more = h.more; spelled = h.spelled }

short_by : (rows : List Row) (bytes : List ℕ) (at : ℕ) (d : Decoded) → Laws rows → Begins rows bytes → Verdict rows bytes at d → d ≡ decodeds.Short
short_by rows bytes at _ l h (named m row in_table w) = absurd (apart rows l m h.n row h.row (parts_of row (front_at row bytes)) _ w.more bytes in_table h.in_table w.spelled (sym w.same) (begun_from rows bytes h))
short_by rows bytes at _ l h (begun m row in_table b) = refl
short_by rows bytes at _ l h (unserved none) = absurd (never _ (serves_front rows h.n h.row h.parts _ bytes [] (h.next ∷ h.more) l h.in_table h.spelled (append-nil _)) (none h.n h.row h.in_table))

pub short_law : (rows : List Row) → Laws rows → ShortExact rows
short_law rows l = record {
  begins = λ bytes at all e. begins_by rows bytes at _ (verdict rows bytes at l all) e;
  short = λ bytes at all h. short_by rows bytes at _ l h (verdict rows bytes at l all);
}

-- ---- Unknown

unknown_by : (rows : List Row) (bytes : List ℕ) (at : ℕ) (d : Decoded) → Laws rows → Verdict rows bytes at d → d ≡ decodeds.Unknown → IsUnknown rows bytes
unknown_by rows bytes at _ l (named m row in_table w) e = absurd (cc)
unknown_by rows bytes at _ l (begun m row in_table b) e = absurd (cc)
unknown_by rows bytes at _ l (unserved none) e = record {
  no_front = λ s more at x same h. never _ (serves_front rows h.n h.row h.by_row.parts s bytes more [] l h.in_table h.by_row.spelled (same ∙ sym (append-nil bytes))) (none h.n h.row h.in_table);
  begins_none = λ h. never _ (serves_front rows h.n h.row h.parts _ bytes [] (h.next ∷ h.more) l h.in_table h.spelled (append-nil _)) (none h.n h.row h.in_table);
}

is_unknown_by : (rows : List Row) (bytes : List ℕ) (at : ℕ) (d : Decoded) → IsUnknown rows bytes → Verdict rows bytes at d → d ≡ decodeds.Unknown
is_unknown_by rows bytes at _ h (named m row in_table w) = absurd (h.no_front _ w.more at _ (sym w.same) (whole_spells rows m row bytes at in_table w))
is_unknown_by rows bytes at _ h (begun m row in_table b) = absurd (h.begins_none (record { n = m; row = row; in_table = in_table; parts = b.parts; next = b.next; more = b.more; spelled = b.spelled }))
is_unknown_by rows bytes at _ h (unserved none) = refl

unknown_law : (rows : List Row) → Laws rows → UnknownExact rows
unknown_law rows l = record {
  unknown = λ bytes at all e. unknown_by rows bytes at _ l (verdict rows bytes at l all) e;
  is_unknown = λ bytes at all h. is_unknown_by rows bytes at _ h (verdict rows bytes at l all);
}

-- ---- only the first 15 bytes count

begins_short : (rows : List Row) (bytes : List ℕ) → Begins rows bytes → length bytes < 15
begins_short rows bytes h = (let n = length-append bytes (h.next ∷ h.more) in let s : length (bytes ++ (h.next ∷ h.more)) ≤ 15 = grind (arith, nat_tests, h.spelled.short) in omega arith)

all_front : (n : ℕ) (bytes : List ℕ) → are_bytes bytes ≡ true → are_bytes (take n bytes) ≡ true
all_front n bytes h = (all_parts (take n bytes) (drop n bytes) (ap are_bytes (take-append-drop n bytes) ∙ h)).0

cut_again : (n k : ℕ) (xs : List ℕ) → take n (take k xs) ++ (drop n (take k xs) ++ drop k xs) ≡ xs
cut_again n k xs = sym (append_assoc (take n (take k xs)) (drop n (take k xs)) (drop k xs)) ∙ (ap (λ y. y ++ drop k xs) (take-append-drop n (take k xs)) ∙ take-append-drop k xs)

front_within : (k : ℕ) (s more : List ℕ) → length s ≤ k → take k (s ++ more) ≡ s ++ take (k - length s) more
front_within k [] more le = ap (λ n. take n more) (minus_zero k)
  where
    minus_zero : (k : ℕ) → k ≡ k - 0
    minus_zero k = omega arith
front_within zero (x ∷ s) more le = absurd (omega arith)
front_within (suc k) (x ∷ s) more le = ap (λ z. x ∷ z) (front_within k s more (omega arith) ∙ ap (λ n. s ++ take n more) (same_minus k (length s)))
  where
    same_minus : (a b : ℕ) → a - b ≡ suc a - suc b
    same_minus a b = omega arith

cut_unknown : (rows : List Row) (bytes : List ℕ) → IsUnknown rows (take 15 bytes) → IsUnknown rows bytes
cut_unknown rows bytes h = record {
  no_front = λ s more at x same g.
      (let short : length s ≤ 15 = grind (arith, nat_tests, g.by_row.spelled.short) in
      h.no_front s (take (15 - length s) more) at x (sym (ap (take 15) (sym same) ∙ front_within 15 s more short)) g);
  begins_none = λ g. h.begins_none (subst (λ k. Begins rows k) (sym (take_all 15 bytes (let s = begins_short rows bytes g in omega arith))) g);
}

pub fifteen_law : (rows : List Row) → Laws rows → FifteenCount rows
fifteen_law rows l bytes at all = go (decoded rows (take 15 bytes) at) refl
  where
    cut_all : are_bytes (take 15 bytes) ≡ true
    cut_all = all_front 15 bytes all

    go : (d : Decoded) → decoded rows (take 15 bytes) at ≡ d → d ≡ decoded rows bytes at
    go (decodeds.Insn x n) e =
        let f = named_law rows l (take 15 bytes) at n x cut_all e in
        let c = cut_again n 15 bytes in
        let d = complete_law rows l (take n (take 15 bytes)) (drop n (take 15 bytes) ++ drop 15 bytes) at x (ap are_bytes c ∙ all) f.spells in
        let w = f.within in
        let len : length (take n (take 15 bytes)) ≡ n = grind (arith, common_steps) in
        sym (ap (λ k. decoded rows k at) (sym c) ∙ (d ∙ ap (decodeds.Insn x) len))
    go decodeds.Short e =
        let b = (short_law rows l).begins (take 15 bytes) at cut_all e in
        let s = begins_short rows (take 15 bytes) b in
        sym e ∙ ap (λ k. decoded rows k at) (take_all 15 bytes (shorter bytes s))
      where
        shorter : (xs : List ℕ) → length (take 15 xs) < 15 → length xs ≤ 15
        shorter xs s = grind (arith, common_steps)
    go decodeds.Unknown e = sym ((unknown_law rows l).is_unknown bytes at all (cut_unknown rows bytes ((unknown_law rows l).unknown (take 15 bytes) at cut_all e)))

-- ---- all of it, of an answer

pub exact_of : (rows : List Row) (bytes : List ℕ) (at : ℕ) (d : Decoded) → Laws rows → are_bytes bytes ≡ true → d ≡ decoded rows bytes at → Exact rows bytes at d
exact_of rows bytes at d l all e = record {
  named = λ n x f. named_law rows l bytes at n x all (sym e ∙ f);
  spelled = λ s more x same h. e ∙ (ap (λ k. decoded rows k at) (sym same) ∙ complete_law rows l s more at x (ap are_bytes same ∙ all) h);
  begins = λ f. (short_law rows l).begins bytes at all (sym e ∙ f);
  short = λ h. e ∙ (short_law rows l).short bytes at all h;
  is_unknown = λ f. (unknown_law rows l).unknown bytes at all (sym e ∙ f);
  unknown = λ h. e ∙ (unknown_law rows l).is_unknown bytes at all h;
}

pub decodes_exactly : (rows : List Row) → Laws rows → DecodesExactly rows
decodes_exactly rows l bytes at all = exact_of rows bytes at (decoded rows bytes at) l all refl
