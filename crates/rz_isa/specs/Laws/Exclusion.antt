use Rattle.std.proofs.Common.{ℕ, ◌≡◌, ◌≢◌, ◌+◌, ◌/◌, ◌%◌, ◌≤◌, ◌<◌, List, [], ◌∷◌, ◌++◌, Option, Some, None, refl, ap, sym, ◌∙◌, subst, arith, length, take, drop, Bool, true, false, not, ◌||◌, ◌==◌, ◌⊎◌, inl, inr, zero, suc}
use Rattle.std.specs.Prelude.{slice_get}
use Rattle.std.specs.List.{list_all}
use Rattle.std.proofs.Math.Seq.{take-append_seam, drop-append_seam}
use Rattle.std.proofs.lemmas.Bool.{cases_Bool}
use Rattle.std.proofs.lemmas.Bool.Decides.{nat_tests}
use Rattle.rz_isa.specs.Laws.Types.{OpMap, RmRule, Row}
use Rattle.rz_isa.specs.Spelling.{Parts, bytes_of, Fits, times, prefixes_fit, is_met, clash, f3_demand, w_demand, b_demand, opcode_fits, rm_fits, rm_len, second, imm_len, width_of, bit_w, bit_b}
use Rattle.rz_isa.specs.Reading.{Head, Opcode, head_at}
use Rattle.rz_isa.specs.Table.{opcode_plain, digit_ruled, each_from, is_plain, same_map, clash_at, shared_clash, excludes, all_exclude}
use Rattle.rz_isa.specs.Laws.Front.{head_of_spelling}
use Rattle.rz_isa.specs.Laws.Tests.{some_same}

-- ---- fronts of equal length

pub fronts : {X : Type 0} (a b x y : List X) → length a ≡ length b → a ++ x ≡ b ++ y → (a ≡ b) × (x ≡ y)
fronts a b x y len same = (
  sym (take-append_seam a x) ∙ (ap (λ n. take n (a ++ x)) len ∙ (ap (take (length b)) same ∙ take-append_seam b y)),
  sym (drop-append_seam a x) ∙ (ap (λ n. drop n (a ++ x)) len ∙ (ap (drop (length b)) same ∙ drop-append_seam b y)),
)

-- ---- ModRM, SIB and displacement end where they end, whatever follows

-- only where there is a SIB does the length depend on the second byte
pub rm_len_cases : (m s t : ℕ) → (rm_len m s ≡ rm_len m t) ⊎ ((2 ≤ rm_len m s) × (2 ≤ rm_len m t))
rm_len_cases m s t = grind (arith, nat_tests)

pub rm_fits_len : (rule : RmRule) (digit : Option ℕ) (m : ℕ) (a : List ℕ) → rm_fits (Some rule) digit (m ∷ a) ≡ true → 1 + length a ≡ rm_len m (second (m ∷ a))
rm_fits_len rule digit m a fit = grind (arith, nat_tests)

pub rm_tail_len : (m : ℕ) (a b x y : List ℕ) → 1 + length a ≡ rm_len m (second (m ∷ a)) → 1 + length b ≡ rm_len m (second (m ∷ b)) → a ++ x ≡ b ++ y → length a ≡ length b
rm_tail_len m a b x y h1 h2 h3 = grind (arith, nat_tests)

pub head_same : (m n : ℕ) (a b x y : List ℕ) → (m ∷ a) ++ x ≡ (n ∷ b) ++ y → (m ≡ n) × (a ++ x ≡ b ++ y)
head_same m n a b x y same = (cc, cc)

pub rm_same : (rule : Option RmRule) (digit : Option ℕ) (a b x y : List ℕ) → rm_fits rule digit a ≡ true → rm_fits rule digit b ≡ true → a ++ x ≡ b ++ y → (a ≡ b) × (x ≡ y)
rm_same None digit [] [] x y fa fb same = (refl, same)
rm_same None digit [] (m ∷ b) x y fa fb same = absurd (cc)
rm_same None digit (m ∷ a) b x y fa fb same = absurd (cc)
rm_same (Some rule) digit [] b x y fa fb same = absurd (cc)
rm_same (Some rule) digit (m ∷ a) [] x y fa fb same = absurd (cc)
rm_same (Some rule) digit (m ∷ a) (n ∷ b) x y fa fb same =
    let h = head_same m n a b x y same in
    let la = rm_fits_len rule digit m a fa in
    let lb = subst (λ k. 1 + length b ≡ rm_len k (second (k ∷ b))) (sym h.0) (rm_fits_len rule digit n b fb) in
    let len = rm_tail_len m a b x y la lb h.1 in
    fronts (m ∷ a) (n ∷ b) x y (omega arith) same

-- ---- two rows that spell the front of one list have one head

pub record SameHead (r s : Row) (p q : Parts) (m n : List ℕ) : Type 0 where
  pub prefixes : p.prefixes ≡ q.prefixes
  pub rex : p.rex ≡ q.rex
  pub map : r.map ≡ s.map
  pub opcode : p.opcode ≡ q.opcode
  pub rest : p.rm ++ (p.imm ++ m) ≡ q.rm ++ (q.imm ++ n)

pub same_head : (r s : Row) (p q : Parts) (m n : List ℕ) → Fits r p → Fits s q → opcode_plain r.map p.opcode ≡ true → opcode_plain s.map q.opcode ≡ true →
    bytes_of r p ++ m ≡ bytes_of s q ++ n → SameHead r s p q m n
same_head r s p q m n fp fq pp pq same =
    let h = head_of_spelling r p m fp pp in
    let k = head_of_spelling s q n fq pq in
    let e = sym h ∙ (ap head_at same ∙ k) in
    let o = some_same _ _ (ap (λ (a : Head). a.opcode) e) in
    record {
      prefixes = ap (λ (a : Head). a.prefixes) e;
      rex = ap (λ (a : Head). a.rex) e;
      map = ap (λ (a : Opcode). a.map) o;
      opcode = ap (λ (a : Opcode). a.byte) o;
      rest = ap (λ (a : Opcode). a.rest) o;
    }

-- ---- heads that exclude each other

pub clash_not : (d e : Option ℕ) (n : ℕ) → is_met d n ≡ true → is_met e n ≡ true → clash d e ≡ false
clash_not d e n h1 h2 = grind (arith, nat_tests)

pub f3_met : (row : Row) (ps : List ℕ) → prefixes_fit row ps ≡ true → is_met (f3_demand row.f3) (times 0xf3 ps) ≡ true
f3_met row ps fit = grind arith

pub digits_apart : (d e : Option ℕ) (q r : Option RmRule) (a b x y : List ℕ) → digit_ruled d q ≡ true → digit_ruled e r ≡ true →
    rm_fits q d a ≡ true → rm_fits r e b ≡ true → a ++ x ≡ b ++ y → clash d e ≡ false
digits_apart None e q r a b x y rd re fa fb same = refl
digits_apart (Some d) None q r a b x y rd re fa fb same = refl
digits_apart (Some d) (Some e) None r a b x y rd re fa fb same = absurd (cc)
digits_apart (Some d) (Some e) (Some q) None a b x y rd re fa fb same = absurd (cc)
digits_apart (Some d) (Some e) (Some q) (Some r) [] b x y rd re fa fb same = absurd (cc)
digits_apart (Some d) (Some e) (Some q) (Some r) (m ∷ a) [] x y rd re fa fb same = absurd (cc)
digits_apart (Some d) (Some e) (Some q) (Some r) (m ∷ a) (n ∷ b) x y rd re fa fb same =
    let h : m ≡ n = cc in
    let p : m / 8 % 8 ≡ d = grind (arith, nat_tests) in
    let u : n / 8 % 8 ≡ e = grind (arith, nat_tests) in
    let v : d ≡ e = sym p ∙ (ap (λ k. k / 8 % 8) h ∙ u) in
    grind (arith, nat_tests)

pub each_from_at : (p : ℕ → Bool) (a n o : ℕ) → each_from p a n ≡ true → a ≤ o → o < a + n → p o ≡ true
each_from_at p a zero o all le lt = absurd (omega arith)
each_from_at p a (suc n) o all le lt = elim (cases_Bool (o == a + n)) [
  | inl y ↦ (let at : a + n ≡ o = grind (arith, nat_tests) in subst (λ k. p k ≡ true) at (grind arith))
  | inr k ↦ (let ne : o ≢ a + n = grind (arith, nat_tests) in each_from_at p a n o (grind arith) le (omega arith))
]

pub shared_clash_at : (r s : Row) (o : ℕ) → shared_clash r s ≡ true → opcode_fits r o ≡ true → opcode_fits s o ≡ true → clash_at r s o ≡ true
shared_clash_at r s o all fr fs =
    let a : r.opcode ≤ o = grind (arith, nat_tests) in
    let b : o < r.opcode + r.span = grind (arith, nat_tests) in
    let c : s.opcode ≤ o = grind (arith, nat_tests) in
    let d : o < s.opcode + s.span = grind (arith, nat_tests) in
    each_from_at (clash_at r s) _ _ o all (omega arith) (omega arith)

pub ors : (a b c : Bool) → a ≡ false → b ≡ false → c ≡ false → (a || b || c) ≡ false
ors a b c ha hb hc = grind arith

pub shared_apart : (r s : Row) (o : ℕ) → opcode_fits r o ≡ true → opcode_fits s o ≡ true → clash_at r s o ≡ false → shared_clash r s ≡ false
shared_apart r s o fr fs none = elim (cases_Bool (shared_clash r s)) [
  | inr n ↦ n
  | inl y ↦ (let c = shared_clash_at r s o y fr fs in absurd (cc))
]

pub same_maps : (a b : OpMap) → a ≡ b → same_map a b ≡ true
same_maps a b h1 = grind (arith, nat_tests)

pub record IsPlain (r : Row) : Type 0 where
  pub opcodes : (o : ℕ) → opcode_fits r o ≡ true → opcode_plain r.map o ≡ true
  pub ruled : digit_ruled r.digit r.rm ≡ true

-- two rows that spell the front of one list don't exclude each other
pub no_common : (r s : Row) (p q : Parts) (m n : List ℕ) → IsPlain r → IsPlain s → Fits r p → Fits s q → bytes_of r p ++ m ≡ bytes_of s q ++ n → excludes r s ≡ false
no_common r s p q m n ir is fp fq same =
    let h = same_head r s p q m n fp fq (ir.opcodes p.opcode fp.opcode) (is.opcodes q.opcode fq.opcode) same in
    let fs = subst (λ x. is_met (f3_demand s.f3) (times 0xf3 x) ≡ true) (sym h.prefixes) (f3_met s q.prefixes fq.prefixes) in
    let ws = subst (λ x. is_met (w_demand s.size) (bit_w x) ≡ true) (sym h.rex) fq.w in
    let os = subst (λ o. opcode_fits s o ≡ true) (sym h.opcode) fq.opcode in
    let bo = subst (λ o. is_met (b_demand s.op s.map o) (bit_b q.rex) ≡ true) (sym h.opcode) fq.b in
    let bs = subst (λ x. is_met (b_demand s.op s.map p.opcode) (bit_b x) ≡ true) (sym h.rex) bo in
    ors _ _ _
    (ap not (same_maps r.map s.map h.map))
    (digits_apart r.digit s.digit r.rm s.rm p.rm q.rm _ _ ir.ruled is.ruled fp.rm fq.rm h.rest)
    (shared_apart r s p.opcode fp.opcode os (ors _ _ _
    (clash_not (f3_demand r.f3) (f3_demand s.f3) (times 0xf3 p.prefixes) (f3_met r p.prefixes fp.prefixes) fs)
    (clash_not (w_demand r.size) (w_demand s.size) (bit_w p.rex) fp.w ws)
    (clash_not (b_demand r.op r.map p.opcode) (b_demand s.op s.map p.opcode) (bit_b p.rex) fp.b bs)))

parts_same : (p q : Parts) → p.prefixes ≡ q.prefixes → p.rex ≡ q.rex → p.opcode ≡ q.opcode → p.rm ≡ q.rm → p.imm ≡ q.imm → p ≡ q
parts_same p q a b c d e = λ i. record { prefixes = a i; rex = b i; opcode = c i; rm = d i; imm = e i }

-- no spelling of a row is a proper front of another, and its bytes fix its parts
pub one_reading : (r : Row) (p q : Parts) (m n : List ℕ) → IsPlain r → Fits r p → Fits r q → bytes_of r p ++ m ≡ bytes_of r q ++ n → (p ≡ q) × (m ≡ n)
one_reading r p q m n ir fp fq same =
    let h = same_head r r p q m n fp fq (ir.opcodes p.opcode fp.opcode) (ir.opcodes q.opcode fq.opcode) same in
    let rm = rm_same r.rm r.digit p.rm q.rm _ _ fp.rm fq.rm h.rest in
    let lp : length p.imm ≡ imm_len r.imm (width_of r.size (bit_w p.rex) (times 0x66 p.prefixes)) = grind (arith, nat_tests) in
    let lq : length q.imm ≡ imm_len r.imm (width_of r.size (bit_w q.rex) (times 0x66 q.prefixes)) = grind (arith, nat_tests) in
    let lpq : imm_len r.imm (width_of r.size (bit_w p.rex) (times 0x66 p.prefixes)) ≡ imm_len r.imm (width_of r.size (bit_w q.rex) (times 0x66 q.prefixes)) = ap (λ k. imm_len r.imm (width_of r.size (bit_w k) (times 0x66 p.prefixes))) h.rex ∙ ap (λ k. imm_len r.imm (width_of r.size (bit_w q.rex) (times 0x66 k))) h.prefixes in
    let i = fronts p.imm q.imm m n (lp ∙ (lpq ∙ sym lq)) rm.1 in
    (parts_same p q h.prefixes h.rex h.opcode rm.0 i.0, i.1)

-- ---- the finite part, as the general part takes it

pub plain_row : (r : Row) → is_plain r ≡ true → IsPlain r
plain_row r h = record {
  opcodes = λ o within. each_from_at (opcode_plain r.map) r.opcode r.span o (grind arith) (grind (arith, nat_tests)) (grind (arith, nat_tests));
  ruled = grind arith;
}

pub list_all_get : (p : Row → Bool) (rows : List Row) (n : ℕ) (r : Row) → list_all p rows ≡ true → slice_get rows n ≡ Some r → p r ≡ true
list_all_get p [] n r all at = absurd (grind arith)
list_all_get p (x ∷ rows) zero r all at = (let e : x ≡ r = grind arith in subst (λ k. p k ≡ true) e (grind arith))
list_all_get p (x ∷ rows) (suc n) r all at = list_all_get p rows n r (grind arith) (grind arith)

pub exclude_get : (rows : List Row) (i j : ℕ) (r s : Row) → all_exclude rows ≡ true → i < j → slice_get rows i ≡ Some r → slice_get rows j ≡ Some s → excludes r s ≡ true
exclude_get [] i j r s all lt ri sj = absurd (grind arith)
exclude_get (x ∷ rows) i zero r s all lt ri sj = absurd (omega arith)
exclude_get (x ∷ rows) zero (suc j) r s all lt ri sj = (let e : x ≡ r = grind arith in subst (λ k. excludes k s ≡ true) e (list_all_get (excludes x) rows j s (grind arith) (grind arith)))
exclude_get (x ∷ rows) (suc i) (suc j) r s all lt ri sj = exclude_get rows i j r s (grind arith) (omega arith) (grind arith) (grind arith)
