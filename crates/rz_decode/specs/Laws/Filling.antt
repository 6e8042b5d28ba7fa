use Rattle.std.proofs.Common.{ℕ, ◌≡◌, ◌+◌, ◌-◌, ◌≤◌, ◌==◌, List, [], ◌∷◌, ◌++◌, Option, Some, None, refl, ap, sym, ◌∙◌, subst, arith, length, take, drop, Bool, true, false, ◌&&◌, ◌||◌, ◌%◌, append_assoc, length-append, inl, inr}
use Rattle.std.specs.Prelude.{nat_le, nat_lt, if◌then◌else◌}
use Rattle.std.specs.List.{take_while, list_all}
use Rattle.std.proofs.lemmas.Bool.{cases_Bool}
use Rattle.std.proofs.lemmas.Bool.Decides.{nat_tests}
use Rattle.std.proofs.lemmas.List.{take-append-drop}
use Rattle.std.proofs.lemmas.Grind.{common_steps}
use Rattle.rz_isa.specs.declared.rows.OpMap.{OpMap}
use Rattle.rz_isa.specs.declared.rows.OpMap.TheVariants as maps
use Rattle.rz_isa.specs.declared.rows.Row.{Row}
use Rattle.rz_isa.specs.declared.rows.Size.{Size}
use Rattle.rz_isa.specs.declared.rows.Size.TheVariants as sizes
use Rattle.rz_num.specs.Bytes.{are_bytes}
use Rattle.rz_isa.specs.Spelling.{Parts, bytes_of, Fits, is_prefix, is_rex, rex_fits, rex_bytes, escape, is_met, opcode_fits, prefixes_fit, lock_fits, w_demand, b_demand, bit_w, bit_b}
use Rattle.rz_isa.specs.Reading.{Opcode, skip_while, rex_at, behind_rex}
use Rattle.rz_isa.specs.Regular.{is_regular, is_block}
use Rattle.rz_isa.specs.Table.{same_map}
use Rattle.rz_isa.specs.Decoded.{takes_rm}
use Rattle.rz_isa.specs.Laws.Front.{prefixes_are}
use Rattle.rz_isa.specs.Laws.Inverse.{regular_of}
use Rattle.rz_isa.specs.Laws.Whole.{length_of}
use Rattle.rz_isa.specs.Laws.Tests.{equal_test, and_parts, and_both}
use Rattle.rz_isa.specs.Decoded.{Front, rm_part, imm_part, front_len, suits, front_by, front_at, second_for, opcode_for, last_opcode, least_rex}
use Rattle.rz_decode.specs.Laws.Rejoined.{whole, front_again, same_map_is}
use Rattle.rz_decode.specs.Laws.Filler.{zeros, length_zeros, bytes_zeros, first_rm, filled_fits, filled_lock, first_longer, first_bytes}

-- ---- the front's REX fits, and its bytes are bytes

rex_ok_at : (t : List ℕ) → rex_fits (rex_at t) ≡ true
rex_ok_at [] = refl
rex_ok_at (b ∷ t) = elim (cases_Bool (is_rex b)) [ inl y ↦ grind arith | inr n ↦ grind arith ]

rex_ok_least : (c : Size) → rex_fits (least_rex c) ≡ true
rex_ok_least sizes.WQ = refl
rex_ok_least sizes.B = refl
rex_ok_least sizes.V = refl
rex_ok_least sizes.D = refl
rex_ok_least sizes.Y = refl
rex_ok_least sizes.Q = refl
rex_ok_least sizes.N = refl

rex_ok_by : (row : Row) (ps t : List ℕ) → rex_fits (front_by row ps t).rex ≡ true
rex_ok_by row ps [] = rex_ok_least row.size
rex_ok_by row ps (x ∷ t) = rex_ok_at (x ∷ t)

pub rex_ok : (row : Row) (bytes : List ℕ) → rex_fits (front_at row bytes).rex ≡ true
rex_ok row bytes = rex_ok_by row (take_while is_prefix bytes) (skip_while is_prefix bytes)

pub all_append : (xs ys : List ℕ) → are_bytes xs ≡ true → are_bytes ys ≡ true → are_bytes (xs ++ ys) ≡ true
all_append [] ys hx hy = hy
all_append (x ∷ xs) ys hx hy = (let t = and_parts (nat_lt x 256) (are_bytes xs) hx in and_both _ _ t.0 (all_append xs ys t.1 hy))

pub all_parts : (xs ys : List ℕ) → are_bytes (xs ++ ys) ≡ true → (are_bytes xs ≡ true) × (are_bytes ys ≡ true)
all_parts [] ys h = (refl, h)
all_parts (x ∷ xs) ys h = (let t = and_parts (nat_lt x 256) (are_bytes (xs ++ ys)) h in let r = all_parts xs ys t.1 in (and_both _ _ t.0 r.0, r.1))

all_skipped : (p : ℕ → Bool) (s : List ℕ) → are_bytes s ≡ true → are_bytes (skip_while p s) ≡ true
all_skipped p [] h = refl
all_skipped p (b ∷ s) h = (let t = and_parts (nat_lt b 256) (are_bytes s) h in elim (cases_Bool (p b)) [
  | inl y ↦ subst (λ k. are_bytes (if k then skip_while p s else b ∷ s) ≡ true) (sym y) (all_skipped p s t.1)
  | inr n ↦ subst (λ k. are_bytes (if k then skip_while p s else b ∷ s) ≡ true) (sym n) h
])

all_behind : (s : List ℕ) → are_bytes s ≡ true → are_bytes (behind_rex s) ≡ true
all_behind [] h = refl
all_behind (b ∷ s) h = (let t = and_parts (nat_lt b 256) (are_bytes s) h in elim (cases_Bool (is_rex b)) [
  | inl y ↦ subst (λ k. are_bytes (if k then s else b ∷ s) ≡ true) (sym y) t.1
  | inr n ↦ subst (λ k. are_bytes (if k then s else b ∷ s) ≡ true) (sym n) h
])

pub record OpcodeBytes (o : Opcode) : Type 0 where
  pub byte : nat_lt o.byte 256 ≡ true
  pub rest : are_bytes o.rest ≡ true

pub last_byte : (row : Row) → is_block row ≡ true → nat_lt (last_opcode row) 256 ≡ true
last_byte row h = last row.opcode row.span _ h
  where
    last : (o s : ℕ) (c : Bool) → (nat_lt o 256 && (s == 1 || (s == 16 && o % 16 == 0) || (s == 8 && o % 8 == 0 && c))) ≡ true → nat_lt (o + s - 1) 256 ≡ true
    last o s c h = grind (arith, nat_tests)

second_bytes : (row : Row) (bs : List ℕ) → is_block row ≡ true → are_bytes bs ≡ true → OpcodeBytes (second_for row bs)
second_bytes row [] hb h = record { byte = last_byte row hb; rest = refl }
second_bytes row (b ∷ bs) hb h = (let t = and_parts (nat_lt b 256) (are_bytes bs) h in record { byte = t.0; rest = t.1 })

opcode_bytes : (row : Row) (bs : List ℕ) → is_block row ≡ true → are_bytes bs ≡ true → OpcodeBytes (opcode_for row bs)
opcode_bytes row [] hb h = record { byte = last_byte row hb; rest = refl }
opcode_bytes row (b ∷ bs) hb h = by (b == 0x0f)
  where
    t : (nat_lt b 256 ≡ true) × (are_bytes bs ≡ true)
    t = and_parts (nat_lt b 256) (are_bytes bs) h

    by : (is_escape : Bool) → OpcodeBytes (if is_escape then second_for row bs else record { map = maps.One; byte = b; rest = bs })
    by true = second_bytes row bs hb t.1
    by false = record { byte = t.0; rest = t.1 }

front_bytes_by : (row : Row) (ps t : List ℕ) → is_block row ≡ true → are_bytes t ≡ true → OpcodeBytes (front_by row ps t).opcode
front_bytes_by row ps [] hb h = opcode_bytes row [] hb refl
front_bytes_by row ps (x ∷ t) hb h = opcode_bytes row (behind_rex (x ∷ t)) hb (all_behind (x ∷ t) h)

pub front_bytes : (row : Row) (bytes : List ℕ) → is_block row ≡ true → are_bytes bytes ≡ true → OpcodeBytes (front_at row bytes).opcode
front_bytes row bytes hb h = front_bytes_by row (take_while is_prefix bytes) (skip_while is_prefix bytes) hb (all_skipped is_prefix bytes h)

prefix_byte : (b : ℕ) → is_prefix b ≡ true → nat_lt b 256 ≡ true
prefix_byte b h = grind (arith, nat_tests)

prefix_bytes : (ps : List ℕ) → list_all is_prefix ps ≡ true → are_bytes ps ≡ true
prefix_bytes [] h = refl
prefix_bytes (b ∷ ps) h = (let t = and_parts (is_prefix b) (list_all is_prefix ps) h in and_both _ _ (prefix_byte b t.0) (prefix_bytes ps t.1))

rex_are : (rex : Option ℕ) → rex_fits rex ≡ true → are_bytes (rex_bytes rex) ≡ true
rex_are None h = refl
rex_are (Some b) h = (let l : nat_lt b 256 ≡ true = grind (arith, nat_tests) in and_both _ _ l refl)

escape_are : (m : OpMap) → are_bytes (escape m) ≡ true
escape_are maps.One = refl
escape_are maps.Two = refl

-- ---- the tests of a front

pub record Suits (row : Row) (f : Front) : Type 0 where
  pub map : f.opcode.map ≡ row.map
  pub opcode : opcode_fits row f.opcode.byte ≡ true
  pub prefixes : prefixes_fit row f.prefixes ≡ true
  pub w : is_met (w_demand row.size) (bit_w f.rex) ≡ true
  pub b : is_met (b_demand row.op row.map f.opcode.byte) (bit_b f.rex) ≡ true
  pub rm : takes_rm row.rm row.digit f.opcode.rest ≡ true
  pub lock : lock_fits f.prefixes f.opcode.rest ≡ true
  pub room : front_len row f ≤ 15

ands8 : (a b c d e f g h : Bool) → (a && b && c && d && e && f && g && h) ≡ true → (a ≡ true) × (b ≡ true) × (c ≡ true) × (d ≡ true) × (e ≡ true) × (f ≡ true) × (g ≡ true) × (h ≡ true)
ands8 a b c d e f g h x = (grind arith, grind arith, grind arith, grind arith, grind arith, grind arith, grind arith, grind arith)

pub suits_of : (row : Row) (f : Front) → suits row f ≡ true → Suits row f
suits_of row f h =
    let t = ands8 (same_map row.map f.opcode.map) (opcode_fits row f.opcode.byte) (prefixes_fit row f.prefixes) (is_met (w_demand row.size) (bit_w f.rex)) (is_met (b_demand row.op row.map f.opcode.byte) (bit_b f.rex))
    (takes_rm row.rm row.digit f.opcode.rest) (lock_fits f.prefixes f.opcode.rest) (nat_le (front_len row f) 15) h in
    record { map = same_map_is row.map f.opcode.map t.0; opcode = t.1; prefixes = t.2; w = t.3; b = t.4; rm = t.5; lock = t.6; room = le _ _ t.7 }
  where
    le : (n k : ℕ) → nat_le n k ≡ true → n ≤ k
    le n k h = grind (arith, nat_tests)

-- ---- the parts of a filled front

abbrev pub filled_rest : Row → Front → List ℕ
filled_rest row f = first_rm row.rm row.digit f.opcode.rest ++ zeros (rm_part row.rm f.opcode.rest + imm_part row f)

abbrev pub filled_parts : Row → Front → Parts
filled_parts row f = let n = rm_part row.rm f.opcode.rest in record {
  prefixes = f.prefixes;
  rex = f.rex;
  opcode = f.opcode.byte;
  rm = take n (filled_rest row f);
  imm = take (imm_part row f) (drop n (filled_rest row f));
}

cut_len : (n k : ℕ) (t : List ℕ) → n + k ≤ length t → (length (take n t) ≡ n) × (length (take k (drop n t)) ≡ k)
cut_len n k t le = (grind (arith, common_steps), grind (arith, common_steps))

cut_again : (n k : ℕ) (t : List ℕ) → take n t ++ (take k (drop n t) ++ drop k (drop n t)) ≡ t
cut_again n k t = ap (λ x. take n t ++ x) (take-append-drop k (drop n t)) ∙ take-append-drop n t

all_cut : (n k : ℕ) (t : List ℕ) → are_bytes t ≡ true → (are_bytes (take n t) ≡ true) × (are_bytes (take k (drop n t)) ≡ true)
all_cut n k t h =
    let a = all_parts (take n t) (drop n t) (ap are_bytes (take-append-drop n t) ∙ h) in
    (a.0, (all_parts (take k (drop n t)) (drop k (drop n t)) (ap are_bytes (take-append-drop k (drop n t)) ∙ a.1)).0)

assoc5 : (a b c : List ℕ) (o : ℕ) (d e more : List ℕ) → (a ++ (b ++ (c ++ (o ∷ (d ++ e))))) ++ more ≡ a ++ (b ++ (c ++ (o ∷ (d ++ (e ++ more)))))
assoc5 a b c o d e more = grind (arith, append_assoc {A = ℕ})

-- a spelling by the row that agrees with the bytes as far as both go
pub record Filled (row : Row) (bytes : List ℕ) : Type 0 where
  pub fits : Fits row (filled_parts row (front_at row bytes))
  pub all : are_bytes (bytes_of row (filled_parts row (front_at row bytes))) ≡ true
  pub len : length (bytes_of row (filled_parts row (front_at row bytes))) ≡ front_len row (front_at row bytes)
  pub behind : List ℕ
  pub more : List ℕ
  pub same : bytes_of row (filled_parts row (front_at row bytes)) ++ behind ≡ bytes ++ more

pub fill : (row : Row) (bytes : List ℕ) → is_regular row ≡ true → are_bytes bytes ≡ true → suits row (front_at row bytes) ≡ true → Filled row bytes
fill row bytes regular h suit =
    let f : Front = front_at row bytes in
    let reg = regular_of row regular in
    let s = suits_of row f suit in
    let n : ℕ = rm_part row.rm f.opcode.rest in
    let k : ℕ = imm_part row f in
    let p : Parts = filled_parts row f in
    let t : List ℕ = filled_rest row f in
    let ob = front_bytes row bytes reg.block h in
    let fits_rm = filled_fits row.rm row.digit f.opcode.rest (n + k) reg.digit reg.rule s.rm (omega arith) in
    let lt : n + k ≤ length t = (let a = length-append (first_rm row.rm row.digit f.opcode.rest) (zeros (n + k)) in let z = length_zeros (n + k) in omega arith) in
    let lens = cut_len n k t lt in
    let all_t = all_append (first_rm row.rm row.digit f.opcode.rest) (zeros (n + k)) (first_bytes row.rm row.digit f.opcode.rest reg.digit reg.rule ob.rest) (bytes_zeros (n + k)) in
    let cuts = all_cut n k t all_t in
    let first = first_longer row.rm row.digit f.opcode.rest in
    let g = front_again row bytes (first.more ++ zeros (n + k)) in
    let tail : t ≡ f.opcode.rest ++ (first.more ++ zeros (n + k)) = ap (λ x. x ++ zeros (n + k)) first.same ∙ append_assoc f.opcode.rest first.more (zeros (n + k)) in
    record {
      fits = record { prefixes = s.prefixes; lock = filled_lock row f.prefixes f.opcode.rest (zeros (n + k)) n reg.digit s.prefixes s.lock; rex = rex_ok row bytes; w = s.w; opcode = s.opcode; b = s.b; rm = fits_rm; imm = equal_test _ _ lens.1 };
      all = all_append f.prefixes _ (prefix_bytes f.prefixes (prefixes_are row f.prefixes s.prefixes))
          (all_append (rex_bytes f.rex) _ (rex_are f.rex (rex_ok row bytes))
          (all_append (escape row.map) _ (escape_are row.map)
          (and_both _ _ ob.byte (all_append p.rm p.imm cuts.0 cuts.1))));
      len = length_of row p ∙ (ap (λ x. length f.prefixes + (length (rex_bytes f.rex) + (length (escape row.map) + (1 + (x + length p.imm))))) lens.0 ∙ ap (λ x. length f.prefixes + (length (rex_bytes f.rex) + (length (escape row.map) + (1 + (n + x))))) lens.1);
      behind = drop k (drop n t);
      more = g.more;
      same = assoc5 f.prefixes (rex_bytes f.rex) (escape row.map) f.opcode.byte p.rm p.imm (drop k (drop n t))
          ∙ (ap (λ x. f.prefixes ++ (rex_bytes f.rex ++ (escape row.map ++ (f.opcode.byte ∷ x)))) (cut_again n k t)
          ∙ (ap (λ m. f.prefixes ++ (rex_bytes f.rex ++ (escape m ++ (f.opcode.byte ∷ t)))) (sym s.map)
          ∙ (ap (whole f) tail ∙ g.same)));
    }
