use Rattle.std.proofs.Common.{ℕ, ◌≡◌, ◌+◌, ◌%◌, ◌^◌, ◌<◌, ◌≤◌, ◌==◌, refl, ap, sym, ◌∙◌, subst, arith, List, [], ◌∷◌, ◌++◌, length, Bool, true, false, not, ◌&&◌, Option, Some, None, length-append}
use Rattle.std.specs.Prelude.{nat_lt, is_some, if◌then◌else◌}
use Rattle.std.proofs.lemmas.Bool.Decides.{nat_tests}
use Rattle.std.proofs.lemmas.Grind.{common_steps}
use Rattle.rz_isa.specs.Laws.Types.{Width, OpMap, RmRule, ImmKind, Row, Place, Fields}
use Rattle.rz_isa.specs.declared.rows.RmRule.TheVariants as rules
use Rattle.rz_isa.specs.declared.rows.ImmKind.TheVariants as imms
use Rattle.rz_isa.specs.declared.instruction.Place.TheVariants as places
use Rattle.rz_num.specs.Bytes.{are_bytes}
use Rattle.rz_isa.specs.Spelling.{Parts, bytes_of, rex_bytes, escape, is_met, b_demand, w_demand, opcode_fits, rm_fits, width_at, imm_len, rex_fits, Fits, SpelledBy}
use Rattle.rz_isa.specs.Fields.{reg_of, rm_place, rm_width, reg_number, imm_of, rep_of, fields}
use Rattle.rz_isa.specs.Having.{code_of, has_imm, has_place, is_half, is_repeat, opcode_of, is_extended, can_have}
use Rattle.rz_isa.specs.Canonical.{offset, repeat_prefix, prefixes_for, rex_for, rm_bytes, imm_value, parts_for, place_reaches, imm_reaches, reaches}
use Rattle.rz_isa.specs.Regular.{stands_alone, is_regular}
use Rattle.rz_isa.specs.Spells.{CanHave}
use Rattle.rz_isa.specs.Laws.Again.{Had, had_of}
use Rattle.rz_isa.specs.Laws.Inverse.{IsRegular, regular_of}
use Rattle.rz_isa.specs.Laws.Complete.{eight_aligned, fields_had}
use Rattle.rz_isa.specs.Laws.Read.{little_bytes, little_length}
use Rattle.rz_isa.specs.Laws.Sound.{imm_again}
use Rattle.rz_isa.specs.Laws.Parts.{repeat_prefix-is, prefixes_ok, lock_ok, repeat_again, rep_again, w_is, width_read, bits, reg_field_suits, place_suits, RmGiven, rm_read}
use Rattle.rz_isa.specs.Laws.Tests.{and_parts, and_both, below_test, within_test, equal_test}

-- The canonical parts of fields are spelled by their row and read as the fields.

-- ---- the opcode

pub record OpcodeRead (row : Row) (f : Fields) : Type 0 where
  pub fits : opcode_fits row (opcode_of row f) ≡ true
  pub cond : (if row.span == 16 then opcode_of row f % 16 else 0) ≡ f.cond
  pub byte : opcode_of row f < 256

pub opcode_read : (row : Row) (f : Fields) → IsRegular row → Had row f → OpcodeRead row f
opcode_read row f h1 h2 = grind (arith, nat_tests)

-- ---- all parts

pub record PartsRead (row : Row) (f : Fields) (next : ℕ) : Type 0 where
  pub fits : Fits row (parts_for row f next)
  pub same : fields row (parts_for row f next) next ≡ f
  pub rm : are_bytes (rm_bytes row.rm row.digit (code_of f.reg) next f.rm) ≡ true

pub rm_given : (row : Row) (f : Fields) (next : ℕ) → IsRegular row → Had row f → next < 2 ^ 64 → place_reaches next f.rm ≡ true
    → RmGiven row.rm row.digit row.span row.opcode (rm_width row.op f.w) f.w (rex_for row f) next f.rm f.reg (opcode_of row f) f.cond
rm_given row f next reg h ln near =
    let b = bits row f h in
    record {
      next_low = ln;
      digit_low = reg.digit;
      rule_low = reg.rule;
      aligned = λ y. eight_aligned row reg.block y;
      place = h.rm;
      reg = h.reg;
      b = b.b;
      x = b.x;
      r_bit = b.r;
      reg_suits = reg_field_suits row f h;
      place_suits = λ q e. place_suits row f q h e;
      near = near;
      opcode = refl;
    }

pub parts_read : (row : Row) (f : Fields) (next : ℕ) → is_regular row ≡ true → can_have row f ≡ true → next < 2 ^ 64 → reaches row f next ≡ true → PartsRead row f next
parts_read row f next regular can ln near =
    let reg = regular_of row regular in
    let h = had_of row f can in
    let r = and_parts (place_reaches next f.rm) (imm_reaches row.imm next f.imm) near in
    let b = bits row f h in
    let m = rm_read row.rm row.digit row.span row.opcode (rm_width row.op f.w) f.w (rex_for row f) next f.rm f.reg (opcode_of row f) f.cond (rm_given row f next reg h ln r.0) in
    let o = opcode_read row f reg h in
    let p = parts_for row f next in
    let ew : width_at row p ≡ f.w = width_read row f h in
    let ereg = ap (λ k. reg_of k p.rex (reg_number row.rm row.digit row.span p)) ew ∙ m.reg p.prefixes p.imm in
    let erm = ap (λ k. rm_place row.rm (rm_width row.op k) p.rex next p.rm) ew ∙ m.place in
    let eimm = ap (λ k. imm_of row.imm k next p.imm) ew ∙ imm_again row.imm f.w next f.imm ln h.imm r.1 in
    let erep = ap (rep_of row.f3) (repeat_again (is_half f.w) (repeat_prefix row.f3 f.rep) (repeat_prefix-is row.f3 f.rep h.rep)) ∙ rep_again row.f3 f.rep h.rep in
    record {
      fits = record {
        prefixes = prefixes_ok row f h;
        lock = lock_ok (is_half f.w) (repeat_prefix row.f3 f.rep) p.rm (repeat_prefix-is row.f3 f.rep h.rep);
        rex = b.fits;
        w = subst (λ k. is_met (w_demand row.size) k ≡ true) (sym b.w) (w_is row.size f.w h.w);
        opcode = o.fits;
        b = subst (λ k. is_met (b_demand row.op row.map (opcode_of row f)) k ≡ true) (sym b.b) h.b;
        rm = m.fits;
        imm = equal_test (length p.imm) (imm_len row.imm (width_at row p)) (little_length (imm_len row.imm f.w) (imm_value row.imm next f.imm) ∙ ap (imm_len row.imm) (sym ew));
      };
      same = λ i. record { w = ew i; reg = ereg i; rm = erm i; cond = o.cond i; imm = eimm i; rep = erep i };
      rm = m.bytes;
    }

-- ---- the bytes

bytes_append : (xs ys : List ℕ) → are_bytes xs ≡ true → are_bytes ys ≡ true → are_bytes (xs ++ ys) ≡ true
bytes_append [] ys hx hy = hy
bytes_append (x ∷ xs) ys hx hy = (let t = and_parts (nat_lt x 256) (are_bytes xs) hx in and_both _ _ t.0 (bytes_append xs ys t.1 hy))

prefix_bytes : (a : Bool) (b : ℕ) → is_repeat b ≡ true → are_bytes (prefixes_for a b) ≡ true
prefix_bytes a b h1 = grind (arith, nat_tests)

prefix_short : (a : Bool) (b : ℕ) → is_repeat b ≡ true → length (prefixes_for a b) ≤ 2
prefix_short a b h1 = grind (arith, nat_tests)

rex_are : (rex : Option ℕ) → rex_fits rex ≡ true → are_bytes (rex_bytes rex) ≡ true
rex_are rex h1 = grind (arith, nat_tests)

rex_short : (rex : Option ℕ) → length (rex_bytes rex) ≤ 1
rex_short rex = grind (arith, nat_tests)

escape_are : (m : OpMap) → are_bytes (escape m) ≡ true
escape_are m = grind (arith, nat_tests)

escape_short : (m : OpMap) → length (escape m) ≤ 1
escape_short m = grind (arith, nat_tests)

rm_short : (rule : RmRule) (digit : Option ℕ) (bs : List ℕ) → rm_fits (Some rule) digit bs ≡ true → length bs ≤ 6
rm_short rule digit bs h1 = grind (arith, nat_tests)

imm_full : (k : Option ImmKind) (w : Width) → imm_len k w ≤ 8
imm_full k w = grind (arith, nat_tests)

pub imm_beside : (k : Option ImmKind) (w : Width) → stands_alone k ≡ false → imm_len k w ≤ 4
imm_beside k w h1 = grind (arith, nat_tests)

beside : (a : Bool) → not (a && true) ≡ true → a ≡ false
beside a h = grind arith

tail_short : (rm : Option RmRule) (digit : Option ℕ) (k : Option ImmKind) (w : Width) (bs : List ℕ) → not (stands_alone k && is_some rm) ≡ true → rm_fits rm digit bs ≡ true → length bs + imm_len k w ≤ 10
tail_short None digit k w [] alone fit = omega (arith, imm_full k w)
tail_short None digit k w (m ∷ rest) alone fit = absurd (cc)
tail_short (Some rule) digit k w bs alone fit = omega (arith, rm_short rule digit bs fit, imm_beside k w (beside (stands_alone k) alone))

pub length_of : (row : Row) (p : Parts) → length (bytes_of row p) ≡ length p.prefixes + (length (rex_bytes p.rex) + (length (escape row.map) + (1 + (length p.rm + length p.imm))))
length_of row p = grind (arith, length-append, common_steps)

pub spelled_for : (row : Row) (f : Fields) (next : ℕ) → is_regular row ≡ true → can_have row f ≡ true → next < 2 ^ 64 → reaches row f next ≡ true
    → SpelledBy row (parts_for row f next) (bytes_of row (parts_for row f next))
spelled_for row f next regular can ln near =
    let reg = regular_of row regular in
    let h = had_of row f can in
    let r = parts_read row f next regular can ln near in
    let b = bits row f h in
    let o = opcode_read row f reg h in
    let p = parts_for row f next in
    let li = little_length (imm_len row.imm f.w) (imm_value row.imm next f.imm) in
    let tail = tail_short row.rm row.digit row.imm f.w p.rm reg.alone r.fits.rm in
    let rep = repeat_prefix-is row.f3 f.rep h.rep in
    let a = prefix_short (is_half f.w) (repeat_prefix row.f3 f.rep) rep in
    let c = rex_short p.rex in
    let d = escape_short row.map in
    let l = length_of row p in
    let short : length (bytes_of row p) ≤ 15 = sums (length p.prefixes) (length (rex_bytes p.rex)) (length (escape row.map)) (length p.rm) (length p.imm) (imm_len row.imm f.w) (length (bytes_of row p)) l a c d li tail in
    record {
      bytes = refl;
      fits = r.fits;
      all = bytes_append p.prefixes _ (prefix_bytes (is_half f.w) (repeat_prefix row.f3 f.rep) rep)
          (bytes_append (rex_bytes p.rex) _ (rex_are p.rex b.fits)
          (bytes_append (escape row.map) _ (escape_are row.map)
          (and_both _ _ (below_test p.opcode 256 o.byte) (bytes_append p.rm p.imm r.rm (little_bytes (imm_len row.imm f.w) (imm_value row.imm next f.imm))))));
      short = within_test (length (bytes_of row p)) 15 short;
    }
  where
    sums : (a b c d e k n : ℕ) → n ≡ a + (b + (c + (1 + (d + e)))) → a ≤ 2 → b ≤ 1 → c ≤ 1 → e ≡ k → d + k ≤ 10 → n ≤ 15
    sums a b c d e k n en ha hb hc he ht = omega arith

-- ---- an address from which everything is in reach

pub record Home (p : Place) (k : Option ImmKind) (n : ℕ) : Type 0 where
  pub next : ℕ
  pub low : next < 2 ^ 64
  pub near : (place_reaches next p && imm_reaches k next n) ≡ true

offset_self : (a : ℕ) → a < 2 ^ 64 → offset a a ≡ 0
offset_self a lt = omega arith

self_4 : (a : ℕ) → a < 2 ^ 64 → is_extended (2 ^ 31) (2 ^ 64) (offset a a) ≡ true
self_4 a lt = ap (is_extended (2 ^ 31) (2 ^ 64)) (offset_self a lt)

self_1 : (a : ℕ) → a < 2 ^ 64 → is_extended (2 ^ 7) (2 ^ 64) (offset a a) ≡ true
self_1 a lt = ap (is_extended (2 ^ 7) (2 ^ 64)) (offset_self a lt)

at_home : (k : Option ImmKind) (a n : ℕ) → a < 2 ^ 64 → stands_alone k ≡ false → Home (places.At a) k n
at_home (Some imms.Iv) a n lt h = absurd (cc)
at_home (Some imms.J8) a n lt h = absurd (cc)
at_home (Some imms.J32) a n lt h = absurd (cc)
at_home _ a n lt h = record { next = a; low = lt; near = and_both _ _ (self_4 a lt) refl }

-- a place that isn't named by its address is in reach from everywhere
free_home : (p : Place) (k : Option ImmKind) (w : Width) (n : ℕ) → ((next : ℕ) → place_reaches next p ≡ true) → has_imm k w n ≡ true → Home p k n
free_home p (Some imms.J8) w n free h = (let lt : n < 2 ^ 64 = grind (arith, nat_tests) in record { next = n; low = lt; near = and_both _ _ (free n) (self_1 n lt) })
free_home p (Some imms.J32) w n free h = (let lt : n < 2 ^ 64 = grind (arith, nat_tests) in record { next = n; low = lt; near = and_both _ _ (free n) (self_4 n lt) })
free_home p _ w n free h = record { next = 0; low = omega arith; near = and_both _ _ (free 0) refl }

below_64 : (a : ℕ) → nat_lt a (2 ^ 64) ≡ true → a < 2 ^ 64
below_64 a h = grind (arith, nat_tests)

pub find_home : (rm : Option RmRule) (v w : Width) (p : Place) (k : Option ImmKind) (n : ℕ) → not (stands_alone k && is_some rm) ≡ true → has_place rm v p ≡ true → has_imm k w n ≡ true → Home p k n
find_home rm v w (places.Reg r) k n alone hp hi = free_home (places.Reg r) k w n (λ _. refl) hi
find_home rm v w (places.Mem m) k n alone hp hi = free_home (places.Mem m) k w n (λ _. refl) hi
find_home None v w (places.At a) k n alone hp hi = absurd (cc)
find_home (Some (rules.Fixed b)) v w (places.At a) k n alone hp hi = absurd (cc)
find_home (Some rules.RegisterOnly) v w (places.At a) k n alone hp hi = absurd (cc)
find_home (Some rules.Any) v w (places.At a) k n alone hp hi = at_home k a n (below_64 a hp) (beside (stands_alone k) alone)
find_home (Some rules.MemoryOnly) v w (places.At a) k n alone hp hi = at_home k a n (below_64 a hp) (beside (stands_alone k) alone)

-- ---- the parts of a spelling have bytes

append_parts : (xs ys : List ℕ) → are_bytes (xs ++ ys) ≡ true → (are_bytes xs ≡ true) × (are_bytes ys ≡ true)
append_parts [] ys h = (refl, h)
append_parts (x ∷ xs) ys h = (let t = and_parts (nat_lt x 256) (are_bytes (xs ++ ys)) h in let r = append_parts xs ys t.1 in (and_both _ _ t.0 r.0, r.1))

pub spelled_bytes : (row : Row) (p : Parts) (s : List ℕ) → SpelledBy row p s → (are_bytes p.rm ≡ true) × (are_bytes p.imm ≡ true)
spelled_bytes row p s h =
    let all : are_bytes (bytes_of row p) ≡ true = subst (λ k. are_bytes k ≡ true) h.bytes h.all in
    let a = append_parts p.prefixes _ all in
    let b = append_parts (rex_bytes p.rex) _ a.1 in
    let c = append_parts (escape row.map) _ b.1 in
    append_parts p.rm p.imm (and_parts (nat_lt p.opcode 256) (are_bytes (p.rm ++ p.imm)) c.1).1

-- ---- the test is exact

pub can_is : (row : Row) (f : Fields) → is_regular row ≡ true → can_have row f ≡ true → CanHave row f
can_is row f regular can =
    let h = had_of row f can in
    let e = find_home row.rm (rm_width row.op f.w) f.w f.rm row.imm f.imm (regular_of row regular).alone h.rm h.imm in
    record {
      next = e.next;
      next_low = e.low;
      bytes = bytes_of row (parts_for row f e.next);
      parts = parts_for row f e.next;
      spelled = spelled_for row f e.next regular can e.low e.near;
      same = (parts_read row f e.next regular can e.low e.near).same;
    }

pub is_can : (row : Row) (f : Fields) → is_regular row ≡ true → CanHave row f → can_have row f ≡ true
is_can row f regular h =
    let b = spelled_bytes row h.parts h.bytes h.spelled in
    subst (λ k. can_have row k ≡ true) h.same (fields_had row h.parts h.next regular h.spelled.fits b.0 b.1)
