use Rattle.std.proofs.Common.{ℕ, ◌≡◌, ◌+◌, ◌-◌, ◌/◌, ◌%◌, ◌≤◌, ◌==◌, List, [], ◌∷◌, ◌++◌, Option, Some, None, refl, ap, sym, ◌∙◌, subst, arith, length, Bool, true, false, ◌&&◌, ◌||◌, not, inl, inr}
use Rattle.std.specs.Prelude.{nat_le, nat_lt, if◌then◌else◌}
use Rattle.std.specs.List.{take_while}
use Rattle.std.proofs.lemmas.Bool.{cases_Bool}
use Rattle.std.proofs.lemmas.Bool.Decides.{nat_tests}
use Rattle.std.proofs.lemmas.List.{append-nil}
use Rattle.rz_isa.specs.declared.rows.OpMap.{OpMap}
use Rattle.rz_isa.specs.declared.rows.OpMap.TheVariants as maps
use Rattle.rz_isa.specs.declared.rows.Row.{Row}
use Rattle.rz_isa.specs.declared.rows.RmRule.{RmRule}
use Rattle.rz_isa.specs.declared.rows.Letter.TheVariants as letters
use Rattle.rz_isa.specs.declared.rows.Op.{Op}
use Rattle.rz_isa.specs.declared.rows.Op.TheVariants as ops
use Rattle.rz_isa.specs.Spelling.{Parts, Fits, SpelledBy, is_prefix, is_rex, rex_bytes, escape, is_met, rm_fits, rm_len, second, times, opcode_fits, prefixes_fit, lock_fits, may_name_memory, rm_is_memory, w_demand, b_demand, bit_w, bit_b, imm_len, width_of}
use Rattle.rz_isa.specs.Reading.{Head, Opcode, skip_while, rex_at, behind_rex, second_at, opcode_at, head_at}
use Rattle.rz_isa.specs.Regular.{is_regular, is_block, is_exchange}
use Rattle.rz_isa.specs.Decoded.{takes_rm, missing_f3}
use Rattle.rz_isa.specs.Laws.Front.{head_of_spelling}
use Rattle.rz_isa.specs.Laws.Exclusion.{IsPlain, same_maps, rm_len_cases, rm_fits_len}
use Rattle.rz_isa.specs.Laws.Inverse.{IsRegular, regular_of}
use Rattle.rz_isa.specs.Laws.Whole.{length_of}
use Rattle.rz_decode.specs.Laws.Prefixes.{stopped, passed_front}
use Rattle.rz_isa.specs.Laws.Tests.{some_same, within_test}
use Rattle.rz_isa.specs.Decoded.{last_opcode, second_for, opcode_for, front_by, front_at, rm_part, suits}
use Rattle.rz_decode.specs.Laws.Rejoined.{GoesOn}
use Rattle.rz_decode.specs.Laws.Room.{locked_names, missing_fit, least_met, least_b, open_room}

-- ---- the row's last opcode

last_fits : (row : Row) → is_block row ≡ true → opcode_fits row (last_opcode row) ≡ true
last_fits row h = last row.opcode row.span _ h
  where
    last : (o s : ℕ) (c : Bool) → (nat_lt o 256 && (s == 1 || (s == 16 && o % 16 == 0) || (s == 8 && o % 8 == 0 && c))) ≡ true → (nat_le o (o + s - 1) && nat_lt (o + s - 1) (o + s)) ≡ true
    last o s c h = grind (arith, nat_tests)

-- it is 90 only where it is the one opcode
last_alone : (row : Row) (o : ℕ) → is_block row ≡ true → opcode_fits row o ≡ true → last_opcode row ≡ 0x90 → (o ≡ last_opcode row) × (row.span ≡ 1)
last_alone row o h f e = (one row.opcode row.span o _ h f e, two row.opcode row.span _ h e)
  where
    one : (p s o : ℕ) (c : Bool) → (nat_lt p 256 && (s == 1 || (s == 16 && p % 16 == 0) || (s == 8 && p % 8 == 0 && c))) ≡ true → (nat_le p o && nat_lt o (p + s)) ≡ true → p + s - 1 ≡ 0x90 → o ≡ p + s - 1
    one p s o c h f e = grind (arith, nat_tests)

    two : (p s : ℕ) (c : Bool) → (nat_lt p 256 && (s == 1 || (s == 16 && p % 16 == 0) || (s == 8 && p % 8 == 0 && c))) ≡ true → p + s - 1 ≡ 0x90 → s ≡ 1
    two p s c h e = grind (arith, nat_tests)

none_elsewhere : (op : Op) (m : OpMap) (o b : ℕ) → (o == 0x90) ≡ false → is_met (b_demand op m o) b ≡ true
none_elsewhere (ops.Xchg letters.O letters.A) m o b n = ap (λ k. is_met (if k then Some 1 else None) b) n
none_elsewhere ops.Nop maps.One o b n = ap (λ k. is_met (if k then Some 0 else None) b) n
none_elsewhere _ m o b n = refl

zero_met : (op : Op) (m : OpMap) (o : ℕ) → (is_exchange op ≡ true → (o == 0x90) ≡ false) → is_met (b_demand op m o) 0 ≡ true
zero_met (ops.Xchg letters.O letters.A) m o h = ap (λ k. is_met (if k then Some 1 else None) 0) (h refl)
zero_met ops.Nop maps.One o h = elim (cases_Bool (o == 0x90)) [
  | inl y ↦ ap (λ k. is_met (if k then Some 0 else None) 0) y
  | inr n ↦ ap (λ k. is_met (if k then Some 0 else None) 0) n
]
zero_met _ m o h = refl

-- what is met at an opcode of the row is met at its last
last_met : (row : Row) (o b : ℕ) → is_block row ≡ true → opcode_fits row o ≡ true → is_met (b_demand row.op row.map o) b ≡ true → is_met (b_demand row.op row.map (last_opcode row)) b ≡ true
last_met row o b h f met = elim (cases_Bool (last_opcode row == 0x90)) [
  | inl y ↦ subst (λ k. is_met (b_demand row.op row.map k) b ≡ true) (last_alone row o h f (grind (arith, nat_tests))).0 met
  | inr n ↦ none_elsewhere row.op row.map (last_opcode row) b n
]

last_zero : (row : Row) → IsRegular row → is_met (b_demand row.op row.map (last_opcode row)) 0 ≡ true
last_zero row reg = zero_met row.op row.map (last_opcode row) (λ e. elim (cases_Bool (last_opcode row == 0x90)) [
  | inl y ↦
      (let one = (last_alone row (last_opcode row) reg.block (last_fits row reg.block) (grind (arith, nat_tests))).1 in
      absurd (clash (is_exchange row.op) row.span e one reg.exchange))
  | inr n ↦ n
])
  where
    clash : (x : Bool) (s : ℕ) → x ≡ true → s ≡ 1 → (not x || s == 8) ≡ true → ⊥
    clash x s ex es h = grind (arith, nat_tests)

-- ---- the opcode that is there, or the row's last

record OpcodeFound (row : Row) (p : Parts) (o : Opcode) (tail : List ℕ) : Type 0 where
  map : o.map ≡ row.map
  opcode : opcode_fits row o.byte ≡ true
  b : is_met (b_demand row.op row.map o.byte) (bit_b p.rex) ≡ true
  rest : GoesOn o.rest tail

found_last : (row : Row) (p : Parts) (m : OpMap) (tail : List ℕ) → is_block row ≡ true → Fits row p → m ≡ row.map → OpcodeFound row p (record { map = m; byte = last_opcode row; rest = [] }) tail
found_last row p m tail h fits e = record { map = e; opcode = last_fits row h; b = last_met row p.opcode (bit_b p.rex) h fits.opcode fits.b; rest = record { more = tail; same = refl } }

found_there : (row : Row) (p : Parts) (o : Opcode) (rest tail : List ℕ) → Fits row p → o.map ≡ row.map → o.byte ≡ p.opcode → o.rest ++ rest ≡ tail → OpcodeFound row p o tail
found_there row p o rest tail fits em eo et = record {
  map = em;
  opcode = ap (opcode_fits row) eo ∙ fits.opcode;
  b = ap (λ k. is_met (b_demand row.op row.map k) (bit_b p.rex)) eo ∙ fits.b;
  rest = record { more = rest; same = sym et };
}

abbrev spelled_opcode : Row → Parts → List ℕ → Opcode
spelled_opcode row p tail = record { map = row.map; byte = p.opcode; rest = tail }

second_map : (bs : List ℕ) (o : Opcode) → second_at bs ≡ Some o → o.map ≡ maps.Two
second_map [] o e = absurd (cc)
second_map (b ∷ bs) o e = sym (ap (λ (k : Opcode). k.map) (some_same _ o e))

second_found : (row : Row) (p : Parts) (bs rest tail : List ℕ) → is_block row ≡ true → Fits row p → second_at (bs ++ rest) ≡ Some (spelled_opcode row p tail) → OpcodeFound row p (second_for row bs) tail
second_found row p [] rest tail h fits e = found_last row p maps.Two tail h fits (sym (second_map rest (spelled_opcode row p tail) e))
second_found row p (b ∷ bs) rest tail h fits e =
    let c = some_same (record { map = maps.Two; byte = b; rest = bs ++ rest }) (spelled_opcode row p tail) e in
    found_there row p (record { map = maps.Two; byte = b; rest = bs }) rest tail fits (ap (λ (k : Opcode). k.map) c) (ap (λ (k : Opcode). k.byte) c) (ap (λ (k : Opcode). k.rest) c)

opcode_found_by : (row : Row) (p : Parts) (is_escape : Bool) (b : ℕ) (bs rest tail : List ℕ) → is_block row ≡ true → Fits row p
    → (if is_escape then second_at (bs ++ rest) else Some (record { map = maps.One; byte = b; rest = bs ++ rest })) ≡ Some (spelled_opcode row p tail)
    → OpcodeFound row p (if is_escape then second_for row bs else record { map = maps.One; byte = b; rest = bs }) tail
opcode_found_by row p true b bs rest tail h fits e = second_found row p bs rest tail h fits e
opcode_found_by row p false b bs rest tail h fits e =
    let c = some_same (record { map = maps.One; byte = b; rest = bs ++ rest }) (spelled_opcode row p tail) e in
    found_there row p (record { map = maps.One; byte = b; rest = bs }) rest tail fits (ap (λ (k : Opcode). k.map) c) (ap (λ (k : Opcode). k.byte) c) (ap (λ (k : Opcode). k.rest) c)

opcode_found : (row : Row) (p : Parts) (bs rest tail : List ℕ) → is_block row ≡ true → Fits row p → opcode_at (bs ++ rest) ≡ Some (spelled_opcode row p tail) → OpcodeFound row p (opcode_for row bs) tail
opcode_found row p [] rest tail h fits e = found_last row p row.map tail h fits refl
opcode_found row p (b ∷ bs) rest tail h fits e = opcode_found_by row p (b == 0x0f) b bs rest tail h fits e

behind_goes_on : (t : ℕ) (ts rest : List ℕ) → behind_rex (t ∷ (ts ++ rest)) ≡ behind_rex (t ∷ ts) ++ rest
behind_goes_on t ts rest = by (is_rex t)
  where
    by : (b : Bool) → (if b then ts ++ rest else t ∷ (ts ++ rest)) ≡ (if b then ts else t ∷ ts) ++ rest
    by true = refl
    by false = refl

-- ---- the ModRM part that is there

takes_none : (rule : Option RmRule) (d : Option ℕ) → takes_rm rule d [] ≡ true
takes_none None d = refl
takes_none (Some rule) d = refl

rm_taken : (rule : Option RmRule) (digit : Option ℕ) (a b x y : List ℕ) → rm_fits rule digit a ≡ true → a ++ y ≡ b ++ x → takes_rm rule digit b ≡ true
rm_taken None digit a b x y fit same = refl
rm_taken (Some rule) digit a [] x y fit same = refl
rm_taken (Some rule) digit [] (m ∷ b) x y fit same = absurd (cc)
rm_taken (Some rule) digit (n ∷ a) (m ∷ b) x y fit same =
    let e : m ≡ n = cc in
    subst (λ k. takes_rm (Some rule) digit (k ∷ b) ≡ true) (sym e) (grind arith)

-- the least that it asks for is no more than there is in the spelling
rm_least_by : (m s : ℕ) (a b x y : List ℕ) → 1 + length a ≡ rm_len m (second (m ∷ a)) → a ++ y ≡ b ++ x → rm_len m (second (m ∷ b)) ≤ 1 + length a
rm_least_by m s a [] x y len same = least m (second (m ∷ a)) _ (sym len)
  where
    least : (m s k : ℕ) → rm_len m s ≡ k → rm_len m 0 ≤ k
    least m s k e = elim (cases_Bool (m / 64 == 3)) [
      | inl a ↦ grind arith
      | inr b ↦ elim (cases_Bool (m % 8 == 4)) [ inl c ↦ grind (arith, nat_tests) | inr d ↦ grind arith ]
    ]
rm_least_by m s [] (c ∷ b) x y len same = elim (rm_len_cases m c 0) [
  | inl e ↦ omega arith
  | inr both ↦ absurd (omega arith)
]
rm_least_by m s (d ∷ a) (c ∷ b) x y len same = (let e : d ≡ c = cc in let f = ap (rm_len m) e in omega arith)

rm_least : (rule : Option RmRule) (digit : Option ℕ) (a b x y : List ℕ) → rm_fits rule digit a ≡ true → a ++ y ≡ b ++ x → rm_part rule b ≤ length a
rm_least None digit a b x y fit same = omega arith
rm_least (Some rule) digit [] b x y fit same = absurd (cc)
rm_least (Some rule) digit (n ∷ a) [] x y fit same = omega arith
rm_least (Some rule) digit (n ∷ a) (m ∷ b) x y fit same =
    let e : n ≡ m = cc in
    let t : a ++ y ≡ b ++ x = cc in
    subst (λ k. rm_len k (second (k ∷ b)) ≤ length (n ∷ a)) e (let l = rm_least_by n 0 a b x y (rm_fits_len rule digit n a fit) t in omega arith)

-- ---- what a row spells it serves

ands8 : (a b c d e f g h : Bool) → a ≡ true → b ≡ true → c ≡ true → d ≡ true → e ≡ true → f ≡ true → g ≡ true → h ≡ true → (a && b && c && d && e && f && g && h) ≡ true
ands8 a b c d e f g h ha hb hc hd he hf hg hh = grind arith

-- where F0 stands the ModRM byte that is there names memory
lock_open : (ps : List ℕ) → lock_fits ps [] ≡ true
lock_open ps = by (times 0xf0 ps == 0)
  where
    by : (b : Bool) → (b || true) ≡ true
    by b = grind arith

lock_read : (row : Row) (ps a b x y : List ℕ) → prefixes_fit row ps ≡ true → rm_fits row.rm row.digit a ≡ true → lock_fits ps a ≡ true → a ++ y ≡ b ++ x → lock_fits ps b ≡ true
lock_read row ps a [] x y fit rm lock same = lock_open ps
lock_read row ps (n ∷ a) (m ∷ b) x y fit rm lock same = (let e : n ≡ m = cc in subst (λ k. lock_fits ps (k ∷ b) ≡ true) e lock)
lock_read row ps [] (m ∷ b) x y fit rm lock same = elim (cases_Bool (times 0xf0 ps == 0)) [
  | inl z ↦ ap (λ k. k || rm_is_memory (m ∷ b)) z
  | inr some ↦ absurd (none_there row.rm row.digit (locked_names row ps fit some) rm)
]
  where
    none_there : (rule : Option RmRule) (d : Option ℕ) → may_name_memory rule ≡ true → rm_fits rule d [] ≡ true → ⊥
    none_there None d may fits = absurd (cc)
    none_there (Some rule) d may fits = absurd (cc)

imm_is : (row : Row) (p : Parts) → Fits row p → imm_len row.imm (width_of row.size (bit_w p.rex) (times 0x66 p.prefixes)) ≡ length p.imm
imm_is row p fits = (let h = fits.imm in grind (arith, nat_tests))

sum_less : (a r e m n i j : ℕ) → m ≤ n → i ≡ j → a + (r + (e + (1 + (n + j)))) ≤ 15 → a + (r + (e + (1 + (m + i)))) ≤ 15
sum_less a r e m n i j hm hi h = omega arith

pub served : (row : Row) (p : Parts) (s bytes more rest : List ℕ) → IsPlain row → is_regular row ≡ true → SpelledBy row p s → s ++ more ≡ bytes ++ rest → suits row (front_at row bytes) ≡ true
served row p s bytes more rest plain regular h same = go (skip_while is_prefix bytes) refl
  where
    tail : List ℕ
    tail = p.rm ++ (p.imm ++ more)

    reg : IsRegular row
    reg = regular_of row regular

    room : length p.prefixes + (length (rex_bytes p.rex) + (length (escape row.map) + (1 + (length p.rm + length p.imm)))) ≤ 15
    room = (let e = ap length h.bytes ∙ length_of row p in let l : length s ≤ 15 = grind (arith, nat_tests, h.short) in omega arith)

    read : head_at (bytes ++ rest) ≡ record { prefixes = p.prefixes; rex = p.rex; opcode = Some (spelled_opcode row p (p.rm ++ (p.imm ++ more))) }
    read = sym (ap head_at (sym (ap (λ k. k ++ more) h.bytes) ∙ same)) ∙ head_of_spelling row p more h.fits (plain.opcodes p.opcode h.fits.opcode)

    go : (t : List ℕ) → skip_while is_prefix bytes ≡ t → suits row (front_by row (take_while is_prefix bytes) t) ≡ true
    go [] e =
        let f = passed_front is_prefix bytes rest in
        let ep : p.prefixes ≡ take_while is_prefix bytes ++ f.0 = sym (ap (λ (k : Head). k.prefixes) read) ∙ f.1 in
        let fit = subst (λ k. prefixes_fit row k ≡ true) ep h.fits.prefixes in
        let i = ap (λ k. imm_len row.imm (width_of row.size (bit_w p.rex) (times 0x66 k))) (sym ep) ∙ imm_is row p h.fits in
        let o = open_room row (take_while is_prefix bytes) f.0 p.rex (length p.rm) (length p.imm) reg.alone fit h.fits.w (rm_least row.rm row.digit p.rm [] p.rm [] h.fits.rm (append-nil p.rm)) i
        (subst (λ k. length k + (length (rex_bytes p.rex) + (length (escape row.map) + (1 + (length p.rm + length p.imm)))) ≤ 15) ep room) in
        ands8 _ _ _ _ _ _ _ _
        (same_maps row.map row.map refl)
        (last_fits row reg.block)
        (missing_fit row (take_while is_prefix bytes) f.0 fit)
        (least_met row.size)
        (ap (is_met (b_demand row.op row.map (last_opcode row))) (least_b row.size) ∙ last_zero row reg)
        (takes_none row.rm row.digit)
        (lock_open (take_while is_prefix bytes ++ missing_f3 row.f3 (take_while is_prefix bytes)))
        (within_test _ 15 o)
    go (t ∷ ts) e =
        let z = stopped is_prefix bytes rest t ts e in
        let ep : take_while is_prefix bytes ≡ p.prefixes = sym z.0 ∙ ap (λ (k : Head). k.prefixes) read in
        let er : rex_at (t ∷ ts) ≡ p.rex = sym (ap rex_at z.1) ∙ ap (λ (k : Head). k.rex) read in
        let eo : opcode_at (behind_rex (t ∷ ts) ++ rest) ≡ Some (spelled_opcode row p tail) = ap opcode_at (sym (behind_goes_on t ts rest)) ∙ (sym (ap (λ k. opcode_at (behind_rex k)) z.1) ∙ ap (λ (k : Head). k.opcode) read) in
        let f = opcode_found row p (behind_rex (t ∷ ts)) rest tail reg.block h.fits eo in
        let o : Opcode = opcode_for row (behind_rex (t ∷ ts)) in
        let i : imm_len row.imm (width_of row.size (bit_w (rex_at (t ∷ ts))) (times 0x66 (take_while is_prefix bytes))) ≡ length p.imm =
        ap (λ k. imm_len row.imm (width_of row.size (bit_w k) (times 0x66 (take_while is_prefix bytes)))) er ∙ (ap (λ k. imm_len row.imm (width_of row.size (bit_w p.rex) (times 0x66 k))) ep ∙ imm_is row p h.fits) in
        let lp = ap (λ (k : List ℕ). length k) ep in
        let lr = ap (λ k. length (rex_bytes k)) er in
        let ro : length p.prefixes + (length (rex_bytes p.rex) + (length (escape row.map) + (1 + (length p.rm + length p.imm)))) ≤ 15 = room in
        let lm = rm_least row.rm row.digit p.rm o.rest f.rest.more (p.imm ++ more) h.fits.rm f.rest.same in
        ands8 _ _ _ _ _ _ _ _
        (same_maps row.map o.map (sym f.map))
        f.opcode
        (subst (λ k. prefixes_fit row k ≡ true) (sym ep) h.fits.prefixes)
        (subst (λ k. is_met (w_demand row.size) (bit_w k) ≡ true) (sym er) h.fits.w)
        (subst (λ k. is_met (b_demand row.op row.map o.byte) (bit_b k) ≡ true) (sym er) f.b)
        (rm_taken row.rm row.digit p.rm o.rest f.rest.more (p.imm ++ more) h.fits.rm f.rest.same)
        (subst (λ k. lock_fits k o.rest ≡ true) (sym ep) (lock_read row p.prefixes p.rm o.rest f.rest.more (p.imm ++ more) h.fits.prefixes h.fits.rm h.fits.lock f.rest.same))
        (within_test _ 15 (sum_less (length (take_while is_prefix bytes)) (length (rex_bytes (rex_at (t ∷ ts)))) (length (escape row.map)) (rm_part row.rm o.rest) (length p.rm) _ (length p.imm) lm i (omega arith)))
