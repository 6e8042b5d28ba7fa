use Rattle.std.proofs.Common.{ℕ, zero, suc, ◌≡◌, ◌≢◌, ◌<◌, ◌≤◌, ◌+◌, ◌*◌, ◌/◌, ◌%◌, ◌^◌, ◌==◌, refl, ap, sym, ◌∙◌, subst, arith, List, [], ◌∷◌, length, Bool, true, false, not, ◌&&◌, ◌||◌, inl, inr, Option, Some, None}
use Rattle.std.specs.Prelude.{nat_lt, IsTrue, IsSomeAnd, slice_get, is_some, if◌then◌else◌}
use Rattle.std.specs.List.{list_all}
use Rattle.std.specs.Option.{option_and_then}
use Rattle.std.proofs.lemmas.Bool.{cases_Bool}
use Rattle.std.proofs.lemmas.Bool.Decides.{nat_tests}
use Rattle.rz_isa.specs.Laws.Types.{Cond, ArithOp, Width, W32, W64, Form, OpMap, RmRule, Size, ImmKind, Op, Row, Insn, Mem, Place, Fields}
use Rattle.rz_flags.specs.Cond.{number_of}
use Rattle.rz_flags.specs.declared.ArithOp.TheVariants as ariths
use Rattle.rz_flags.specs.declared.ShiftOp.TheVariants as shifts
use Rattle.rz_isa.specs.declared.rows.Form.TheVariants as forms
use Rattle.rz_isa.specs.declared.rows.OpMap.TheVariants as maps
use Rattle.rz_isa.specs.declared.rows.F3Rule.TheVariants as f3s
use Rattle.rz_isa.specs.declared.rows.RmRule.TheVariants as rules
use Rattle.rz_isa.specs.declared.rows.Size.TheVariants as sizes
use Rattle.rz_isa.specs.declared.rows.ImmKind.TheVariants as imms
use Rattle.rz_isa.specs.declared.rows.Letter.TheVariants as letters
use Rattle.rz_isa.specs.declared.rows.Op.TheVariants as ops
use Rattle.rz_isa.specs.declared.instruction.Insn.TheVariants as insns
use Rattle.rz_isa.specs.declared.instruction.Reg.TheVariants as regs
use Rattle.rz_isa.specs.declared.instruction.Place.TheVariants as places
use Rattle.rz_isa.specs.declared.instruction.Operand.TheVariants as operands
use Rattle.rz_isa.specs.declared.instruction.Count.TheVariants as counts
use Rattle.rz_isa.specs.Spelling.{bytes_of, rex_bytes, escape, imm_len}
use Rattle.rz_isa.specs.Having.{code_of, has_width, has_imm, is_half, is_memory, rex_needed, needs_rex, can_have}
use Rattle.rz_isa.specs.Finding.{least, same_arith, found_in, if_can, found}
use Rattle.rz_isa.specs.Canonical.{repeat_prefix, prefixes_for, rex_for, place_bytes, rm_bytes, imm_value, parts_for, place_reaches, reaches, length_for, same_form, Chosen, or_chosen, chosen_by, spelled_at, canonical}
use Rattle.rz_isa.specs.Emitted.{HasSpelling, HasShortSpelling, place_len, near, close, fits_8, fits_32, register, is_wide_operand, is_emitted, is_double}
use Rattle.rz_isa.specs.Laws.Again.{Had, had_of, can_of}
use Rattle.rz_isa.specs.Laws.Choice.{serves_by, length_is}
use Rattle.rz_isa.specs.Laws.Read.{little_length}
use Rattle.rz_isa.specs.Laws.Whole.{length_of}
use Rattle.rz_isa.specs.Laws.Tests.{never, and_both, below_test, unequal_test, some_same, passed, if_both}

-- How to show, for a table whose rows are known, that an instruction has a canonical spelling and
-- how long it is.

-- ---- the row that serves

-- no row below the number serves
abbrev pub none_below : (Row → Bool) → List Row → ℕ → Bool
none_below test [] k = true
none_below test (r ∷ rows) zero = true
none_below test (r ∷ rows) (suc k) = not (test r) && none_below test rows k

and_parts : (a b : Bool) → (not a && b) ≡ true → (a ≡ false) × (b ≡ true)
and_parts a b h = (grind arith, grind arith)

passes : (find : Row → Option Fields) (form : Form) (r : Row) (rest : Option Chosen) → serves_by find form r ≡ false → (if same_form r.form form then or_chosen r (find r) rest else rest) ≡ rest
passes find form r rest h1 = grind (arith, nat_tests)

chosen_at : (find : Row → Option Fields) (rows : List Row) (form : Form) (k : ℕ) (row : Row) (g : Fields) → slice_get rows k ≡ Some row → none_below (serves_by find form) rows k ≡ true
    → same_form row.form form ≡ true → find row ≡ Some g → chosen_by find rows form ≡ Some (record { row = row; fields = g })
chosen_at find [] form k row g at none same e = absurd (grind arith)
chosen_at find (r ∷ rows) form zero row g at none same e =
    let s = some_same r row at in
    let f : same_form r.form form ≡ true = ap (λ (x : Row). same_form x.form form) s ∙ same in
    let o : find r ≡ Some g = ap find s ∙ e in
    ap (λ k. if k then or_chosen r (find r) (chosen_by find rows form) else chosen_by find rows form) f
    ∙ (ap (λ k. or_chosen r k (chosen_by find rows form)) o ∙ ap (λ (x : Row). Some (record { row = x; fields = g })) s)
chosen_at find (r ∷ rows) form (suc k) row g at none same e =
    let t = and_parts (serves_by find form r) (none_below (serves_by find form) rows k) none in
    passes find form r (chosen_by find rows form) t.0 ∙ chosen_at find rows form k row g at t.1 same e

-- the row of the number, where no row before it passes the test
abbrev pub first_at : (Row → Bool) → List Row → ℕ → Option Row
first_at test rows k = if none_below test rows k then slice_get rows k else None

-- the row has the number, and no row before it spells the instruction
abbrev pub Serves : List Row → Form → Insn → ℕ → Row → Type 0
Serves rows form x k row = first_at (serves_by (λ q. found q x) form) rows k ≡ Some row

-- the same but for rows of which a value decides; the gaps are the numbers of rows between them
abbrev pub none_below_but : (Row → Bool) → List Row → ℕ → List ℕ → Bool
none_below_but test rows k [] = none_below test rows k
none_below_but test [] k (j ∷ gaps) = true
none_below_but test (r ∷ rows) zero (j ∷ gaps) = true
none_below_but test (r ∷ rows) (suc k) (zero ∷ gaps) = none_below_but test rows k gaps
none_below_but test (r ∷ rows) (suc k) (suc j ∷ gaps) = not (test r) && none_below_but test rows k (j ∷ gaps)

abbrev pub passed_over : List Row → List ℕ → List Row
passed_over rows [] = []
passed_over [] (j ∷ gaps) = []
passed_over (r ∷ rows) (zero ∷ gaps) = r ∷ passed_over rows gaps
passed_over (r ∷ rows) (suc j ∷ gaps) = passed_over rows (j ∷ gaps)

abbrev pub first_at_but : (Row → Bool) → List Row → ℕ → List ℕ → Option Row
first_at_but test rows k gaps = if none_below_but test rows k gaps then slice_get rows k else None

abbrev pub ServesBut : List Row → Form → Insn → ℕ → Row → List ℕ → List Row → Type 0
ServesBut rows form x k row gaps qs = (first_at_but (serves_by (λ q. found q x) form) rows k gaps ≡ Some row) × (passed_over rows gaps ≡ qs)

missed : (a b : Bool) → a ≡ false → b ≡ true → (not a && b) ≡ true
missed a b ea eb = grind arith

below_but : (test : Row → Bool) (rows : List Row) (k : ℕ) (gaps : List ℕ) → none_below_but test rows k gaps ≡ true → list_all (λ q. not (test q)) (passed_over rows gaps) ≡ true → none_below test rows k ≡ true
below_but test rows k [] none miss = none
below_but test [] k (j ∷ gaps) none miss = refl
below_but test (r ∷ rows) zero (j ∷ gaps) none miss = refl
below_but test (r ∷ rows) (suc k) (zero ∷ gaps) none miss = (let t = and_parts (test r) (list_all (λ q. not (test q)) (passed_over rows gaps)) miss in missed _ _ t.0 (below_but test rows k gaps none t.1))
below_but test (r ∷ rows) (suc k) (suc j ∷ gaps) none miss = (let t = and_parts (test r) (none_below_but test rows k (j ∷ gaps)) none in missed _ _ t.0 (below_but test rows k (j ∷ gaps) t.1 miss))

not_both : (a b : Bool) → b ≡ false → not (a && b) ≡ true
not_both a b e = grind arith

each_missed : (find : Row → Option Fields) (form : Form) (qs : List Row) → list_all (λ q. not (is_some (find q))) qs ≡ true → list_all (λ q. not (serves_by find form q)) qs ≡ true
each_missed find form [] all = refl
each_missed find form (q ∷ qs) all =
    let t = and_parts (is_some (find q)) (list_all (λ q. not (is_some (find q))) qs) all in
    and_both _ _ (not_both (same_form q.form form) (is_some (find q)) t.0) (each_missed find form qs t.1)

pub serves_when : (rows : List Row) (form : Form) (x : Insn) (k : ℕ) (row : Row) (gaps : List ℕ) (qs : List Row) → ServesBut rows form x k row gaps qs → list_all (λ q. not (is_some (found q x))) qs ≡ true → Serves rows form x k row
serves_when rows form x k row gaps qs s miss =
    let test = serves_by (λ r. found r x) form in
    let t = passed (none_below_but test rows k gaps) (slice_get rows k) row s.0 in
    let m = subst (λ r. list_all (λ q. not (test q)) r ≡ true) (sym s.1) (each_missed (λ r. found r x) form qs miss) in
    ap (λ b. if b then slice_get rows k else None) (below_but test rows k gaps t.0 m) ∙ t.1

-- a row whose immediate can't have the value spells nothing
pub imm_missed : (q : Row) (x : Insn) (g : Fields) → found_in q.op x (least q) ≡ Some g → has_imm q.imm g.w g.imm ≡ false → is_some (found q x) ≡ false
imm_missed q x g e miss = ap (λ o. is_some (option_and_then (if_can q) o)) e ∙ elim (cases_Bool (can_have q g)) [
  | inl y ↦ absurd (never _ (had_of q g y).imm miss)
  | inr n ↦ ap (λ b. is_some (if b then Some g else None)) n
]

-- ---- the spelling and its length

pub spelled_as : (rows : List Row) (x : Insn) (at : ℕ) (form : Form) (k : ℕ) (row : Row) (g : Fields) (next : ℕ) → Serves rows form x k row → same_form row.form form ≡ true → found_in row.op x (least row) ≡ Some g → Had row g
    → (at + length_for row g) % 2 ^ 64 ≡ next → reaches row g next ≡ true → canonical rows x at form ≡ Some (bytes_of row (parts_for row g next))
spelled_as rows x at form k row g next s same e had en near =
    let f = passed (none_below (serves_by (λ q. found q x) form) rows k) (slice_get rows k) row s in
    let is_found : found row x ≡ Some g = ap (option_and_then (if_can row)) e ∙ ap (λ b. if b then Some g else None) (can_of row g had) in
    let c = chosen_at (λ q. found q x) rows form k row g f.1 f.0 same is_found in
    ap (spelled_at at) c ∙ (ap (λ m. if reaches row g m then Some (bytes_of row (parts_for row g m)) else None) en ∙ ap (λ b. if b then Some (bytes_of row (parts_for row g next)) else None) near)

pub spelled : (rows : List Row) (x : Insn) (at : ℕ) (form : Form) (k : ℕ) (row : Row) (g : Fields) (n : ℕ) → Serves rows form x k row → same_form row.form form ≡ true → found_in row.op x (least row) ≡ Some g → Had row g
    → length_for row g ≡ n → reaches row g ((at + n) % 2 ^ 64) ≡ true → HasSpelling rows x at form n
spelled rows x at form k row g n s same e had len near =
    let next = (at + n) % 2 ^ 64 in
    let is_next : (at + length_for row g) % 2 ^ 64 ≡ next = ap (λ m. (at + m) % 2 ^ 64) len in
    subst (λ o. IsSomeAnd o (λ bs. length bs ≡ n)) (sym (spelled_as rows x at form k row g next s same e had is_next near)) (length_is row g next 0 ∙ len)

some_within : (o : Option (List ℕ)) (m n : ℕ) → m ≤ n → IsSomeAnd o (λ s. length s ≡ m) → IsSomeAnd o (λ s. length s ≤ n)
some_within o m n h1 h2 = grind (arith, nat_tests)

-- a place that isn't named by its address is in reach from everywhere
pub spelled_within : (rows : List Row) (x : Insn) (at : ℕ) (form : Form) (k : ℕ) (row : Row) (g : Fields) (n : ℕ) → Serves rows form x k row → same_form row.form form ≡ true → found_in row.op x (least row) ≡ Some g → Had row g
    → length_for row g ≤ n → ((next : ℕ) → reaches row g next ≡ true) → HasShortSpelling rows x at form n
spelled_within rows x at form k row g n s same e had le near = some_within _ _ _ le (spelled rows x at form k row g (length_for row g) s same e had refl (near _))

length_by : (row : Row) (f : Fields) → length_for row f ≡ length (prefixes_for (is_half f.w) (repeat_prefix row.f3 f.rep)) + (length (rex_bytes (rex_for row f)) + (length (escape row.map) + (1 + (length (rm_bytes row.rm row.digit (code_of f.reg) 0 f.rm) + imm_len row.imm f.w))))
length_by row f = length_of row (parts_for row f 0)
    ∙ ap (λ k. length (prefixes_for (is_half f.w) (repeat_prefix row.f3 f.rep)) + (length (rex_bytes (rex_for row f)) + (length (escape row.map) + (1 + (length (rm_bytes row.rm row.digit (code_of f.reg) 0 f.rm) + k))))) (little_length (imm_len row.imm f.w) (imm_value row.imm 0 f.imm))

-- the reg field doesn't change how many bytes name a place
place_len_is : (reg : ℕ) (p : Place) → length (place_bytes reg 0 p) ≡ place_len p
place_len_is reg p = grind (arith, nat_tests)

rex_is : (b : Bool) (v : ℕ) → length (rex_bytes (if b then Some v else None)) ≡ (if b then 1 else 0)
rex_is b v = grind (arith, nat_tests)

-- with an opcode of one byte and no prefix: at 64 bits with REX, else with one at most
record Parted (row : Row) (f : Fields) (reg : ℕ) : Type 0 where
  prefix : length (prefixes_for (is_half f.w) (repeat_prefix row.f3 f.rep)) ≡ 0
  escape : length (escape row.map) ≡ 0
  rm : rm_bytes row.rm row.digit (code_of f.reg) 0 f.rm ≡ place_bytes reg 0 f.rm

or_first : (a b c : Bool) → a ≡ true → (a || b || c) ≡ true
or_first a b c e = grind arith

wide_length : (row : Row) (f : Fields) (reg : ℕ) → Parted row f reg → nat_lt 0 (rex_needed row f) ≡ true → length_for row f ≡ 2 + imm_len row.imm f.w + place_len f.rm
wide_length row f reg p rex =
    let l = length_by row f in
    let r = rex_is (needs_rex row f) (0x40 + rex_needed row f) ∙ ap (λ b. if b then 1 else 0) (or_first _ _ _ rex) in
    let m = ap length p.rm ∙ place_len_is reg f.rm in
    sums _ _ _ _ _ _ _ l p.prefix r p.escape m
  where
    sums : (n a b c d e m : ℕ) → n ≡ a + (b + (c + (1 + (d + e)))) → a ≡ 0 → b ≡ 1 → c ≡ 0 → d ≡ m → n ≡ 2 + e + m
    sums n a b c d e m l ea eb ec ed = omega arith

at_most_one : (b : Bool) → (if b then 1 else 0) ≤ 1
at_most_one b = grind (arith, nat_tests)

short_length : (row : Row) (f : Fields) (reg : ℕ) → Parted row f reg → length_for row f ≤ 2 + imm_len row.imm f.w + place_len f.rm
short_length row f reg p =
    let l = length_by row f in
    let r = rex_is (needs_rex row f) (0x40 + rex_needed row f) in
    let o = at_most_one (needs_rex row f) in
    let m = ap length p.rm ∙ place_len_is reg f.rm in
    sums _ _ _ _ _ _ _ _ l p.prefix r o p.escape m
  where
    sums : (n a b c d e m x : ℕ) → n ≡ a + (b + (c + (1 + (d + e)))) → a ≡ 0 → b ≡ x → x ≤ 1 → c ≡ 0 → d ≡ m → n ≤ 2 + e + m
    sums n a b c d e m x l ea eb ex ec ed = omega arith

-- REX.W is needed
wide_rex : (r x b : ℕ) → nat_lt 0 (8 + 4 * r + 2 * x + b) ≡ true
wide_rex r x b = below_test 0 (8 + 4 * r + 2 * x + b) (omega arith)

-- a register in the opcode that needs REX.B alone
eighth_rex : (r : ℕ) → r < 16 → (if nat_lt 0 (0 + r / 8) then 1 else 0) ≡ r / 8
eighth_rex r lt = if_both (λ k. k ≡ r / 8) (nat_lt 0 (0 + r / 8)) 1 0 (λ e. grind (arith, nat_tests)) (λ e. grind (arith, nat_tests))

or_falses : (a : Bool) → (a || false || false) ≡ a
or_falses a = grind (arith, nat_tests)

-- with an opcode of one byte that holds the register
opcode_length : (row : Row) (f : Fields) (r : ℕ) → r < 16 → length (prefixes_for (is_half f.w) (repeat_prefix row.f3 f.rep)) ≡ 0 → length (escape row.map) ≡ 0 → length (rm_bytes row.rm row.digit (code_of f.reg) 0 f.rm) ≡ 0
    → needs_rex row f ≡ (nat_lt 0 (0 + r / 8) || false || false) → length_for row f ≡ 1 + imm_len row.imm f.w + r / 8
opcode_length row f r lt prefix escape rm needs =
    let l = length_by row f in
    let x = rex_is (needs_rex row f) (0x40 + rex_needed row f) ∙ (ap (λ b. if b then 1 else 0) (needs ∙ or_falses _) ∙ eighth_rex r lt) in
    sums _ _ _ _ _ _ _ l prefix x escape rm
  where
    sums : (n a b c d e x : ℕ) → n ≡ a + (b + (c + (1 + (d + e)))) → a ≡ 0 → b ≡ x → c ≡ 0 → d ≡ 0 → n ≡ 1 + e + x
    sums n a b c d e x l ea eb ec ed = omega arith

-- ---- rows without prefixes in the opcode's first form, and the instructions that they serve

wide : (rows : List Row) (x : Insn) (at : ℕ) (k : ℕ) (row : Row) (g : Fields) (reg : ℕ) → Serves rows forms.Near x k row → same_form row.form forms.Near ≡ true → found_in row.op x (least row) ≡ Some g → Had row g
    → Parted row g reg → nat_lt 0 (rex_needed row g) ≡ true → reaches row g ((at + (2 + imm_len row.imm g.w + place_len g.rm)) % 2 ^ 64) ≡ true → HasSpelling rows x at forms.Near (2 + imm_len row.imm g.w + place_len g.rm)
wide rows x at k row g reg s same e had p rex near = spelled rows x at forms.Near k row g _ s same e had (wide_length row g reg p rex) near

short : (rows : List Row) (x : Insn) (at : ℕ) (k : ℕ) (row : Row) (g : Fields) (reg : ℕ) → Serves rows forms.Near x k row → same_form row.form forms.Near ≡ true → found_in row.op x (least row) ≡ Some g → Had row g
    → Parted row g reg → ((next : ℕ) → reaches row g next ≡ true) → HasShortSpelling rows x at forms.Near (2 + imm_len row.imm g.w + place_len g.rm)
short rows x at k row g reg s same e had p near = spelled_within rows x at forms.Near k row g _ s same e had (short_length row g reg p) near

-- no F3
abbrev pub row_of : OpMap → ℕ → ℕ → Option ℕ → Option RmRule → Size → Option ImmKind → Form → Op → Row
row_of map opcode span digit rm size imm form op = record { map = map; opcode = opcode; span = span; digit = digit; rm = rm; f3 = f3s.No; lock = false; size = size; imm = imm; form = form; op = op }

abbrev pub load_row : Row
load_row = row_of maps.One 0x8b 1 None (Some rules.Any) sizes.V None forms.Near (ops.Mov letters.G letters.E)

abbrev pub store_row : Row
store_row = row_of maps.One 0x89 1 None (Some rules.Any) sizes.V None forms.Near (ops.Mov letters.E letters.G)

abbrev pub store_imm_row : Row
store_imm_row = row_of maps.One 0xc7 1 (Some 0) (Some rules.Any) sizes.V (Some imms.Iz) forms.Near (ops.Mov letters.E letters.Imm)

abbrev pub mov_row : Row
mov_row = row_of maps.One 0xb8 8 None None sizes.D (Some imms.Iv) forms.Near (ops.Mov letters.O letters.Imm)

abbrev pub lea_row : Row
lea_row = row_of maps.One 0x8d 1 None (Some rules.MemoryOnly) sizes.V None forms.Near (ops.Lea letters.G letters.M)

abbrev pub push_row : Row
push_row = row_of maps.One 0x50 8 None None sizes.Q None forms.Near (ops.Push letters.O)

abbrev pub push_byte_row : Row
push_byte_row = row_of maps.One 0x6a 1 None None sizes.Q (Some imms.Ibs) forms.Near (ops.Push letters.Imm)

abbrev pub push_imm_row : Row
push_imm_row = row_of maps.One 0x68 1 None None sizes.Q (Some imms.Iz) forms.Near (ops.Push letters.Imm)

abbrev pub pop_row : Row
pop_row = row_of maps.One 0x58 8 None None sizes.Q None forms.Near (ops.Pop letters.O)

abbrev pub jcc_row : Row
jcc_row = row_of maps.Two 0x80 16 None None sizes.N (Some imms.J32) forms.Near ops.Jcc

abbrev pub jcc_short_row : Row
jcc_short_row = row_of maps.One 0x70 16 None None sizes.N (Some imms.J8) forms.Short ops.Jcc

-- a row of one opcode with neither ModRM nor a register
abbrev pub lone_row : OpMap → ℕ → Size → Option ImmKind → Form → Op → Row
lone_row map opcode size imm form op = row_of map opcode 1 None None size imm form op

or_register : (a : Bool) → a ≡ true → (a || false) ≡ true
or_register a e = grind arith

register_only : (a : Bool) → (a || false) ≡ true → a ≡ true
register_only a e = grind arith

pub emits_load : (rows : List Row) (k j r at : ℕ) (p : Place) → ((m : Mem) → Serves rows forms.Near (insns.Mov W64 (register r) (operands.Place (places.Mem m))) k load_row)
    → ((a : ℕ) → Serves rows forms.Near (insns.Mov W64 (register r) (operands.Place (places.At a))) k load_row) → ((q : ℕ) → Serves rows forms.Near (insns.Mov W64 (register r) (operands.Place (register q))) j store_row)
    → r < 16 → IsTrue (is_wide_operand p) → IsTrue (place_reaches ((at + (2 + place_len p)) % 2 ^ 64) p) → HasSpelling rows (insns.Mov W64 (register r) (operands.Place p)) at forms.Near (2 + place_len p)
emits_load rows k j r at (places.Mem m) mem abs reg lr h near = wide rows _ at k load_row (record (least load_row) { w = W64; reg = regs.R r; rm = places.Mem m }) (r % 8) (mem m) refl refl
    (record { w = refl; reg = below_test r 16 lr; rm = h; cond = refl; imm = refl; rep = refl; rex = refl; b = refl }) (record { prefix = refl; escape = refl; rm = refl }) (wide_rex (r / 8) _ _) refl
emits_load rows k j r at (places.At a) mem abs reg lr h near = wide rows _ at k load_row (record (least load_row) { w = W64; reg = regs.R r; rm = places.At a }) (r % 8) (abs a) refl refl
    (record { w = refl; reg = below_test r 16 lr; rm = h; cond = refl; imm = refl; rep = refl; rex = refl; b = refl }) (record { prefix = refl; escape = refl; rm = refl }) (wide_rex (r / 8) 0 0) (and_both _ _ near refl)
emits_load rows k j r at (places.Reg (regs.R q)) mem abs reg lr h near = wide rows _ at j store_row (record (least store_row) { w = W64; reg = regs.R q; rm = register r }) (q % 8) (reg q) refl refl
    (record { w = refl; reg = register_only _ h; rm = or_register _ (below_test r 16 lr); cond = refl; imm = refl; rep = refl; rex = refl; b = refl }) (record { prefix = refl; escape = refl; rm = refl }) (wide_rex (q / 8) 0 (r / 8)) refl
emits_load rows k j r at (places.Reg (regs.High q)) mem abs reg lr h near = absurd (cc)

pub emits_store : (rows : List Row) (k r at : ℕ) (m : Mem) → Serves rows forms.Near (insns.Mov W64 (places.Mem m) (operands.Place (register r))) k store_row → r < 16 → IsTrue (is_memory m)
    → HasSpelling rows (insns.Mov W64 (places.Mem m) (operands.Place (register r))) at forms.Near (2 + place_len (places.Mem m))
emits_store rows k r at m s lr h = wide rows _ at k store_row (record (least store_row) { w = W64; reg = regs.R r; rm = places.Mem m }) (r % 8) s refl refl
    (record { w = refl; reg = below_test r 16 lr; rm = h; cond = refl; imm = refl; rep = refl; rex = refl; b = refl }) (record { prefix = refl; escape = refl; rm = refl }) (wide_rex (r / 8) _ _) refl

pub emits_store_imm : (rows : List Row) (k n at : ℕ) (m : Mem) → Serves rows forms.Near (insns.Mov W64 (places.Mem m) (operands.Imm n)) k store_imm_row → IsTrue (fits_32 W64 n) → IsTrue (is_memory m)
    → HasSpelling rows (insns.Mov W64 (places.Mem m) (operands.Imm n)) at forms.Near (6 + place_len (places.Mem m))
emits_store_imm rows k n at m s ln h = wide rows _ at k store_imm_row (record (least store_imm_row) { w = W64; rm = places.Mem m; imm = n }) 0 s refl refl
    (record { w = refl; reg = refl; rm = h; cond = refl; imm = ln; rep = refl; rex = refl; b = refl }) (record { prefix = refl; escape = refl; rm = refl }) (wide_rex 0 _ _) refl

pub emits_load_32 : (rows : List Row) (k r at : ℕ) (m : Mem) → Serves rows forms.Near (insns.Mov W32 (register r) (operands.Place (places.Mem m))) k load_row → r < 16 → IsTrue (is_memory m)
    → HasShortSpelling rows (insns.Mov W32 (register r) (operands.Place (places.Mem m))) at forms.Near (2 + place_len (places.Mem m))
emits_load_32 rows k r at m s lr h = short rows _ at k load_row (record (least load_row) { w = W32; reg = regs.R r; rm = places.Mem m }) (r % 8) s refl refl
    (record { w = refl; reg = below_test r 16 lr; rm = h; cond = refl; imm = refl; rep = refl; rex = refl; b = refl }) (record { prefix = refl; escape = refl; rm = refl }) (λ next. refl)

pub emits_mov : (rows : List Row) (k r n at : ℕ) → Serves rows forms.Near (insns.Mov W32 (register r) (operands.Imm n)) k mov_row → r < 16 → n < 2 ^ 32 → HasSpelling rows (insns.Mov W32 (register r) (operands.Imm n)) at forms.Near (5 + r / 8)
emits_mov rows k r n at s lr ln = (let g : Fields = record (least mov_row) { w = W32; reg = regs.R r; imm = n } in
    spelled rows _ at forms.Near k mov_row g _ s refl refl
    (record { w = refl; reg = below_test r 16 lr; rm = refl; cond = refl; imm = below_test n (2 ^ 32) ln; rep = refl; rex = refl; b = refl }) (opcode_length mov_row g r lr refl refl refl refl) refl)

pub emits_lea : (rows : List Row) (k r at : ℕ) (m : Mem) → Serves rows forms.Near (insns.Lea W64 r (places.Mem m)) k lea_row → r < 16 → IsTrue (is_memory m) → HasSpelling rows (insns.Lea W64 r (places.Mem m)) at forms.Near (2 + place_len (places.Mem m))
emits_lea rows k r at m s lr h = wide rows _ at k lea_row (record (least lea_row) { w = W64; reg = regs.R r; rm = places.Mem m }) (r % 8) s refl refl
    (record { w = refl; reg = below_test r 16 lr; rm = h; cond = refl; imm = refl; rep = refl; rex = refl; b = refl }) (record { prefix = refl; escape = refl; rm = refl }) (wide_rex (r / 8) _ _) refl

pub emits_push : (rows : List Row) (k r at : ℕ) → Serves rows forms.Near (insns.Push (operands.Place (register r))) k push_row → r < 16 → HasSpelling rows (insns.Push (operands.Place (register r))) at forms.Near (1 + r / 8)
emits_push rows k r at s lr = (let g : Fields = record (least push_row) { reg = regs.R r } in
    spelled rows _ at forms.Near k push_row g _ s refl refl
    (record { w = refl; reg = below_test r 16 lr; rm = refl; cond = refl; imm = refl; rep = refl; rex = refl; b = refl }) (opcode_length push_row g r lr refl refl refl refl) refl)

pub emits_pop : (rows : List Row) (k r at : ℕ) → Serves rows forms.Near (insns.Pop (register r)) k pop_row → r < 16 → HasSpelling rows (insns.Pop (register r)) at forms.Near (1 + r / 8)
emits_pop rows k r at s lr = (let g : Fields = record (least pop_row) { reg = regs.R r } in
    spelled rows _ at forms.Near k pop_row g _ s refl refl
    (record { w = refl; reg = below_test r 16 lr; rm = refl; cond = refl; imm = refl; rep = refl; rex = refl; b = refl }) (opcode_length pop_row g r lr refl refl refl refl) refl)

pub emits_push_byte : (rows : List Row) (k n at : ℕ) → Serves rows forms.Near (insns.Push (operands.Imm n)) k push_byte_row → IsTrue (fits_8 W64 n) → HasSpelling rows (insns.Push (operands.Imm n)) at forms.Near 2
emits_push_byte rows k n at s ln = spelled rows _ at forms.Near k push_byte_row (record (least push_byte_row) { imm = n }) 2 s refl refl
    (record { w = refl; reg = refl; rm = refl; cond = refl; imm = ln; rep = refl; rex = refl; b = refl }) refl refl

pub emits_push_imm : (rows : List Row) (k n at : ℕ) (gaps : List ℕ) → ServesBut rows forms.Near (insns.Push (operands.Imm n)) k push_imm_row gaps (push_byte_row ∷ []) → IsTrue (fits_32 W64 n) → fits_8 W64 n ≡ false
    → HasSpelling rows (insns.Push (operands.Imm n)) at forms.Near 5
emits_push_imm rows k n at gaps s ln miss =
    let x : Insn = insns.Push (operands.Imm n) in
    let m = ap not (imm_missed push_byte_row x (record (least push_byte_row) { imm = n }) refl miss) in
    spelled rows x at forms.Near k push_imm_row (record (least push_imm_row) { imm = n }) 5 (serves_when rows forms.Near x k push_imm_row gaps (push_byte_row ∷ []) s (and_both _ _ m refl)) refl refl
    (record { w = refl; reg = refl; rm = refl; cond = refl; imm = ln; rep = refl; rex = refl; b = refl }) refl refl

cond_low : (c : Cond) → nat_lt (number_of c) 16 ≡ true
cond_low c = grind (arith, nat_tests)

pub emits_jcc : (rows : List Row) (k : ℕ) (c : Cond) (t at : ℕ) → Serves rows forms.Near (insns.Jcc c t) k jcc_row → t < 2 ^ 64 → IsTrue (near at 6 t) → HasSpelling rows (insns.Jcc c t) at forms.Near 6
emits_jcc rows k c t at s lt h = spelled rows _ at forms.Near k jcc_row (record (least jcc_row) { cond = number_of c; imm = t }) 6 s refl refl
    (record { w = refl; reg = refl; rm = refl; cond = cond_low c; imm = below_test t (2 ^ 64) lt; rep = refl; rex = refl; b = refl }) refl h

pub emits_jcc_short : (rows : List Row) (k : ℕ) (c : Cond) (t at : ℕ) → Serves rows forms.Short (insns.Jcc c t) k jcc_short_row → t < 2 ^ 64 → IsTrue (close at 2 t) → HasSpelling rows (insns.Jcc c t) at forms.Short 2
emits_jcc_short rows k c t at s lt h = spelled rows _ at forms.Short k jcc_short_row (record (least jcc_short_row) { cond = number_of c; imm = t }) 2 s refl refl
    (record { w = refl; reg = refl; rm = refl; cond = cond_low c; imm = below_test t (2 ^ 64) lt; rep = refl; rex = refl; b = refl }) refl h

pub emits_jrcxz : (rows : List Row) (k t at : ℕ) → Serves rows forms.Near (insns.Jrcxz t) k (lone_row maps.One 0xe3 sizes.N (Some imms.J8) forms.Near ops.Jrcxz) → t < 2 ^ 64 → IsTrue (close at 2 t) → HasSpelling rows (insns.Jrcxz t) at forms.Near 2
emits_jrcxz rows k t at s lt h = spelled rows _ at forms.Near k (lone_row maps.One 0xe3 sizes.N (Some imms.J8) forms.Near ops.Jrcxz) (record (least (lone_row maps.One 0xe3 sizes.N (Some imms.J8) forms.Near ops.Jrcxz)) { imm = t }) 2 s refl refl
    (record { w = refl; reg = refl; rm = refl; cond = refl; imm = below_test t (2 ^ 64) lt; rep = refl; rex = refl; b = refl }) refl h

pub emits_jmp : (rows : List Row) (k t at : ℕ) → Serves rows forms.Near (insns.Jmp t) k (lone_row maps.One 0xe9 sizes.N (Some imms.J32) forms.Near ops.Jmp) → t < 2 ^ 64 → IsTrue (near at 5 t) → HasSpelling rows (insns.Jmp t) at forms.Near 5
emits_jmp rows k t at s lt h = spelled rows _ at forms.Near k (lone_row maps.One 0xe9 sizes.N (Some imms.J32) forms.Near ops.Jmp) (record (least (lone_row maps.One 0xe9 sizes.N (Some imms.J32) forms.Near ops.Jmp)) { imm = t }) 5 s refl refl
    (record { w = refl; reg = refl; rm = refl; cond = refl; imm = below_test t (2 ^ 64) lt; rep = refl; rex = refl; b = refl }) refl h

pub emits_jmp_short : (rows : List Row) (k t at : ℕ) → Serves rows forms.Short (insns.Jmp t) k (lone_row maps.One 0xeb sizes.N (Some imms.J8) forms.Short ops.Jmp) → t < 2 ^ 64 → IsTrue (close at 2 t) → HasSpelling rows (insns.Jmp t) at forms.Short 2
emits_jmp_short rows k t at s lt h = spelled rows _ at forms.Short k (lone_row maps.One 0xeb sizes.N (Some imms.J8) forms.Short ops.Jmp) (record (least (lone_row maps.One 0xeb sizes.N (Some imms.J8) forms.Short ops.Jmp)) { imm = t }) 2 s refl refl
    (record { w = refl; reg = refl; rm = refl; cond = refl; imm = below_test t (2 ^ 64) lt; rep = refl; rex = refl; b = refl }) refl h

-- an instruction without fields
pub emits_bare : (rows : List Row) (x : Insn) (k at n : ℕ) (row : Row) → Serves rows forms.Near x k row → same_form row.form forms.Near ≡ true → found_in row.op x (least row) ≡ Some (least row) → can_have row (least row) ≡ true
    → length_for row (least row) ≡ n → ((next : ℕ) → reaches row (least row) next ≡ true) → HasSpelling rows x at forms.Near n
emits_bare rows x k at n row s same e can len near = spelled rows x at forms.Near k row (least row) n s same e (had_of row (least row) can) len (near _)

-- and its bytes, where no address counts
pub emits_bytes : (rows : List Row) (x : Insn) (k at : ℕ) (row : Row) (bs : List ℕ) → Serves rows forms.Near x k row → same_form row.form forms.Near ≡ true → found_in row.op x (least row) ≡ Some (least row) → can_have row (least row) ≡ true
    → ((next : ℕ) → reaches row (least row) next ≡ true) → ((next : ℕ) → bytes_of row (parts_for row (least row) next) ≡ bs) → canonical rows x at forms.Near ≡ Some bs
emits_bytes rows x k at row bs s same e can near is_bytes =
    spelled_as rows x at forms.Near k row (least row) _ s same e (had_of row (least row) can) refl (near _) ∙ ap Some (is_bytes _)

-- ---- those of the lookup routine

abbrev pub arith_digit : ArithOp → ℕ
arith_digit ariths.Sub = 5
arith_digit ariths.Cmp = 7
arith_digit _ = 0

abbrev pub arith_row : ArithOp → Row
arith_row o = row_of maps.One (8 * arith_digit o + 1) 1 None (Some rules.Any) sizes.V None forms.Near (ops.Arith o letters.E letters.G)

abbrev pub arith_load_row : ArithOp → Row
arith_load_row o = row_of maps.One (8 * arith_digit o + 3) 1 None (Some rules.Any) sizes.V None forms.Near (ops.Arith o letters.G letters.E)

abbrev pub arith_byte_row : ArithOp → Row
arith_byte_row o = row_of maps.One 0x83 1 (Some (arith_digit o)) (Some rules.Any) sizes.V (Some imms.Ibs) forms.Near (ops.Arith o letters.E letters.Imm)

abbrev pub arith_imm_row : ArithOp → Row
arith_imm_row o = row_of maps.One 0x81 1 (Some (arith_digit o)) (Some rules.Any) sizes.V (Some imms.Iz) forms.Near (ops.Arith o letters.E letters.Imm)

abbrev pub shr_once_row : Row
shr_once_row = row_of maps.One 0xd1 1 (Some 5) (Some rules.Any) sizes.V None forms.Near (ops.Shift shifts.Shr letters.E letters.One)

-- its row of bytes
abbrev pub shr_once_byte_row : Row
shr_once_byte_row = row_of maps.One 0xd0 1 (Some 5) (Some rules.Any) sizes.B None forms.Near (ops.Shift shifts.Shr letters.E letters.One)

abbrev pub shr_row : Row
shr_row = row_of maps.One 0xc1 1 (Some 5) (Some rules.Any) sizes.V (Some imms.Ib) forms.Near (ops.Shift shifts.Shr letters.E letters.Imm)

abbrev pub jmp_ind_row : Row
jmp_ind_row = row_of maps.One 0xff 1 (Some 4) (Some rules.Any) sizes.Q None forms.Near (ops.JmpInd letters.E)

-- what holds for each of the operations and widths
pub each_double : (P : Width → Type 0) → P W32 → P W64 → (w : Width) → IsTrue (is_double w) → P w
each_double P h1 h2 w h3 = grind (arith, nat_tests)

pub each_arith : (P : ArithOp → Width → Type 0) → P ariths.Add W32 → P ariths.Add W64 → P ariths.Sub W32 → P ariths.Sub W64 → P ariths.Cmp W32 → P ariths.Cmp W64 → (o : ArithOp) (w : Width) → IsTrue (is_emitted o) → IsTrue (is_double w) → P o w
each_arith P h1 h2 h3 h4 h5 h6 o w h7 h8 = grind (arith, nat_tests)

record Double (w : Width) : Type 0 where
  wide : has_width sizes.V w ≡ true
  half : is_half w ≡ false
  four : imm_len (Some imms.Iz) w ≡ 4
  imm : (n : ℕ) → fits_32 w n ≡ true → has_imm (Some imms.Iz) w n ≡ true

double : (w : Width) → IsTrue (is_double w) → Double w
double w h = each_double Double (record { wide = refl; half = refl; four = refl; imm = λ n e. e }) (record { wide = refl; half = refl; four = refl; imm = λ n e. e }) w h

itself : (o : ArithOp) (g : Fields) → (if same_arith o o then Some g else None) ≡ Some g
itself o g = grind arith

no_prefix : (b : Bool) → b ≡ false → length (prefixes_for b 0) ≡ 0
no_prefix b e = ap (λ k. length (prefixes_for k 0)) e

pub emits_arith : (rows : List Row) (k : ℕ) (o : ArithOp) (w : Width) (r q at : ℕ) → Serves rows forms.Near (insns.Arith o w (register r) (operands.Place (register q))) k (arith_row o) → IsTrue (is_double w) → r < 16 → q < 16
    → HasShortSpelling rows (insns.Arith o w (register r) (operands.Place (register q))) at forms.Near 3
emits_arith rows k o w r q at s hw lr lq =
    let d = double w hw in
    short rows _ at k (arith_row o) (record (least (arith_row o)) { w = w; reg = regs.R q; rm = register r }) (q % 8) s refl (itself o _)
    (record { w = d.wide; reg = below_test q 16 lq; rm = or_register _ (below_test r 16 lr); cond = refl; imm = refl; rep = refl; rex = refl; b = refl }) (record { prefix = no_prefix _ d.half; escape = refl; rm = refl }) (λ next. refl)

pub emits_arith_load : (rows : List Row) (k : ℕ) (o : ArithOp) (w : Width) (r at : ℕ) (m : Mem) → Serves rows forms.Near (insns.Arith o w (register r) (operands.Place (places.Mem m))) k (arith_load_row o) → IsTrue (is_double w) → r < 16 → IsTrue (is_memory m)
    → HasShortSpelling rows (insns.Arith o w (register r) (operands.Place (places.Mem m))) at forms.Near (2 + place_len (places.Mem m))
emits_arith_load rows k o w r at m s hw lr h =
    let d = double w hw in
    short rows _ at k (arith_load_row o) (record (least (arith_load_row o)) { w = w; reg = regs.R r; rm = places.Mem m }) (r % 8) s refl (itself o _)
    (record { w = d.wide; reg = below_test r 16 lr; rm = h; cond = refl; imm = refl; rep = refl; rex = refl; b = refl }) (record { prefix = no_prefix _ d.half; escape = refl; rm = refl }) (λ next. refl)

pub emits_arith_store : (rows : List Row) (k : ℕ) (o : ArithOp) (w : Width) (r at : ℕ) (m : Mem) → Serves rows forms.Near (insns.Arith o w (places.Mem m) (operands.Place (register r))) k (arith_row o) → IsTrue (is_double w) → r < 16 → IsTrue (is_memory m)
    → HasShortSpelling rows (insns.Arith o w (places.Mem m) (operands.Place (register r))) at forms.Near (2 + place_len (places.Mem m))
emits_arith_store rows k o w r at m s hw lr h =
    let d = double w hw in
    short rows _ at k (arith_row o) (record (least (arith_row o)) { w = w; reg = regs.R r; rm = places.Mem m }) (r % 8) s refl (itself o _)
    (record { w = d.wide; reg = below_test r 16 lr; rm = h; cond = refl; imm = refl; rep = refl; rex = refl; b = refl }) (record { prefix = no_prefix _ d.half; escape = refl; rm = refl }) (λ next. refl)

pub emits_arith_byte : (rows : List Row) (k : ℕ) (o : ArithOp) (w : Width) (r n at : ℕ) → Serves rows forms.Near (insns.Arith o w (register r) (operands.Imm n)) k (arith_byte_row o) → IsTrue (is_double w) → r < 16 → IsTrue (fits_8 w n)
    → HasShortSpelling rows (insns.Arith o w (register r) (operands.Imm n)) at forms.Near 4
emits_arith_byte rows k o w r n at s hw lr ln =
    let d = double w hw in
    short rows _ at k (arith_byte_row o) (record (least (arith_byte_row o)) { w = w; rm = register r; imm = n }) (arith_digit o) s refl (itself o _)
    (record { w = d.wide; reg = refl; rm = or_register _ (below_test r 16 lr); cond = refl; imm = ln; rep = refl; rex = refl; b = refl }) (record { prefix = no_prefix _ d.half; escape = refl; rm = refl }) (λ next. refl)

pub emits_arith_imm : (rows : List Row) (k : ℕ) (o : ArithOp) (w : Width) (r n at : ℕ) (gaps : List ℕ) → ServesBut rows forms.Near (insns.Arith o w (register r) (operands.Imm n)) k (arith_imm_row o) gaps (arith_byte_row o ∷ [])
    → IsTrue (is_double w) → r < 16 → IsTrue (fits_32 w n) → fits_8 w n ≡ false → HasShortSpelling rows (insns.Arith o w (register r) (operands.Imm n)) at forms.Near 7
emits_arith_imm rows k o w r n at gaps s hw lr ln miss =
    let d = double w hw in
    let x : Insn = insns.Arith o w (register r) (operands.Imm n) in
    let m = ap not (imm_missed (arith_byte_row o) x (record (least (arith_byte_row o)) { w = w; rm = register r; imm = n }) (itself o _) miss) in
    let g : Fields = record (least (arith_imm_row o)) { w = w; rm = register r; imm = n } in
    let l = short_length (arith_imm_row o) g (arith_digit o) (record { prefix = no_prefix _ d.half; escape = refl; rm = refl }) in
    spelled_within rows x at forms.Near k (arith_imm_row o) g 7 (serves_when rows forms.Near x k (arith_imm_row o) gaps (arith_byte_row o ∷ []) s (and_both _ _ m refl)) refl (itself o _)
    (record { w = d.wide; reg = refl; rm = or_register _ (below_test r 16 lr); cond = refl; imm = d.imm n ln; rep = refl; rex = refl; b = refl }) (seven _ _ l d.four) (λ next. refl)
  where
    seven : (n k : ℕ) → n ≤ 2 + k + 1 → k ≡ 4 → n ≤ 7
    seven n k l e = omega arith

pub emits_shr_once : (rows : List Row) (k : ℕ) (w : Width) (r at : ℕ) → Serves rows forms.Near (insns.Shift shifts.Shr w (register r) (counts.Imm 1)) k shr_once_row → IsTrue (is_double w) → r < 16
    → HasShortSpelling rows (insns.Shift shifts.Shr w (register r) (counts.Imm 1)) at forms.Near 3
emits_shr_once rows k w r at s hw lr =
    let d = double w hw in
    short rows _ at k shr_once_row (record (least shr_once_row) { w = w; rm = register r }) 5 s refl refl
    (record { w = d.wide; reg = refl; rm = or_register _ (below_test r 16 lr); cond = refl; imm = refl; rep = refl; rex = refl; b = refl }) (record { prefix = no_prefix _ d.half; escape = refl; rm = refl }) (λ next. refl)

-- a row of the count 1 doesn't shift by another
count_missed : (q : Row) (g : Fields) (b : Bool) → b ≡ false → not (is_some (option_and_then (if_can q) (if b then Some g else None))) ≡ true
count_missed q g b e = ap (λ k. not (is_some (option_and_then (if_can q) (if k then Some g else None)))) e

pub emits_shr : (rows : List Row) (k : ℕ) (w : Width) (r n at : ℕ) (gaps : List ℕ) → ServesBut rows forms.Near (insns.Shift shifts.Shr w (register r) (counts.Imm n)) k shr_row gaps (shr_once_byte_row ∷ shr_once_row ∷ [])
    → IsTrue (is_double w) → r < 16 → n < 2 ^ 8 → n ≢ 1 → HasShortSpelling rows (insns.Shift shifts.Shr w (register r) (counts.Imm n)) at forms.Near 4
emits_shr rows k w r n at gaps s hw lr ln other =
    let d = double w hw in
    let x : Insn = insns.Shift shifts.Shr w (register r) (counts.Imm n) in
    let f : Fields = record (least shr_once_row) { w = w; rm = register r } in
    let e = unequal_test n 1 other in
    let miss = and_both _ _ (count_missed shr_once_byte_row f (n == 1) e) (and_both _ _ (count_missed shr_once_row f (n == 1) e) refl) in
    short rows x at k shr_row (record (least shr_row) { w = w; rm = register r; imm = n }) 5 (serves_when rows forms.Near x k shr_row gaps (shr_once_byte_row ∷ shr_once_row ∷ []) s miss) refl refl
    (record { w = d.wide; reg = refl; rm = or_register _ (below_test r 16 lr); cond = refl; imm = below_test n (2 ^ 8) ln; rep = refl; rex = refl; b = refl }) (record { prefix = no_prefix _ d.half; escape = refl; rm = refl }) (λ next. refl)

pub emits_jmp_ind : (rows : List Row) (k at : ℕ) (m : Mem) → Serves rows forms.Near (insns.JmpInd (places.Mem m)) k jmp_ind_row → IsTrue (is_memory m) → HasShortSpelling rows (insns.JmpInd (places.Mem m)) at forms.Near (2 + place_len (places.Mem m))
emits_jmp_ind rows k at m s h = short rows _ at k jmp_ind_row (record (least jmp_ind_row) { rm = places.Mem m }) 4 s refl refl
    (record { w = refl; reg = refl; rm = h; cond = refl; imm = refl; rep = refl; rex = refl; b = refl }) (record { prefix = refl; escape = refl; rm = refl }) (λ next. refl)
