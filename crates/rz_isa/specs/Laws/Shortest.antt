use Rattle.std.proofs.Common.{ℕ, ℤ, zero, suc, ◌≡◌, ◌≢◌, ◌+◌, ◌*◌, ◌/◌, ◌%◌, ◌^◌, ◌<◌, ◌≤◌, ◌==◌, refl, ap, sym, ◌∙◌, subst, arith, List, [], ◌∷◌, ◌++◌, length, Bool, true, false, not, ◌&&◌, ◌||◌, ◌⊎◌, inl, inr, Option, Some, None}
use Rattle.std.specs.Prelude.{nat_lt, is_some, if◌then◌else◌}
use Rattle.std.proofs.lemmas.Bool.{cases_Bool}
use Rattle.std.proofs.lemmas.Bool.Decides.{nat_tests}
use Rattle.std.proofs.lemmas.Grind.{common_steps}
use Rattle.std.specs.List.{list_all}
use Rattle.std.specs.Prelude.{slice_get}
use Rattle.rz_isa.specs.Laws.Types.{Width, F3Rule, Size, RmRule, ImmKind, Form, Row, Op, Insn, Place, Fields}
use Rattle.rz_isa.specs.declared.rows.Op.TheVariants as ops
use Rattle.rz_isa.specs.declared.rows.RmRule.TheVariants as rules
use Rattle.rz_isa.specs.declared.instruction.Place.TheVariants as places
use Rattle.rz_num.specs.Bytes.{are_bytes}
use Rattle.rz_isa.specs.Number.{signed}
use Rattle.rz_isa.specs.Spelling.{Parts, Fits, bit_w, bytes_of, escape, imm_len, width_at, is_allowed, one_repeat, times, is_met, f3_demand, width_of, disp_len, rm_len, second, rm_fits, rex_bytes, bit_b}
use Rattle.rz_isa.specs.Fields.{repeat_in, rep_of, base_of, sib_mem, base_mem, behind_one, place_of, rm_place, rm_width, fields}
use Rattle.rz_isa.specs.Having.{is_half, code_of, rex_needed, needs_rex}
use Rattle.rz_isa.specs.Finding.{least_width, least_place, least, found}
use Rattle.rz_isa.specs.Canonical.{repeat_prefix, prefixes_for, imm_value, parts_for, length_for, mode_of, disp_bytes, place_bytes, reg_bits, rm_bytes, reaches, same_form, Chosen, chosen_by, spelled_at}
use Rattle.rz_isa.specs.Emitted.{place_len}
use Rattle.rz_isa.specs.Spells.{RowSpells, next_address}
use Rattle.rz_isa.specs.Table.{IsCanonicalRow, CanonicalShortest}
use Rattle.rz_isa.specs.Regular.{imm_suits, is_regular}
use Rattle.rz_isa.specs.Laws.Again.{Lesser, rm_lesser}
use Rattle.rz_isa.specs.Laws.Choice.{canonical_of_first, one_only, chosen_first, length_is}
use Rattle.rz_isa.specs.Laws.Complete.{none_needed, fields_had}
use Rattle.rz_isa.specs.Laws.Exclusion.{list_all_get}
use Rattle.rz_isa.specs.Laws.Inverse.{regular_of, found_again}
use Rattle.rz_isa.specs.Laws.Lesser.{needs_kept}
use Rattle.rz_isa.specs.Laws.Read.{little_length}
use Rattle.rz_isa.specs.Laws.Tests.{if_true, if_false, none_some, some_same, through, and_both}
use Rattle.rz_isa.specs.Laws.Whole.{length_of, spelled_bytes}

-- ---- prefixes

prefix_len : (a : Bool) (b : ℕ) → length (prefixes_for a b) ≡ (if a then 1 else 0) + (if b == 0 then 0 else 1)
prefix_len a b = grind (arith, nat_tests)

times_room : (ps : List ℕ) → times 0x66 ps + times 0xf2 ps + times 0xf3 ps ≤ length ps
times_room [] = omega arith
times_room (b ∷ ps) = grind (arith, nat_tests, common_steps, times_room ps)

half_stands : (c : Size) (w n : ℕ) → (if is_half (width_of c w n) then 1 else 0) ≤ n
half_stands c w n = grind (arith, nat_tests)

repeat_room : (r : F3Rule) (ps : List ℕ) (rep : ℕ) → is_met (f3_demand r) (times 0xf3 ps) ≡ true → (rep ≡ rep_of r (repeat_in ps)) ⊎ (rep ≡ 0) → (if repeat_prefix r rep == 0 then 0 else 1) ≤ times 0xf2 ps + times 0xf3 ps
repeat_room r ps rep h1 h2 = grind (arith, nat_tests)

-- ---- REX

rex_room : (a : Bool) (n : ℕ) (rex : Option ℕ) → (rex ≡ None → a ≡ false) → length (rex_bytes (if a then Some n else None)) ≤ length (rex_bytes rex)
rex_room a n None h = (let e = h refl in grind arith)
rex_room true n (Some b) h = omega arith
rex_room false n (Some b) h = omega arith

-- ---- a displacement

disp_room : (low : ℕ) (bs : List ℕ) → are_bytes bs ≡ true → (length bs ≡ 0 → low ≢ 5) → (length bs ≡ 0) ⊎ ((length bs ≡ 1) ⊎ (length bs ≡ 4)) → length (disp_bytes (mode_of low (signed bs)) (signed bs)) ≤ length bs
disp_room low [] h n l = grind (arith, nat_tests)
disp_room low (a ∷ []) h n l = grind (arith, nat_tests)
disp_room low (a ∷ b ∷ bs) h n l = grind (arith, nat_tests)

-- ---- ModRM, SIB and displacement

lens : (mode low : ℕ) → (disp_len mode low ≡ 0) ⊎ ((disp_len mode low ≡ 1) ⊎ (disp_len mode low ≡ 4))
lens mode low = elim (cases_Bool (mode == 1)) [
  | inl y ↦ inr (inl (grind (arith, nat_tests)))
  | inr n ↦ elim (cases_Bool (mode == 2)) [
    | inl y ↦ inr (inr (grind (arith, nat_tests)))
    | inr k ↦ elim (cases_Bool (mode == 0 && low == 5)) [ inl y ↦ inr (inr (grind (arith, nat_tests))) | inr z ↦ inl (grind (arith, nat_tests)) ]
  ]
]

no_five : (mode low : ℕ) → mode < 3 → (mode == 0 && low == 5) ≡ false → disp_len mode low ≡ 0 → low ≢ 5
no_five mode low lt n e five = grind (arith, nat_tests)

disp_fits : (mode low : ℕ) (bs : List ℕ) → mode < 3 → (mode == 0 && low == 5) ≡ false → are_bytes bs ≡ true → length bs ≡ disp_len mode low → length (disp_bytes (mode_of low (signed bs)) (signed bs)) ≤ length bs
disp_fits mode low bs lt n h len = disp_room low bs h (λ z. no_five mode low lt n (sym len ∙ z)) (subst (λ k. (k ≡ 0) ⊎ ((k ≡ 1) ⊎ (k ≡ 4))) (sym len) (lens mode low))

base_len : (k s : ℕ) (index : Option ℕ) (z : ℤ) → place_len (places.Mem (record { base = Some k; index = index; scale = s; disp = z })) ≤ 2 + length (disp_bytes (mode_of (k % 8) z) z)
base_len k s index z = grind (arith, nat_tests)

plain_len : (k : ℕ) (z : ℤ) → (k % 8 == 4) ≡ false → place_len (places.Mem (record { base = Some k; index = None; scale = 1; disp = z })) ≡ 1 + length (disp_bytes (mode_of (k % 8) z) z)
plain_len k z n = grind (arith, nat_tests)

none_len : (s : ℕ) (index : Option ℕ) (z : ℤ) → place_len (places.Mem (record { base = None; index = index; scale = s; disp = z })) ≡ 6
none_len s index z = refl

low_again : (low b : ℕ) → low < 8 → (low + 8 * b) % 8 ≡ low
low_again low b lt = omega arith

base_room : (mode low b s : ℕ) (index : Option ℕ) (disp : List ℕ) → mode < 3 → low < 8 → are_bytes disp ≡ true → length disp ≡ disp_len mode low
    → place_len (places.Mem (record { base = base_of mode low b; index = index; scale = s; disp = signed disp })) ≤ 2 + length disp
base_room mode low b s index disp lm ll h len = elim (cases_Bool (mode == 0 && low == 5)) [
  | inl y ↦
      (let four : disp_len mode low ≡ 4 = grind (arith, nat_tests) in
      let e : place_len (places.Mem (record { base = base_of mode low b; index = index; scale = s; disp = signed disp })) ≡ 6 = ap (λ k. place_len (places.Mem (record { base = if k then None else Some (low + 8 * b); index = index; scale = s; disp = signed disp }))) y in
      omega arith)
  | inr n ↦
      (let k = low + 8 * b in
      let e : place_len (places.Mem (record { base = base_of mode low b; index = index; scale = s; disp = signed disp })) ≡ place_len (places.Mem (record { base = Some k; index = index; scale = s; disp = signed disp }))
      = ap (λ t. place_len (places.Mem (record { base = if t then None else Some k; index = index; scale = s; disp = signed disp }))) n in
      let l = base_len k s index (signed disp) in
      let m = ap (λ t. length (disp_bytes (mode_of t (signed disp)) (signed disp))) (low_again low b ll) in
      let d = disp_fits mode low disp lm n h len in
      omega arith)
]

-- without a SIB
lone_room : (mode low b : ℕ) (disp : List ℕ) → mode < 3 → low < 8 → (low == 4) ≡ false → (mode == 0 && low == 5) ≡ false → are_bytes disp ≡ true → length disp ≡ disp_len mode low
    → place_len (places.Mem (record { base = Some (low + 8 * b); index = None; scale = 1; disp = signed disp })) ≤ 1 + length disp
lone_room mode low b disp lm ll n4 n5 h len =
    let k = low + 8 * b in
    let l = plain_len k (signed disp) (ap (λ t. t == 4) (low_again low b ll) ∙ n4) in
    let m = ap (λ t. length (disp_bytes (mode_of t (signed disp)) (signed disp))) (low_again low b ll) in
    let d = disp_fits mode low disp lm n5 h len in
    omega arith

behind_are : (bs : List ℕ) → are_bytes bs ≡ true → are_bytes (behind_one bs) ≡ true
behind_are bs h1 = grind (arith, nat_tests)

behind_len : (bs : List ℕ) (n : ℕ) → 1 + length bs ≡ 2 + n → length (behind_one bs) ≡ n
behind_len [] n e = absurd (omega arith)
behind_len (b ∷ bs) n e = omega arith

mode_low : (m : ℕ) → m < 256 → (m / 64 == 3) ≡ false → m / 64 < 3
mode_low m lt n = grind (arith, nat_tests)

place_room : (v : Width) (rex : Option ℕ) (next m : ℕ) (rest : List ℕ) → m < 256 → are_bytes rest ≡ true → 1 + length rest ≡ rm_len m (second (m ∷ rest)) → place_len (place_of v rex next (m ∷ rest)) ≤ 1 + length rest
place_room v rex next m rest lt h len = elim (cases_Bool (m / 64 == 3)) [
  | inl y ↦ (let e : place_len (place_of v rex next (m ∷ rest)) ≡ 1 = ap place_len (if_true (m / 64 == 3) _ _ y) in omega arith)
  | inr n ↦ elim (cases_Bool (m % 8 == 4)) [
    | inl y ↦
        (let e : place_len (place_of v rex next (m ∷ rest)) ≡ place_len (places.Mem (sib_mem (m / 64) (second (m ∷ rest)) rex (behind_one rest))) = ap place_len (if_false (m / 64 == 3) _ _ n ∙ if_true (m % 8 == 4) _ _ y) in
        let l : 1 + length rest ≡ 2 + disp_len (m / 64) (second (m ∷ rest) % 8) = len ∙ (if_false (m / 64 == 3) _ _ n ∙ if_true (m % 8 == 4) _ _ y) in
        let sib = second (m ∷ rest) in
        let b = behind_len rest (disp_len (m / 64) (sib % 8)) l in
        let r = base_room (m / 64) (sib % 8) (bit_b rex) (sib_mem (m / 64) sib rex (behind_one rest)).scale (sib_mem (m / 64) sib rex (behind_one rest)).index (behind_one rest) (mode_low m lt n) (omega arith) (behind_are rest h) b in
        omega arith)
    | inr k ↦
        (let e = if_false (m / 64 == 3) _ _ n ∙ if_false (m % 8 == 4) _ _ k in
        let l : 1 + length rest ≡ 1 + disp_len (m / 64) (m % 8) = len ∙ (if_false (m / 64 == 3) _ _ n ∙ if_false (m % 8 == 4) _ _ k) in
        elim (cases_Bool (m / 64 == 0 && m % 8 == 5)) [
          | inl y ↦
              (let a : place_len (place_of v rex next (m ∷ rest)) ≡ 5 = ap place_len (e ∙ if_true (m / 64 == 0 && m % 8 == 5) _ _ y) in
              let four : disp_len (m / 64) (m % 8) ≡ 4 = grind (arith, nat_tests) in
              omega arith)
          | inr z ↦
              (let a : place_len (place_of v rex next (m ∷ rest)) ≡ place_len (places.Mem (base_mem (m % 8) rex rest)) = ap place_len (e ∙ if_false (m / 64 == 0 && m % 8 == 5) _ _ z) in
              let r = lone_room (m / 64) (m % 8) (bit_b rex) rest (mode_low m lt n) (omega arith) k z h (omega arith) in
              omega arith)
        ])
  ]
]

place_len_is : (reg : ℕ) (p : Place) → length (place_bytes reg 0 p) ≡ place_len p
place_len_is reg p = grind (arith, nat_tests)

least_len : (r : Option RmRule) → place_len (least_place r) ≡ 1
least_len r = grind (arith, nat_tests)

named_room : (r : Option RmRule) (reg : ℕ) (v : Width) (rex : Option ℕ) (next m : ℕ) (rest : List ℕ) (g : Place) → m < 256 → are_bytes rest ≡ true → 1 + length rest ≡ rm_len m (second (m ∷ rest))
    → (g ≡ place_of v rex next (m ∷ rest)) ⊎ (g ≡ least_place r) → length (place_bytes reg 0 g) ≤ length (m ∷ rest)
named_room r reg v rex next m rest g lt h len (inl e) = (let a = place_len_is reg g in let b = ap place_len e in let c = place_room v rex next m rest lt h len in omega arith)
named_room r reg v rex next m rest g lt h len (inr e) = (let a = place_len_is reg g in let b = ap place_len e in let c = least_len r in omega arith)

fits_len : (rule : RmRule) (digit : Option ℕ) (m : ℕ) (rest : List ℕ) → rm_fits (Some rule) digit (m ∷ rest) ≡ true → 1 + length rest ≡ rm_len m (second (m ∷ rest))
fits_len rule digit m rest h = grind (arith, nat_tests)

first_byte : (m : ℕ) (rest : List ℕ) → are_bytes (m ∷ rest) ≡ true → m < 256
first_byte m rest h = grind (arith, nat_tests)

rest_bytes : (m : ℕ) (rest : List ℕ) → are_bytes (m ∷ rest) ≡ true → are_bytes rest ≡ true
rest_bytes m rest h = grind (arith, nat_tests)

pub rm_room : (rm : Option RmRule) (digit : Option ℕ) (code : ℕ) (v : Width) (rex : Option ℕ) (next : ℕ) (bs : List ℕ) (g : Place) → rm_fits rm digit bs ≡ true → are_bytes bs ≡ true
    → (g ≡ rm_place rm v rex next bs) ⊎ (g ≡ least_place rm) → length (rm_bytes rm digit code 0 g) ≤ length bs
rm_room None digit code v rex next bs g fit h which = omega arith
rm_room (Some rule) digit code v rex next [] g fit h which = absurd (cc)
rm_room (Some (rules.Fixed b)) digit code v rex next (m ∷ rest) g fit h which = omega arith
rm_room (Some rules.Any) digit code v rex next (m ∷ rest) g fit h which = named_room (Some rules.Any) (reg_bits digit code) v rex next m rest g (first_byte m rest h) (rest_bytes m rest h) (fits_len rules.Any digit m rest fit) which
rm_room (Some rules.MemoryOnly) digit code v rex next (m ∷ rest) g fit h which = named_room (Some rules.MemoryOnly) (reg_bits digit code) v rex next m rest g (first_byte m rest h) (rest_bytes m rest h) (fits_len rules.MemoryOnly digit m rest fit) which
rm_room (Some rules.RegisterOnly) digit code v rex next (m ∷ rest) g fit h which = named_room (Some rules.RegisterOnly) (reg_bits digit code) v rex next m rest g (first_byte m rest h) (rest_bytes m rest h) (fits_len rules.RegisterOnly digit m rest fit) which

-- ---- the whole

sums : (n m a b c d e i j k p q : ℕ) → n ≡ a + (b + (c + (1 + (d + e)))) → m ≡ p + (q + (c + (1 + (i + j)))) → a ≤ p → b ≤ q → d ≤ i → e ≡ k → k ≤ j → n ≤ m
sums n m a b c d e i j k p q en em ha hb hd he hk = omega arith

is_equal : (a b : ℕ) → (a == b) ≡ true → a ≡ b
is_equal a b h = grind (arith, nat_tests)

met_of : (a b c : Bool) → (a && b && c) ≡ true → b ≡ true
met_of a b c h = grind arith

prefix_room : (row : Row) (p : Parts) (w : Width) (rep : ℕ) → Fits row p → (if is_half w then 1 else 0) ≤ times 0x66 p.prefixes → (rep ≡ rep_of row.f3 (repeat_in p.prefixes)) ⊎ (rep ≡ 0)
    → length (prefixes_for (is_half w) (repeat_prefix row.f3 rep)) ≤ length p.prefixes
prefix_room row p w rep fit half which =
    let l = prefix_len (is_half w) (repeat_prefix row.f3 rep) in
    let r = repeat_room row.f3 p.prefixes rep (met_of (is_allowed row p.prefixes) _ (one_repeat p.prefixes) fit.prefixes) which in
    let t = times_room p.prefixes in
    omega arith

shorter : (row : Row) (p : Parts) (next : ℕ) (g : Fields) → Fits row p → are_bytes p.rm ≡ true → (if is_half g.w then 1 else 0) ≤ times 0x66 p.prefixes → imm_len row.imm g.w ≤ imm_len row.imm (width_at row p)
    → (needs_rex row g ≡ true → needs_rex row (fields row p next) ≡ true) → (g.rm ≡ (fields row p next).rm) ⊎ (g.rm ≡ least_place row.rm) → (g.rep ≡ (fields row p next).rep) ⊎ (g.rep ≡ 0)
    → length_for row g ≤ length (bytes_of row p)
shorter row p next g fit h half imm rex rm rep =
    sums _ _ _ _ (length (escape row.map)) _ _ _ _ (imm_len row.imm g.w) _ _ (length_of row (parts_for row g 0)) (length_of row p)
    (prefix_room row p g.w g.rep fit half rep)
    (rex_room (needs_rex row g) (0x40 + rex_needed row g) p.rex (λ e. contra _ _ rex (none_needed row p next fit e)))
    (rm_room row.rm row.digit (code_of g.reg) (rm_width row.op (width_at row p)) p.rex next p.rm g.rm fit.rm h rm)
    (little_length (imm_len row.imm g.w) (imm_value row.imm 0 g.imm))
    (subst (λ k. imm_len row.imm g.w ≤ k) (sym (is_equal _ _ fit.imm)) imm)
  where
    contra : (a b : Bool) → (a ≡ true → b ≡ true) → b ≡ false → a ≡ false
    contra true b k n = (let t = k refl in absurd (cc))
    contra false b k n = refl

-- ---- of what is chosen

no_half : (c : Size) → is_half (least_width c) ≡ false
no_half c = grind (arith, nat_tests)

half_room : (op : Op) (row : Row) (g f : Fields) (w n : ℕ) → f.w ≡ width_of row.size w n → Lesser op row g f → (if is_half g.w then 1 else 0) ≤ n
half_room op row g f w n e (inl b) = subst (λ k. (if is_half k then 1 else 0) ≤ n) (sym (b.w ∙ e)) (half_stands row.size w n)
half_room op row g f w n e (inr l) = subst (λ k. (if k then 1 else 0) ≤ n) (sym (ap (λ (k : Fields). is_half k.w) l.0 ∙ no_half row.size)) (omega arith)

no_nop : (op : Op) (k : Option ImmKind) → imm_suits op k ≡ true → op ≡ ops.Nop → k ≡ None
no_nop op None h e = refl
no_nop op (Some k) h e = (let t : imm_suits ops.Nop (Some k) ≡ true = ap (λ o. imm_suits o (Some k)) (sym e) ∙ h in absurd (cc))

imm_room : (row : Row) (g f : Fields) → imm_suits row.op row.imm ≡ true → Lesser row.op row g f → imm_len row.imm g.w ≤ imm_len row.imm f.w
imm_room row g f h (inl b) = (let e = ap (imm_len row.imm) b.w in omega arith)
imm_room row g f h (inr l) = subst (λ k. imm_len k g.w ≤ imm_len k f.w) (sym (no_nop row.op row.imm h l.1)) (omega arith)

rep_lesser : (op : Op) (row : Row) (g f : Fields) → Lesser op row g f → (g.rep ≡ f.rep) ⊎ (g.rep ≡ 0)
rep_lesser op row g f (inl b) = b.rep
rep_lesser op row g f (inr l) = inr (ap (λ (k : Fields). k.rep) l.0)

chosen_shortest : (x : Insn) (at : ℕ) (c : Chosen) (s t : List ℕ) → is_regular c.row ≡ true → found c.row x ≡ Some c.fields → spelled_at at (Some c) ≡ Some s → RowSpells c.row t at x → length s ≤ length t
chosen_shortest x at c s t regular is_found e h =
    let next = (at + length_for c.row c.fields) % 2 ^ 64 in
    let u = through (reaches c.row c.fields next) (bytes_of c.row (parts_for c.row c.fields next)) s e in
    let after = next_address at t in
    let f = fields c.row h.parts after in
    let fits = h.spelled.fits in
    let b = spelled_bytes c.row h.parts t h.spelled in
    let a = found_again c.row f regular (fields_had c.row h.parts after regular fits b.0 b.1) in
    let same : a.g ≡ c.fields = some_same a.g c.fields (sym a.found ∙ (ap (found c.row) (sym h.names) ∙ is_found)) in
    let l = shorter c.row h.parts after a.g fits b.0
    (half_room c.row.op c.row a.g f (bit_w h.parts.rex) (times 0x66 h.parts.prefixes) refl a.below)
    (imm_room c.row a.g f (regular_of c.row regular).imm a.below)
    (needs_kept c.row.op c.row a.g f a.below)
    (rm_lesser c.row.op c.row a.g f a.below)
    (rep_lesser c.row.op c.row a.g f a.below) in
    let of_s : length s ≡ length_for c.row c.fields = sym (ap length u.1) ∙ length_is c.row c.fields next 0 in
    let of_g : length_for c.row a.g ≡ length_for c.row c.fields = ap (length_for c.row) same in
    let of_t = ap length h.spelled.bytes in
    omega arith

by_chosen : (rows : List Row) (form : Form) (x : Insn) (at : ℕ) (s t : List ℕ) (n : ℕ) (row : Row) → list_all is_regular rows ≡ true → (o : Option Chosen) → chosen_by (λ r. found r x) rows form ≡ o → spelled_at at o ≡ Some s
    → IsCanonicalRow rows form x n → slice_get rows n ≡ Some row → RowSpells row t at x → length s ≤ length t
by_chosen rows form x at s t n row regular None eo e canonical at_n h = absurd (none_some s e)
by_chosen rows form x at s t n row regular (Some c) eo e canonical at_n h =
    let f = chosen_first (λ r. found r x) rows form c eo in
    let of_c = canonical_of_first rows form x regular (record { n = f.n; row = c.row; in_table = f.in_table; holds = and_both (same_form c.row.form form) (is_some (found c.row x)) f.same (ap is_some f.is_found); none_before = f.none_before }) in
    let same_n : f.n ≡ n = one_only rows form x n f.n canonical of_c in
    let same_row : row ≡ c.row = some_same row c.row (sym at_n ∙ (ap (slice_get rows) (sym same_n) ∙ f.in_table)) in
    chosen_shortest x at c s t (list_all_get is_regular rows f.n c.row regular f.in_table) f.is_found e (subst (λ k. RowSpells k t at x) same_row h)

pub canonical_shortest : (rows : List Row) → list_all is_regular rows ≡ true → CanonicalShortest rows
canonical_shortest rows regular x at form s t n row e canonical at_n h = by_chosen rows form x at s t n row regular (chosen_by (λ r. found r x) rows form) refl e canonical at_n h
