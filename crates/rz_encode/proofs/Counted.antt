use Rattle.std.proofs.Common.{ℕ, ℤ, ◌≡◌, ◌+◌, ◌*◌, ◌%◌, ◌^◌, ◌≤◌, ◌<◌, ◌==◌, List, [], ◌∷◌, ◌++◌, length, refl, ap, ◌∙◌, arith, Bool, true, false, Option, Some, None}
use Rattle.std.specs.Prelude.{if◌then◌else◌, nat_le, not}
use Rattle.std.proofs.Common.{length-append}
use Rattle.std.proofs.lemmas.Grind.{common_steps}
use Rattle.std.proofs.lemmas.Bool.Decides.{nat_tests}
use Rattle.rz_isa.specs.declared.rows.Row.{Row}
use Rattle.rz_isa.specs.declared.rows.OpMap.{OpMap}
use Rattle.rz_isa.specs.declared.rows.OpMap.TheVariants as maps
use Rattle.rz_isa.specs.declared.rows.RmRule.{RmRule}
use Rattle.rz_isa.specs.declared.rows.RmRule.TheVariants as rules
use Rattle.rz_isa.specs.declared.instruction.Place.{Place}
use Rattle.rz_isa.specs.declared.instruction.Place.TheVariants as places
use Rattle.rz_isa.specs.declared.spelled.Fields.{Fields}
use Rattle.rz_isa.specs.Spelling.{bytes_of, rex_bytes, escape, imm_len}
use Rattle.rz_isa.specs.Regular.{is_regular, digit_small}
use Rattle.rz_isa.specs.Having.{can_have, is_half, code_of, opcode_of, needs_rex, rex_needed}
use Rattle.rz_isa.specs.Canonical.{little, low_32, repeat_prefix, prefixes_for, rex_for, mode_of, disp_bytes, sib_for, plain_or_sib, memory_bytes, place_bytes, reg_bits, rm_bytes, imm_value, parts_for, reaches}
use Rattle.rz_isa.specs.Laws.Again.{had_of}
use Rattle.rz_isa.specs.Laws.Read.{little_length}
use Rattle.rz_isa.specs.Laws.Inverse.{regular_of}
use Rattle.rz_isa.specs.Laws.Whole.{opcode_read, length_of, spelled_for}
use Rattle.rz_encode.specs.Calls.Length.{one_if, escape_count, disp_count, head_count, memory_count, place_count, rm_count, spelled_count}
use Rattle.rz_encode.proofs.Written.{Pieces, pieces_same}

-- ---- what is known of a regular row and its fields

pub opcode_byte : (row : Row) (f : Fields) → is_regular row ≡ true → can_have row f ≡ true → opcode_of row f < 256
opcode_byte row f regular had = (opcode_read row f (regular_of row regular) (had_of row f had)).byte

pub digit_of : (row : Row) → is_regular row ≡ true → digit_small row.digit ≡ true
digit_of row regular = (regular_of row regular).digit

pieces_length : (a p r s m i : List ℕ) (o : ℕ) → length ((a ++ p) ++ (r ++ (s ++ (o ∷ (m ++ i))))) ≡ length a + (length p + (length r + (length s + (1 + (length m + length i)))))
pieces_length a p r s m i o = grind (arith, length-append, common_steps)

short_is : (n : ℕ) (s : List ℕ) → nat_le (length s) 15 ≡ true → length s ≤ 15
short_is n s h = grind (arith, nat_tests)

-- the pieces have room in 15 bytes
pub room : (row : Row) (f : Fields) (next : ℕ) (half rep rex esc : Option ℕ) (o code n v : ℕ) → is_regular row ≡ true → can_have row f ≡ true → reaches row f next ≡ true → next < 2 ^ 64
    → Pieces row f next half rep rex esc o code n v
    → length (rex_bytes half) + (length (rex_bytes rep) + (length (rex_bytes rex) + (length (rex_bytes esc) + (1 + (length (rm_bytes row.rm row.digit code next f.rm) + n))))) ≤ 15
room row f next half rep rex esc o code n v regular had reach low e =
    let l = pieces_length (rex_bytes half) (rex_bytes rep) (rex_bytes rex) (rex_bytes esc) (rm_bytes row.rm row.digit code next f.rm) (little n v) o in
    let s = short_is 0 (bytes_of row (parts_for row f next)) (spelled_for row f next regular had low reach).short in
    let k = ap length (pieces_same row f next half rep rex esc o code n v e) in
    let i = little_length n v in
    omega arith

-- ---- how many bytes

through_if : {X : Type 0} {Y : Type 0} (g : X → Y) (t : Bool) (x y : X) → g (if t then x else y) ≡ (if t then g x else g y)
through_if g true x y = refl
through_if g false x y = refl

prefixes_count : (a : Bool) (rep : ℕ) → length (prefixes_for a rep) ≡ one_if a + one_if (not (rep == 0))
prefixes_count a rep = length-append (if a then 0x66 ∷ [] else []) (if rep == 0 then [] else rep ∷ []) ∙ sums (first a) (second (rep == 0))
  where
    first : (b : Bool) → length {A = ℕ} (if b then 0x66 ∷ [] else []) ≡ one_if b
    first true = refl
    first false = refl

    second : (b : Bool) → length {A = ℕ} (if b then [] else rep ∷ []) ≡ one_if (not b)
    second true = refl
    second false = refl

    sums : {m n p q : ℕ} → m ≡ n → p ≡ q → m + p ≡ n + q
    sums e f = λ i. e i + f i

rex_count : (row : Row) (f : Fields) → length (rex_bytes (rex_for row f)) ≡ one_if (needs_rex row f)
rex_count row f = through_if (λ (k : Option ℕ). length (rex_bytes k)) (needs_rex row f) (Some (0x40 + rex_needed row f)) None

escapes : (m : OpMap) → length (escape m) ≡ escape_count m
escapes maps.One = refl
escapes maps.Two = refl

disps : (mode : ℕ) (d : ℤ) → length (disp_bytes mode d) ≡ disp_count mode
disps mode d =
    through_if (λ (k : List ℕ). length k) (mode == 0) [] (if mode == 1 then little 1 (low_32 d) else little 4 (low_32 d))
    ∙ ap (λ k. if mode == 0 then 0 else k) (through_if (λ (k : List ℕ). length k) (mode == 1) (little 1 (low_32 d)) (little 4 (low_32 d)))

more_if : (t : Bool) (n : ℕ) → (if t then 1 + (1 + n) else 1 + n) ≡ (if t then 2 else 1) + n
more_if true n = omega arith
more_if false n = omega arith

heads : (reg low : ℕ) (index : Option ℕ) (scale : ℕ) (d : List ℕ) (mode : ℕ) → length (plain_or_sib reg low index scale d mode) ≡ head_count low index + length d
heads reg low None scale d mode =
    through_if (λ (k : List ℕ). length k) (low == 4) ((64 * mode + 8 * reg + 4) ∷ (sib_for low None scale ∷ d)) ((64 * mode + 8 * reg + low) ∷ d) ∙ more low d
  where
    more : (n : ℕ) (d : List ℕ) → (if n == 4 then length (0 ∷ (0 ∷ d)) else length (0 ∷ d)) ≡ (if n == 4 then 2 else 1) + length d
    more n d = grind arith
heads reg low (Some i) scale d mode = omega arith

memories : (reg : ℕ) (base index : Option ℕ) (scale : ℕ) (d : ℤ) → length (memory_bytes reg base index scale d) ≡ memory_count base index d
memories reg None index scale d = refl
memories reg (Some b) index scale d =
    heads reg (b % 8) index scale (disp_bytes (mode_of (b % 8) d) d) (mode_of (b % 8) d) ∙ ap (λ k. head_count (b % 8) index + k) (disps (mode_of (b % 8) d) d)

placed : (reg next : ℕ) (p : Place) → length (place_bytes reg next p) ≡ place_count p
placed reg next (places.Reg r) = refl
placed reg next (places.Mem m) = memories reg m.base m.index m.scale m.disp
placed reg next (places.At a) = refl

rms : (rule : Option RmRule) (digit : Option ℕ) (code next : ℕ) (p : Place) → length (rm_bytes rule digit code next p) ≡ rm_count rule p
rms None digit code next p = refl
rms (Some (rules.Fixed b)) digit code next p = refl
rms (Some rules.Any) digit code next p = placed (reg_bits digit code) next p
rms (Some rules.MemoryOnly) digit code next p = placed (reg_bits digit code) next p
rms (Some rules.RegisterOnly) digit code next p = placed (reg_bits digit code) next p

-- the same at every address
pub count_is : (row : Row) (f : Fields) (next : ℕ) → length (bytes_of row (parts_for row f next)) ≡ spelled_count row f
count_is row f next =
    let p = parts_for row f next in
    let a = prefixes_count (is_half f.w) (repeat_prefix row.f3 f.rep) in
    let b = rex_count row f in
    let c = escapes row.map in
    let d = rms row.rm row.digit (code_of f.reg) next f.rm in
    let e = little_length (imm_len row.imm f.w) (imm_value row.imm next f.imm) in
    sums (length p.prefixes) (length (rex_bytes p.rex)) (length (escape row.map)) (length p.rm) (length p.imm) (one_if (is_half f.w)) (one_if (not (repeat_prefix row.f3 f.rep == 0))) (one_if (needs_rex row f)) (escape_count row.map) (rm_count row.rm f.rm) (imm_len row.imm f.w) (length (bytes_of row p)) (length_of row p) a b c d e
  where
    sums : (a b c d e h r x m k i n : ℕ) → n ≡ a + (b + (c + (1 + (d + e)))) → a ≡ h + r → b ≡ x → c ≡ m → d ≡ k → e ≡ i → n ≡ h + (r + (x + (m + (1 + (k + i)))))
    sums a b c d e h r x m k i n en ea eb ec ed ee = omega arith
