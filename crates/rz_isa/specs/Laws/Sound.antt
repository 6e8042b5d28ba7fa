use Rattle.std.proofs.Common.{ℕ, suc, ℤ, ◌≡◌, ◌≢◌, ◌+◌, ◌*◌, ◌/◌, ◌%◌, ◌^◌, ◌<◌, ◌==◌, refl, ap, sym, ◌∙◌, subst, arith, List, [], ◌∷◌, length, Bool, true, false, ◌&&◌, Option, Some, None}
use Rattle.std.specs.Prelude.{is_some, if◌then◌else◌}
use Rattle.std.proofs.lemmas.Bool.Decides.{nat_tests}
use Rattle.rz_isa.specs.Laws.Types.{Width, ImmKind, Reg, Place}
use Rattle.rz_isa.specs.declared.instruction.Place.TheVariants as places
use Rattle.rz_num.specs.Bytes.{are_bytes}
use Rattle.rz_isa.specs.Number.{signed}
use Rattle.rz_isa.specs.Spelling.{bit_x, bit_b, disp_len, rm_len, second, imm_len}
use Rattle.rz_isa.specs.Fields.{reg_of, index_of, base_of, sib_mem, base_mem, place_of, imm_of}
use Rattle.rz_isa.specs.Having.{code_of, is_index, is_number, is_disp, has_imm, is_extended, number_in}
use Rattle.rz_isa.specs.Canonical.{little, low_32, offset, mode_of, disp_bytes, scale_bits, index_bits, sib_for, memory_bytes, imm_value, imm_reaches}
use Rattle.rz_isa.specs.Laws.Read.{little_bytes, little_length, signed_4, disp_again, mode_small, mode_not}
use Rattle.rz_isa.specs.Laws.Tests.{never, and_both, equal_test, unequal_test, below_test, if_true, if_false, if_both}

-- What is spelled from fields is read as those fields.

-- ---- immediates

pub imm_again : (k : Option ImmKind) (w : Width) (next n : ℕ) → next < 2 ^ 64 → has_imm k w n ≡ true → imm_reaches k next n ≡ true
    → imm_of k w next (little (imm_len k w) (imm_value k next n)) ≡ n
imm_again k w next n h1 h2 h3 = grind (arith, nat_tests)

-- ---- the bits of a byte

pub byte_fields : (a b c : ℕ) → a < 4 → b < 8 → c < 8 → ((64 * a + 8 * b + c) / 64 ≡ a) × ((64 * a + 8 * b + c) / 8 % 8 ≡ b) × ((64 * a + 8 * b + c) % 8 ≡ c) × (64 * a + 8 * b + c < 256)
byte_fields a b c la lb lc = (omega arith, omega arith, omega arith, omega arith)

-- ---- a SIB byte

scale_small : (s : ℕ) → scale_bits s < 4
scale_small s = grind arith

index_small : (o : Option ℕ) → index_bits o < 8
index_small o = grind (arith, nat_tests)

pub record IndexRead (o : Option ℕ) (s x : ℕ) (index : Option ℕ) (scale : ℕ) : Type 0 where
  pub index_same : o ≡ index
  pub scale_same : (if is_some o then 2 ^ s else 1) ≡ scale

index_again : (index : Option ℕ) (scale x : ℕ) → is_index index scale ≡ true → x ≡ number_in index / 8 → IndexRead (index_of (index_bits index + 8 * x)) (scale_bits scale) x index scale
index_again index scale x h1 h2 = grind (arith, nat_tests)

pub sib_again : (mode low : ℕ) (base index : Option ℕ) (scale : ℕ) (rex : Option ℕ) (disp : List ℕ) (z : ℤ) → low < 8 → base_of mode low (bit_b rex) ≡ base
    → is_index index scale ≡ true → bit_x rex ≡ number_in index / 8 → signed disp ≡ z
    → sib_mem mode (sib_for low index scale) rex disp ≡ record { base = base; index = index; scale = scale; disp = z }
sib_again mode low base index scale rex disp z ll eb hi ex ez =
    let f = byte_fields (scale_bits scale) (index_bits index) low (scale_small scale) (index_small index) ll in
    let b : base_of mode (sib_for low index scale % 8) (bit_b rex) ≡ base = ap (λ k. base_of mode k (bit_b rex)) f.2 ∙ eb in
    let i = index_again index scale (bit_x rex) hi ex in
    let o : index_of (sib_for low index scale / 8 % 8 + 8 * bit_x rex) ≡ index_of (index_bits index + 8 * bit_x rex) = ap (λ k. index_of (k + 8 * bit_x rex)) f.1 in
    let s : (if is_some (index_of (sib_for low index scale / 8 % 8 + 8 * bit_x rex)) then 2 ^ (sib_for low index scale / 64) else 1) ≡ scale =
    ap (λ (k : Option ℕ). if is_some k then 2 ^ (sib_for low index scale / 64) else 1) o ∙ (ap (λ k. if is_some (index_of (index_bits index + 8 * bit_x rex)) then 2 ^ k else 1) f.0 ∙ i.scale_same) in
    let oi = o ∙ i.index_same in
    λ j. record { base = b j; index = oi j; scale = s j; disp = ez j }

-- ---- ModRM bytes of each kind

pub place_sib : (v : Width) (rex : Option ℕ) (next mode reg sib : ℕ) (rest : List ℕ) → mode < 3 → reg < 8 → place_of v rex next ((64 * mode + 8 * reg + 4) ∷ (sib ∷ rest)) ≡ places.Mem (sib_mem mode sib rex rest)
place_sib v rex next mode reg sib rest h1 h2 = grind (arith, nat_tests)

no_absolute : (mode low m n : ℕ) → m ≡ mode → n ≡ low → ((mode ≡ 0) → low ≢ 5) → (m == 0 && n == 5) ≡ false
no_absolute mode low m n h1 h2 h3 = grind (arith, nat_tests)

pub place_plain : (v : Width) (rex : Option ℕ) (next mode reg low : ℕ) (rest : List ℕ) → mode < 3 → reg < 8 → low < 8 → low ≢ 4 → ((mode ≡ 0) → low ≢ 5)
    → place_of v rex next ((64 * mode + 8 * reg + low) ∷ rest) ≡ places.Mem (base_mem low rex rest)
place_plain v rex next mode reg low rest h1 h2 h3 h4 h5 = grind (arith, nat_tests)

-- ---- a place that was spelled

abbrev pub is_reg_place : Place → Bool
is_reg_place (places.Reg r) = true
is_reg_place _ = false

pub record PlaceRead (v : Width) (rex : Option ℕ) (next reg : ℕ) (p : Place) (bs : List ℕ) : Type 0 where
  pub m : ℕ
  pub rest : List ℕ
  pub same : bs ≡ m ∷ rest
  pub field : m / 8 % 8 ≡ reg
  pub register : (m / 64 == 3) ≡ is_reg_place p
  pub len : 1 + length rest ≡ rm_len m (second (m ∷ rest))
  pub place : place_of v rex next (m ∷ rest) ≡ p
  pub bytes : are_bytes (m ∷ rest) ≡ true

pub read_register : (v : Width) (rex : Option ℕ) (next reg : ℕ) (r : Reg) → reg < 8 → bit_b rex ≡ code_of r / 8 → reg_of v rex (code_of r) ≡ r
    → PlaceRead v rex next reg (places.Reg r) ((192 + 8 * reg + code_of r % 8) ∷ [])
read_register v rex next reg r h1 h2 h3 = grind (arith, nat_tests)

pub read_absolute : (v : Width) (rex : Option ℕ) (next reg a : ℕ) → reg < 8 → next < 2 ^ 64 → a < 2 ^ 64 → is_extended (2 ^ 31) (2 ^ 64) (offset next a) ≡ true
    → PlaceRead v rex next reg (places.At a) ((8 * reg + 5) ∷ little 4 (offset next a))
read_absolute v rex next reg a h1 h2 h3 h4 = grind (arith, nat_tests)

disp_bytes_are : (mode : ℕ) (z : ℤ) → are_bytes (disp_bytes mode z) ≡ true
disp_bytes_are mode z = grind (arith, nat_tests)

disp_length : (mode low : ℕ) (z : ℤ) → mode < 3 → ((mode ≡ 0) → low ≢ 5) → length (disp_bytes mode z) ≡ disp_len mode low
disp_length mode low z h1 h2 = grind (arith, nat_tests)

read_plain : (v : Width) (rex : Option ℕ) (next reg b : ℕ) (z : ℤ) → reg < 8 → b < 16 → bit_b rex ≡ b / 8 → b % 8 ≢ 4 → is_disp z ≡ true
    → PlaceRead v rex next reg (places.Mem (record { base = Some b; index = None; scale = 1; disp = z })) ((64 * mode_of (b % 8) z + 8 * reg + b % 8) ∷ disp_bytes (mode_of (b % 8) z) z)
read_plain v rex next reg b z lr lb eb n4 dz =
    let mode = mode_of (b % 8) z in
    let lm = mode_small (b % 8) z in
    let n5 : (mode ≡ 0) → b % 8 ≢ 5 = λ zero_mode five. mode_not z (ap (λ k. mode_of k z) (sym five) ∙ zero_mode) in
    let f = byte_fields mode reg (b % 8) (omega arith) lr (omega arith) in
    let three : ((64 * mode + 8 * reg + b % 8) / 64 == 3) ≡ false = unequal_test _ 3 (λ e. absurd (omega (arith, f.0, e, lm))) in
    let four : ((64 * mode + 8 * reg + b % 8) % 8 == 4) ≡ false = unequal_test _ 4 (λ e. n4 (sym f.2 ∙ e)) in
    let base : b % 8 + 8 * bit_b rex ≡ b = omega arith in
    let d = disp_again (b % 8) z dz in
    let l = disp_length mode (b % 8) z lm n5 in
    record {
      m = 64 * mode + 8 * reg + b % 8;
      rest = disp_bytes mode z;
      same = refl;
      field = f.1;
      register = three;
      len = ap (λ k. 1 + k) l ∙ sym (if_false ((64 * mode + 8 * reg + b % 8) / 64 == 3) 1 _ three ∙ (if_false ((64 * mode + 8 * reg + b % 8) % 8 == 4) _ _ four ∙ (ap (λ k. 1 + disp_len k ((64 * mode + 8 * reg + b % 8) % 8)) f.0 ∙ ap (λ k. 1 + disp_len mode k) f.2)));
      place = place_plain v rex next mode reg (b % 8) (disp_bytes mode z) lm lr (omega arith) n4 n5 ∙ (λ i. places.Mem (record { base = Some (base i); index = None; scale = 1; disp = d i }));
      bytes = and_both _ _ (below_test _ 256 f.3) (disp_bytes_are mode z);
    }

-- with a SIB: its length, and what it names
read_sib : (v : Width) (rex : Option ℕ) (next reg mode low : ℕ) (base index : Option ℕ) (scale : ℕ) (disp : List ℕ) (z : ℤ) → reg < 8 → mode < 3 → low < 8
    → base_of mode low (bit_b rex) ≡ base → is_index index scale ≡ true → bit_x rex ≡ number_in index / 8 → signed disp ≡ z → length disp ≡ disp_len mode low → are_bytes disp ≡ true
    → PlaceRead v rex next reg (places.Mem (record { base = base; index = index; scale = scale; disp = z })) ((64 * mode + 8 * reg + 4) ∷ (sib_for low index scale ∷ disp))
read_sib v rex next reg mode low base index scale disp z lr lm ll eb hi ex ez el bd =
    let f = byte_fields mode reg 4 (omega arith) lr (omega arith) in
    let g = byte_fields (scale_bits scale) (index_bits index) low (scale_small scale) (index_small index) ll in
    let three : ((64 * mode + 8 * reg + 4) / 64 == 3) ≡ false = unequal_test _ 3 (λ e. absurd (omega (arith, f.0, e, lm))) in
    let four : ((64 * mode + 8 * reg + 4) % 8 == 4) ≡ true = equal_test _ 4 f.2 in
    record {
      m = 64 * mode + 8 * reg + 4;
      rest = sib_for low index scale ∷ disp;
      same = refl;
      field = f.1;
      register = three;
      len = two_more (length disp) (disp_len mode low) el ∙ sym (if_false ((64 * mode + 8 * reg + 4) / 64 == 3) 1 _ three ∙ (if_true ((64 * mode + 8 * reg + 4) % 8 == 4) _ _ four ∙ (ap (λ k. 2 + disp_len k (sib_for low index scale % 8)) f.0 ∙ ap (λ k. 2 + disp_len mode k) g.2)));
      place = place_sib v rex next mode reg (sib_for low index scale) disp lm lr ∙ ap places.Mem (sib_again mode low base index scale rex disp z ll eb hi ex ez);
      bytes = and_both _ _ (below_test _ 256 f.3) (and_both _ _ (below_test _ 256 g.3) bd);
    }
  where
    two_more : (a b : ℕ) → a ≡ b → 1 + suc a ≡ 2 + b
    two_more a b e = omega arith

pub read_memory : (v : Width) (rex : Option ℕ) (next reg : ℕ) (base index : Option ℕ) (scale : ℕ) (z : ℤ) → reg < 8 → is_number base ≡ true → is_index index scale ≡ true → is_disp z ≡ true
    → bit_b rex ≡ number_in base / 8 → bit_x rex ≡ number_in index / 8
    → PlaceRead v rex next reg (places.Mem (record { base = base; index = index; scale = scale; disp = z })) (memory_bytes reg base index scale z)
read_memory v rex next reg None index scale z lr hb hi dz eb ex =
    let e : 64 * 0 + 8 * reg + 4 ≡ 8 * reg + 4 = omega arith in
    subst (λ k. PlaceRead v rex next reg (places.Mem (record { base = None; index = index; scale = scale; disp = z })) (k ∷ (sib_for 5 index scale ∷ little 4 (low_32 z)))) e
    (read_sib v rex next reg 0 5 None index scale (little 4 (low_32 z)) z lr (omega arith) (omega arith) refl hi ex (signed_4 z dz) (little_length 4 (low_32 z)) (little_bytes 4 (low_32 z)))
read_memory v rex next reg (Some b) (Some i) scale z lr hb hi dz eb ex =
    let mode = mode_of (b % 8) z in
    let lm = mode_small (b % 8) z in
    let n5 : (mode ≡ 0) → b % 8 ≢ 5 = λ zero_mode five. mode_not z (ap (λ k. mode_of k z) (sym five) ∙ zero_mode) in
    let n : b % 8 + 8 * bit_b rex ≡ b = omega arith in
    let based : base_of mode (b % 8) (bit_b rex) ≡ Some b = if_false (mode == 0 && b % 8 == 5) None _ (no_absolute mode (b % 8) mode (b % 8) refl refl n5) ∙ ap Some n in
    read_sib v rex next reg mode (b % 8) (Some b) (Some i) scale (disp_bytes mode z) z lr lm (omega arith) based hi ex (disp_again (b % 8) z dz) (disp_length mode (b % 8) z lm n5) (disp_bytes_are mode z)
read_memory v rex next reg (Some b) None scale z lr hb hi dz eb ex =
    let mode = mode_of (b % 8) z in
    let lm = mode_small (b % 8) z in
    let n5 : (mode ≡ 0) → b % 8 ≢ 5 = λ zero_mode five. mode_not z (ap (λ k. mode_of k z) (sym five) ∙ zero_mode) in
    let n : b % 8 + 8 * bit_b rex ≡ b = omega arith in
    let based : base_of mode (b % 8) (bit_b rex) ≡ Some b = if_false (mode == 0 && b % 8 == 5) None _ (no_absolute mode (b % 8) mode (b % 8) refl refl n5) ∙ ap Some n in
    let lb : b < 16 = grind (arith, nat_tests) in
    let one : 1 ≡ scale = grind (arith, nat_tests) in
    if_both (λ bs. PlaceRead v rex next reg (places.Mem (record { base = Some b; index = None; scale = scale; disp = z })) bs) (b % 8 == 4)
    ((64 * mode + 8 * reg + 4) ∷ (sib_for (b % 8) None scale ∷ disp_bytes mode z)) ((64 * mode + 8 * reg + b % 8) ∷ disp_bytes mode z)
    (λ _. read_sib v rex next reg mode (b % 8) (Some b) None scale (disp_bytes mode z) z lr lm (omega arith) based hi ex (disp_again (b % 8) z dz) (disp_length mode (b % 8) z lm n5) (disp_bytes_are mode z))
    (λ e. subst (λ k. PlaceRead v rex next reg (places.Mem (record { base = Some b; index = None; scale = k; disp = z })) ((64 * mode + 8 * reg + b % 8) ∷ disp_bytes mode z)) one
    (read_plain v rex next reg b z lr lb eb (λ f. never _ (equal_test (b % 8) 4 f) e) dz))
