use Rattle.std.proofs.Common.{ℕ, ◌≡◌, ◌+◌, ◌≤◌, List, [], ◌++◌, take, drop, zero, suc, ◌∷◌, ◌*◌, ◌%◌, ◌/◌, ◌<◌, ◌==◌, Bool, true, false, not, ℤ, Option, Some, None, refl, ap, sym, ◌∙◌, arith, append_assoc, length-append}
use Rattle.std.specs.Prelude.{◌-◌, if◌then◌else◌}
use Rattle.std.proofs.lemmas.Grind.{common_steps}
use Rattle.rz_isa.specs.declared.rows.Row.{Row}
use Rattle.rz_isa.specs.declared.instruction.Place.{Place}
use Rattle.rz_isa.specs.declared.instruction.Place.TheVariants as places
use Rattle.rz_isa.specs.declared.spelled.Fields.{Fields}
use Rattle.rz_isa.specs.Spelling.{rex_bytes, escape, imm_len, bytes_of}
use Rattle.rz_isa.specs.Having.{is_half, code_of, opcode_of}
use Rattle.rz_isa.specs.Canonical.{little, low_32, offset, repeat_prefix, prefixes_for, rex_for, mode_of, disp_bytes, sib_for, plain_or_sib, memory_bytes, place_bytes, rm_bytes, imm_value, parts_for}
use Rattle.rz_encode.specs.Calls.Writer.{Wrote, byte_given}

drop_more : (a b : ℕ) (xs ys : List ℕ) → a ≤ b → drop a xs ≡ drop a ys → drop b xs ≡ drop b ys
drop_more a b xs ys le e =
    let k : ℕ = b - a in
    let s : b ≡ k + a = omega arith in
    let x : drop b xs ≡ drop k (drop a xs) = grind (arith, common_steps, s) in
    let y : drop b ys ≡ drop k (drop a ys) = grind (arith, common_steps, s) in
    x ∙ (ap (drop k) e ∙ sym y)

-- one piece and then another
pub wrote_both : (old mid new : List ℕ) (a b c : ℕ) (p q : List ℕ) → Wrote old a mid b p → Wrote mid b new c q → Wrote old a new c (p ++ q)
wrote_both old mid new a b c p q f g = record {
  front = g.front ∙ (ap (λ k. k ++ q) f.front ∙ append_assoc (take a old) p q);
  behind = g.behind ∙ drop_more b c mid old (let e = g.last in omega arith) f.behind;
  last = (let e = f.last in let h = g.last in let l = length-append p q in omega arith);
}

-- ---- the pieces

pub little_step : (n v : ℕ) → 0 < n → v % 256 ∷ little (n - 1) (v / 256) ≡ little n v
little_step zero v lt = absurd (omega arith)
little_step (suc n) v lt = ap (λ k. v % 256 ∷ little k (v / 256)) (omega arith)

pub memory_none : (reg : ℕ) (base index : Option ℕ) (scale : ℕ) (disp : ℤ) (sib v : ℕ) → base ≡ None → sib ≡ sib_for 5 index scale → v ≡ low_32 disp
    → ((8 * reg + 4) ∷ (sib ∷ [])) ++ little 4 v ≡ memory_bytes reg base index scale disp
memory_none reg base index scale disp sib v eb es ev =
    ap (λ k. (8 * reg + 4) ∷ (k ∷ little 4 v)) es ∙ (ap (λ k. (8 * reg + 4) ∷ (sib_for 5 index scale ∷ little 4 k)) ev ∙ ap (λ k. memory_bytes reg k index scale disp) (sym eb))

either_head : (t : Bool) (x y z : ℕ) (d : List ℕ) → (if t then x ∷ (y ∷ []) else z ∷ []) ++ d ≡ (if t then x ∷ (y ∷ d) else z ∷ d)
either_head true x y z d = refl
either_head false x y z d = refl

head_disp : (reg low : ℕ) (index : Option ℕ) (scale : ℕ) (disp : List ℕ) (mode : ℕ) → plain_or_sib reg low index scale [] mode ++ disp ≡ plain_or_sib reg low index scale disp mode
head_disp reg low None scale disp mode = either_head (low == 4) (64 * mode + 8 * reg + 4) (sib_for low None scale) (64 * mode + 8 * reg + low) disp
head_disp reg low (Some i) scale disp mode = refl

pub memory_some : (reg : ℕ) (base index : Option ℕ) (scale : ℕ) (disp : ℤ) (b mode : ℕ) → base ≡ Some b → mode ≡ mode_of (b % 8) disp
    → plain_or_sib reg (b % 8) index scale [] mode ++ disp_bytes mode disp ≡ memory_bytes reg base index scale disp
memory_some reg base index scale disp b mode eb em =
    head_disp reg (b % 8) index scale (disp_bytes mode disp) mode
    ∙ (ap (λ k. plain_or_sib reg (b % 8) index scale (disp_bytes k disp) k) em ∙ ap (λ k. memory_bytes reg k index scale disp) (sym eb))

pub place_address : (reg next : ℕ) (p : Place) (a v : ℕ) → p ≡ places.At a → v ≡ offset next a → ((8 * reg + 5) ∷ []) ++ little 4 v ≡ place_bytes reg next p
place_address reg next p a v ep ev = ap (λ k. (8 * reg + 5) ∷ little 4 k) ev ∙ ap (place_bytes reg next) (sym ep)

-- ---- all of them

-- a byte that stands or not
given_bytes : (b : Bool) (x : ℕ) → rex_bytes (byte_given b x) ≡ (if b then x ∷ [] else [])
given_bytes true x = refl
given_bytes false x = refl

unless : (b : Bool) (xs : List ℕ) → (if not b then xs else []) ≡ (if b then [] else xs)
unless true xs = refl
unless false xs = refl

pub prefixes_same : (half : Bool) (rep : ℕ) → rex_bytes (byte_given half 0x66) ++ rex_bytes (byte_given (not (rep == 0)) rep) ≡ prefixes_for half rep
prefixes_same half rep = λ i. given_bytes half 0x66 i ++ (given_bytes (not (rep == 0)) rep ∙ unless (rep == 0) (rep ∷ [])) i

-- what the pieces of a spelling are, as the code has them
pub record Pieces (row : Row) (f : Fields) (next : ℕ) (half rep rex esc : Option ℕ) (o code n v : ℕ) : Type 0 where
  pub prefixes_are : rex_bytes half ++ rex_bytes rep ≡ prefixes_for (is_half f.w) (repeat_prefix row.f3 f.rep)
  pub rex_is : rex ≡ rex_for row f
  pub esc_is : rex_bytes esc ≡ escape row.map
  pub opcode_is : o ≡ opcode_of row f
  pub code_is : code ≡ code_of f.reg
  pub len_is : n ≡ imm_len row.imm f.w
  pub imm_is : v ≡ imm_value row.imm next f.imm

pub pieces_same : (row : Row) (f : Fields) (next : ℕ) (half rep rex esc : Option ℕ) (o code n v : ℕ) → Pieces row f next half rep rex esc o code n v
    → (rex_bytes half ++ rex_bytes rep) ++ (rex_bytes rex ++ (rex_bytes esc ++ (o ∷ (rm_bytes row.rm row.digit code next f.rm ++ little n v)))) ≡ bytes_of row (parts_for row f next)
pieces_same row f next half rep rex esc o code n v e =
    λ i. e.prefixes_are i ++ (rex_bytes (e.rex_is i) ++ (e.esc_is i ++ (e.opcode_is i ∷ (rm_bytes row.rm row.digit (e.code_is i) next f.rm ++ little (e.len_is i) (e.imm_is i)))))

pub all_wrote : (x0 x1 x2 x3 x4 x5 x6 x7 : List ℕ) (a0 a1 a2 a3 a4 a5 a6 a7 : ℕ) (h p r s m i : List ℕ) (o : ℕ)
    → Wrote x0 a0 x1 a1 h → Wrote x1 a1 x2 a2 p → Wrote x2 a2 x3 a3 r → Wrote x3 a3 x4 a4 s → Wrote x4 a4 x5 a5 (o ∷ []) → Wrote x5 a5 x6 a6 m → Wrote x6 a6 x7 a7 i
    → Wrote x0 a0 x7 a7 ((h ++ p) ++ (r ++ (s ++ (o ∷ (m ++ i)))))
all_wrote x0 x1 x2 x3 x4 x5 x6 x7 a0 a1 a2 a3 a4 a5 a6 a7 h p r s m i o wh wp wr ws wo wm wi =
    wrote_both x0 x2 x7 a0 a2 a7 (h ++ p) (r ++ (s ++ (o ∷ (m ++ i)))) (wrote_both x0 x1 x2 a0 a1 a2 h p wh wp)
    (wrote_both x2 x3 x7 a2 a3 a7 r (s ++ (o ∷ (m ++ i))) wr
    (wrote_both x3 x4 x7 a3 a4 a7 s (o ∷ (m ++ i)) ws
    (wrote_both x4 x5 x7 a4 a5 a7 (o ∷ []) (m ++ i) wo
    (wrote_both x5 x6 x7 a5 a6 a7 m i wm wi))))

pub prefix_pieces : (row : Row) (f : Fields) (s t : Option ℕ) (half : Bool) (rep : ℕ) → s ≡ byte_given half 0x66 → t ≡ byte_given (not (rep == 0)) rep → half ≡ is_half f.w → rep ≡ repeat_prefix row.f3 f.rep
    → rex_bytes s ++ rex_bytes t ≡ prefixes_for (is_half f.w) (repeat_prefix row.f3 f.rep)
prefix_pieces row f s t half rep es et eh er = (λ i. rex_bytes (es i) ++ rex_bytes (et i)) ∙ (prefixes_same half rep ∙ (λ i. prefixes_for (eh i) (er i)))
