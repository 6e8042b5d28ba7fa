use Rattle.std.proofs.Common.{ℕ, ◌≡◌, ◌≤◌, ◌<◌, ◌==◌, List, [], ◌∷◌, ◌++◌, refl, ap, sym, ◌∙◌, subst, arith, length, Bool, true, false, append_assoc, inl, inr}
use Rattle.std.specs.Prelude.{if◌then◌else◌}
use Rattle.std.specs.List.{take_while}
use Rattle.std.proofs.lemmas.Bool.{cases_Bool}
use Rattle.std.proofs.lemmas.Bool.Decides.{nat_tests}
use Rattle.std.proofs.lemmas.List.{append-nil}
use Rattle.std.proofs.lemmas.Grind.{common_steps}
use Rattle.std.proofs.lemmas.List.Sums.{take_while-cons}
use Rattle.rz_isa.specs.declared.rows.OpMap.{OpMap}
use Rattle.rz_isa.specs.declared.rows.OpMap.TheVariants as maps
use Rattle.rz_isa.specs.declared.rows.Row.{Row}
use Rattle.rz_isa.specs.Spelling.{is_prefix, is_rex, rex_bytes, escape}
use Rattle.rz_isa.specs.Reading.{Opcode, skip_while, rex_at, behind_rex}
use Rattle.rz_isa.specs.Table.{same_map}
use Rattle.rz_isa.specs.Decoded.{Front, second_for, opcode_for, front_by, front_at, missing_f3, least_rex}

-- ---- what is read is in front of the bytes

pub prefixes_again : (s : List ℕ) → take_while is_prefix s ++ skip_while is_prefix s ≡ s
prefixes_again [] = refl
prefixes_again (b ∷ s) = elim (cases_Bool (is_prefix b)) [
  | inl y ↦ grind (arith, common_steps, take_while-cons is_prefix b s, prefixes_again s)
  | inr o ↦ grind (arith, common_steps, take_while-cons is_prefix b s)
]

pub rex_again : (s : List ℕ) → rex_bytes (rex_at s) ++ behind_rex s ≡ s
rex_again [] = refl
rex_again (b ∷ s) = elim (cases_Bool (is_rex b)) [ inl y ↦ grind arith | inr o ↦ grind arith ]

-- the bytes of a front, with what stands in place of the rest behind its opcode
abbrev pub whole : Front → List ℕ → List ℕ
whole f t = f.prefixes ++ (rex_bytes f.rex ++ (escape f.opcode.map ++ (f.opcode.byte ∷ t)))

abbrev opcode_whole : Opcode → List ℕ → List ℕ
opcode_whole o t = escape o.map ++ (o.byte ∷ t)

-- a list and its way on
pub record GoesOn (s t : List ℕ) : Type 0 where
  pub more : List ℕ
  pub same : t ≡ s ++ more

second_again : (row : Row) (bs more : List ℕ) → GoesOn (0x0f ∷ bs) (opcode_whole (second_for row bs) ((second_for row bs).rest ++ more))
second_again row [] more = record { more = _; same = refl }
second_again row (b ∷ bs) more = record { more = more; same = refl }

opcode_again_by : (row : Row) (is_escape : Bool) (b : ℕ) (bs more : List ℕ) → (b == 0x0f) ≡ is_escape →
    GoesOn (b ∷ bs) (opcode_whole (if is_escape then second_for row bs else record { map = maps.One; byte = b; rest = bs }) ((if is_escape then second_for row bs else record { map = maps.One; byte = b; rest = bs }).rest ++ more))
opcode_again_by row true b bs more e = (let n : b ≡ 0x0f = grind (arith, nat_tests) in subst (λ k. GoesOn (k ∷ bs) (opcode_whole (second_for row bs) ((second_for row bs).rest ++ more))) (sym n) (second_again row bs more))
opcode_again_by row false b bs more e = record { more = more; same = refl }

opcode_again : (row : Row) (bs more : List ℕ) → GoesOn bs (opcode_whole (opcode_for row bs) ((opcode_for row bs).rest ++ more))
opcode_again row [] more = record { more = _; same = refl }
opcode_again row (b ∷ bs) more = opcode_again_by row (b == 0x0f) b bs more refl

assoc : (a b c : List ℕ) → (a ++ b) ++ c ≡ a ++ (b ++ c)
assoc a b c = append_assoc a b c

empty_again : (ps m tail bytes : List ℕ) → ps ≡ bytes → GoesOn bytes ((ps ++ m) ++ tail)
empty_again ps m tail bytes e = record { more = m ++ tail; same = assoc ps m tail ∙ ap (λ k. k ++ (m ++ tail)) e }

pub front_again : (row : Row) (bytes more : List ℕ) → GoesOn bytes (whole (front_at row bytes) ((front_at row bytes).opcode.rest ++ more))
front_again row bytes more = go (skip_while is_prefix bytes) refl
  where
    go : (t : List ℕ) → skip_while is_prefix bytes ≡ t →
        GoesOn bytes (whole (front_by row (take_while is_prefix bytes) t) ((front_by row (take_while is_prefix bytes) t).opcode.rest ++ more))
    go [] e =
        let p : take_while is_prefix bytes ≡ bytes = sym (append-nil _) ∙ (ap (λ k. take_while is_prefix bytes ++ k) (sym e) ∙ prefixes_again bytes) in
        empty_again (take_while is_prefix bytes) (missing_f3 row.f3 (take_while is_prefix bytes)) (rex_bytes (least_rex row.size) ++ opcode_whole (opcode_for row []) ([] ++ more)) bytes p
    go (x ∷ xs) e =
        let o = opcode_again row (behind_rex (x ∷ xs)) more in
        let ps : List ℕ = take_while is_prefix bytes in
        let r : rex_bytes (rex_at (x ∷ xs)) ++ (behind_rex (x ∷ xs) ++ o.more) ≡ (x ∷ xs) ++ o.more = sym (assoc (rex_bytes (rex_at (x ∷ xs))) (behind_rex (x ∷ xs)) o.more) ∙ ap (λ k. k ++ o.more) (rex_again (x ∷ xs)) in
        record {
          more = o.more;
          same = ap (λ k. ps ++ (rex_bytes (rex_at (x ∷ xs)) ++ k)) o.same ∙ (ap (λ k. ps ++ k) r ∙ (sym (assoc ps (x ∷ xs) o.more) ∙ ap (λ k. k ++ o.more) (ap (λ k. ps ++ k) (sym e) ∙ prefixes_again bytes)));
        }

pub same_map_is : (a b : OpMap) → same_map a b ≡ true → b ≡ a
same_map_is maps.One maps.One h = refl
same_map_is maps.Two maps.Two h = refl
same_map_is maps.One maps.Two h = absurd (cc)
same_map_is maps.Two maps.One h = absurd (cc)

-- ---- two fronts of one list

pub longer : (a b x y : List ℕ) → a ++ x ≡ b ++ y → length a ≤ length b → (m : List ℕ) × (b ≡ a ++ m)
longer [] b x y e le = (b, refl)
longer (n ∷ a) [] x y e le = absurd (omega arith)
longer (n ∷ a) (k ∷ b) x y e le =
    let h : n ≡ k = cc in
    let i = longer a b x y (cc) (omega arith) in
    (i.0, λ j. sym h j ∷ i.1 j)

pub longer_by_some : (a b x y : List ℕ) → a ++ x ≡ b ++ y → length a < length b → (n : ℕ) × (m : List ℕ) × (b ≡ a ++ (n ∷ m))
longer_by_some a b x y e lt = go (longer a b x y e (omega arith)).0 (longer a b x y e (omega arith)).1
  where
    go : (m : List ℕ) → b ≡ a ++ m → (n : ℕ) × (m : List ℕ) × (b ≡ a ++ (n ∷ m))
    go [] s = absurd (let l : length b ≡ length a = ap length (s ∙ append-nil a) in omega arith)
    go (n ∷ m) s = (n, m, s)
