use Rattle.std.proofs.Common.{ℕ, ◌≡◌, ◌+◌, ◌*◌, ◌/◌, ◌%◌, ◌-◌, ◌≤◌, ◌<◌, ◌==◌, List, [], ◌∷◌, ◌++◌, Option, Some, None, refl, ap, sym, subst, arith, length, take, Bool, true, false, not, ◌&&◌, ◌||◌, zero, suc, length-append, inl, inr}
use Rattle.std.specs.Prelude.{nat_lt}
use Rattle.std.proofs.lemmas.Bool.Decides.{nat_tests}
use Rattle.std.proofs.lemmas.List.{append-nil}
use Rattle.std.proofs.lemmas.Grind.{common_steps}
use Rattle.rz_isa.specs.declared.rows.RmRule.{RmRule}
use Rattle.rz_isa.specs.declared.rows.RmRule.TheVariants as rules
use Rattle.rz_num.specs.Bytes.{are_bytes}
use Rattle.rz_isa.specs.declared.rows.Row.{Row}
use Rattle.rz_isa.specs.Spelling.{is_met, rule_fits, rm_fits, rm_len, second, times, prefixes_fit, may_name_memory, rm_is_memory, lock_fits}
use Rattle.rz_isa.specs.Regular.{digit_small, rule_small}
use Rattle.rz_isa.specs.Decoded.{takes_rm}
use Rattle.rz_isa.specs.Laws.Exclusion.{rm_len_cases}
use Rattle.rz_isa.specs.Laws.Tests.{equal_test}
use Rattle.rz_isa.specs.Decoded.{rm_part}
use Rattle.rz_decode.specs.Laws.Rejoined.{GoesOn}
use Rattle.rz_decode.specs.Laws.Room.{locked_names}

-- What fills the place of bytes that are missing.

abbrev pub zeros : ℕ → List ℕ
zeros zero = []
zeros (suc n) = 0 ∷ zeros n

pub length_zeros : (n : ℕ) → length (zeros n) ≡ n
length_zeros zero = refl
length_zeros (suc n) = ap suc (length_zeros n)

pub bytes_zeros : (n : ℕ) → are_bytes (zeros n) ≡ true
bytes_zeros zero = refl
bytes_zeros (suc n) = grind (arith, nat_tests, bytes_zeros n)

-- a ModRM byte of the rule with the digit that asks for no more
abbrev pub digit_bits : Option ℕ → ℕ
digit_bits None = 0
digit_bits (Some d) = 8 * d

abbrev pub least_m : RmRule → Option ℕ → ℕ
least_m rules.Any d = digit_bits d
least_m rules.MemoryOnly d = digit_bits d
least_m rules.RegisterOnly d = 192 + digit_bits d
least_m (rules.Fixed b) d = b

abbrev pub first_rm : Option RmRule → Option ℕ → List ℕ → List ℕ
first_rm None d rest = rest
first_rm (Some rule) d [] = least_m rule d ∷ []
first_rm (Some rule) d (m ∷ rest) = m ∷ rest

pub record LeastM (rule : RmRule) (d : Option ℕ) : Type 0 where
  pub rule_ok : rule_fits rule (least_m rule d) ≡ true
  pub digit_ok : is_met d (least_m rule d / 8 % 8) ≡ true
  pub one : (sib : ℕ) → rm_len (least_m rule d) sib ≡ 1
  pub byte : least_m rule d < 256

least_of : (rule : RmRule) (d : Option ℕ) → digit_small d ≡ true → rule_small (Some rule) d ≡ true → LeastM rule d
least_of rules.Any None ds rs = record { rule_ok = refl; digit_ok = refl; one = λ sib. refl; byte = omega arith }
least_of rules.Any (Some d) ds rs = (let l : d < 8 = grind (arith, nat_tests) in record { rule_ok = refl; digit_ok = grind (arith, nat_tests); one = λ sib. grind (arith, nat_tests); byte = omega arith })
least_of rules.MemoryOnly None ds rs = record { rule_ok = refl; digit_ok = refl; one = λ sib. refl; byte = omega arith }
least_of rules.MemoryOnly (Some d) ds rs = (let l : d < 8 = grind (arith, nat_tests) in record { rule_ok = grind (arith, nat_tests); digit_ok = grind (arith, nat_tests); one = λ sib. grind (arith, nat_tests); byte = omega arith })
least_of rules.RegisterOnly None ds rs = record { rule_ok = refl; digit_ok = refl; one = λ sib. refl; byte = omega arith }
least_of rules.RegisterOnly (Some d) ds rs = (let l : d < 8 = grind (arith, nat_tests) in record { rule_ok = grind (arith, nat_tests); digit_ok = grind (arith, nat_tests); one = λ sib. grind (arith, nat_tests); byte = omega arith })
least_of (rules.Fixed b) None ds rs = record { rule_ok = equal_test b b refl; digit_ok = refl; one = λ sib. grind (arith, nat_tests); byte = grind (arith, nat_tests) }
least_of (rules.Fixed b) (Some d) ds rs = absurd (last_false (nat_lt b 256) (b / 64 == 3) rs)
  where
    last_false : (a c : Bool) → (a && c && false) ≡ true → ⊥
    last_false a c h = grind arith

-- ---- the ModRM part of the filled rest fits

three : (a b c : Bool) → a ≡ true → b ≡ true → c ≡ true → (a && b && c) ≡ true
three a b c ea eb ec = grind arith

second_zeros : (m n : ℕ) → second (m ∷ zeros n) ≡ 0
second_zeros m zero = refl
second_zeros m (suc n) = refl

-- the second byte of a cut is the second byte, or doesn't count
cut_len : (m n : ℕ) (xs : List ℕ) → rm_len m (second (m ∷ xs)) ≡ suc n → n ≤ length xs → 1 + length (take n xs) ≡ rm_len m (second (m ∷ take n xs))
cut_len m zero [] e le = (let f : rm_len m 0 ≡ 1 = e in omega arith)
cut_len m (suc n) [] e le = absurd (omega arith)
cut_len m zero (x ∷ xs) e le = elim (rm_len_cases m x 0) [
  | inl s ↦ (let f : rm_len m x ≡ 1 = e in omega arith)
  | inr both ↦ absurd (let f : rm_len m x ≡ 1 = e in omega arith)
]
cut_len m (suc n) (x ∷ xs) e le = (let f : rm_len m x ≡ suc (suc n) = e in let l : length (take n xs) ≡ n = grind (arith, common_steps) in omega arith)

rm_len_some : (m s : ℕ) → (n : ℕ) × (rm_len m s ≡ suc n)
rm_len_some m s = (rm_len m s - 1, grind arith)

cut_fits : (rule : RmRule) (d : Option ℕ) (m : ℕ) (xs : List ℕ) → rule_fits rule m ≡ true → is_met d (m / 8 % 8) ≡ true → rm_len m (second (m ∷ xs)) ≤ 1 + length xs →
    rm_fits (Some rule) d (take (rm_len m (second (m ∷ xs))) (m ∷ xs)) ≡ true
cut_fits rule d m xs r e le =
    let n = rm_len_some m (second (m ∷ xs)) in
    let c = cut_len m n.0 xs n.1 (let f = n.1 in omega arith) in
    subst (λ k. rm_fits (Some rule) d (take k (m ∷ xs)) ≡ true) (sym n.1) (three _ _ _ r e (equal_test _ _ c))

second_append : (m : ℕ) (rest : List ℕ) (n : ℕ) → second (m ∷ (rest ++ zeros n)) ≡ second (m ∷ rest)
second_append m [] n = second_zeros m n
second_append m (x ∷ rest) n = refl

pub filled_fits : (rule : Option RmRule) (d : Option ℕ) (rest : List ℕ) (n : ℕ) → digit_small d ≡ true → rule_small rule d ≡ true → takes_rm rule d rest ≡ true → rm_part rule rest ≤ n →
    rm_fits rule d (take (rm_part rule rest) (first_rm rule d rest ++ zeros n)) ≡ true
filled_fits None d rest n ds rs t le = refl
filled_fits (Some rule) d [] n ds rs t le = (let l = least_of rule d ds rs in three _ _ _ l.rule_ok l.digit_ok (equal_test _ _ (let f = l.one 0 in omega arith)))
filled_fits (Some rule) d (m ∷ rest) n ds rs t le =
    let two = sides (rule_fits rule m) (is_met d (m / 8 % 8)) t in
    let s = second_append m rest n in
    let e = ap (rm_len m) s in
    let l = length-append rest (zeros n) in
    let z = length_zeros n in
    subst (λ k. rm_fits (Some rule) d (take k (m ∷ (rest ++ zeros n))) ≡ true) e (cut_fits rule d m (rest ++ zeros n) two.0 two.1 (omega arith))
  where
    sides : (a b : Bool) → (a && b) ≡ true → (a ≡ true) × (b ≡ true)
    sides a b h = (grind arith, grind arith)

-- ---- where F0 stands the filled ModRM byte names memory

least_memory : (rule : RmRule) (d : Option ℕ) → digit_small d ≡ true → may_name_memory (Some rule) ≡ true → (least_m rule d / 64 == 3) ≡ false
least_memory rules.Any None ds m = refl
least_memory rules.Any (Some d) ds m = (let l : d < 8 = grind (arith, nat_tests) in grind (arith, nat_tests))
least_memory rules.MemoryOnly None ds m = refl
least_memory rules.MemoryOnly (Some d) ds m = (let l : d < 8 = grind (arith, nat_tests) in grind (arith, nat_tests))
least_memory rules.RegisterOnly d ds m = absurd (cc)
least_memory (rules.Fixed b) d ds m = absurd (cc)

memory_taken : (n : ℕ) (rm : List ℕ) → rm_is_memory rm ≡ true → rm_is_memory (take n rm) ≡ true
memory_taken zero rm h = refl
memory_taken (suc n) [] h = refl
memory_taken (suc n) (m ∷ rest) h = h

memory_first : (rule : Option RmRule) (d : Option ℕ) (rest ys : List ℕ) → digit_small d ≡ true → may_name_memory rule ≡ true → rm_is_memory rest ≡ true → rm_is_memory (first_rm rule d rest ++ ys) ≡ true
memory_first None d rest ys ds m h = absurd (cc)
memory_first (Some rule) d [] ys ds m h = ap not (least_memory rule d ds m)
memory_first (Some rule) d (m ∷ rest) ys ds may h = h

or_parts : (a b : Bool) → (a || b) ≡ true → (a ≡ false → b ≡ true)
or_parts a b h n = grind arith

or_else : (a b : Bool) → (a ≡ false → b ≡ true) → (a || b) ≡ true
or_else true b f = refl
or_else false b f = f refl

pub filled_lock : (row : Row) (ps rest ys : List ℕ) (n : ℕ) → digit_small row.digit ≡ true → prefixes_fit row ps ≡ true → lock_fits ps rest ≡ true → lock_fits ps (take n (first_rm row.rm row.digit rest ++ ys)) ≡ true
filled_lock row ps rest ys n ds fit lock = or_else (times 0xf0 ps == 0) _ (λ some.
    memory_taken n _ (memory_first row.rm row.digit rest ys ds (locked_names row ps fit some) (or_parts (times 0xf0 ps == 0) (rm_is_memory rest) lock some)))

pub first_longer : (rule : Option RmRule) (d : Option ℕ) (rest : List ℕ) → GoesOn rest (first_rm rule d rest)
first_longer None d rest = record { more = []; same = sym (append-nil rest) }
first_longer (Some rule) d [] = record { more = least_m rule d ∷ []; same = refl }
first_longer (Some rule) d (m ∷ rest) = record { more = []; same = sym (append-nil (m ∷ rest)) }

pub first_bytes : (rule : Option RmRule) (d : Option ℕ) (rest : List ℕ) → digit_small d ≡ true → rule_small rule d ≡ true → are_bytes rest ≡ true → are_bytes (first_rm rule d rest) ≡ true
first_bytes None d rest ds rs h = h
first_bytes (Some rule) d [] ds rs h = byte_alone _ (least_of rule d ds rs).byte
  where
    byte_alone : (b : ℕ) → b < 256 → are_bytes (b ∷ []) ≡ true
    byte_alone b l = grind (arith, nat_tests)
first_bytes (Some rule) d (m ∷ rest) ds rs h = h
