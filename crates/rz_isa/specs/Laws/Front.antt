use Rattle.std.proofs.Common.{ℕ, ◌≡◌, ◌≤◌, List, [], ◌∷◌, ◌++◌, Option, Some, refl, arith, Bool, true, not, append_assoc}
use Rattle.std.specs.Prelude.{nat_le}
use Rattle.std.specs.List.{take_while, list_all}
use Rattle.std.proofs.lemmas.Bool.Decides.{nat_tests}
use Rattle.std.proofs.lemmas.Grind.{common_steps}
use Rattle.std.proofs.lemmas.List.Sums.{take_while-cons}
use Rattle.rz_isa.specs.Laws.Types.{OpMap, Row}
use Rattle.rz_isa.specs.Spelling.{is_prefix, is_rex, rex_bytes, rex_fits, escape, Parts, bytes_of, Fits, times, most, prefixes_fit}
use Rattle.rz_isa.specs.Table.{opcode_plain}
use Rattle.rz_isa.specs.Reading.{skip_while, rex_at, behind_rex, opcode_at, head_at}

-- ---- a list whose front meets a test and whose rest stops it

abbrev pub stops : {X : Type 0} → (X → Bool) → List X → Bool
stops p [] = true
stops p (x ∷ xs) = not (p x)

pub take_while-cut : {X : Type 0} (p : X → Bool) (xs ys : List X) → list_all p xs ≡ true → stops p ys ≡ true → take_while p (xs ++ ys) ≡ xs
take_while-cut p [] [] all stop = refl
take_while-cut p [] (y ∷ ys) all stop = grind arith
take_while-cut p (x ∷ xs) ys all stop = grind (arith, take_while-cons p x (xs ++ ys), take_while-cut p xs ys)

pub skip_while-cut : {X : Type 0} (p : X → Bool) (xs ys : List X) → list_all p xs ≡ true → stops p ys ≡ true → skip_while p (xs ++ ys) ≡ ys
skip_while-cut p [] [] all stop = refl
skip_while-cut p [] (y ∷ ys) all stop = grind arith
skip_while-cut p (x ∷ xs) ys all stop = grind (arith, skip_while-cut p xs ys)

-- ---- REX and the opcode behind the prefixes

pub rex_at-cut : (rex : Option ℕ) (t : List ℕ) → rex_fits rex ≡ true → stops is_rex t ≡ true → rex_at (rex_bytes rex ++ t) ≡ rex
rex_at-cut rex t h1 h2 = grind (arith, nat_tests)

pub behind_rex-cut : (rex : Option ℕ) (t : List ℕ) → rex_fits rex ≡ true → stops is_rex t ≡ true → behind_rex (rex_bytes rex ++ t) ≡ t
behind_rex-cut rex t h1 h2 = grind (arith, nat_tests)

pub opcode_at-cut : (m : OpMap) (b : ℕ) (rest : List ℕ) → opcode_plain m b ≡ true → opcode_at (escape m ++ (b ∷ rest)) ≡ Some (record { map = m; byte = b; rest = rest })
opcode_at-cut m b rest h1 = grind (arith, nat_tests)

pub stops_at_opcode : (m : OpMap) (b : ℕ) (rest : List ℕ) → opcode_plain m b ≡ true → stops is_rex (escape m ++ (b ∷ rest)) ≡ true
stops_at_opcode m b rest h1 = grind (arith, nat_tests)

pub stops_at_rex : (rex : Option ℕ) (m : OpMap) (b : ℕ) (rest : List ℕ) → rex_fits rex ≡ true → opcode_plain m b ≡ true → stops is_prefix (rex_bytes rex ++ (escape m ++ (b ∷ rest))) ≡ true
stops_at_rex rex m b rest h1 h2 = grind (arith, nat_tests)

-- ---- what a row allows as a prefix is one

pub times_cons : (b : ℕ) (ps : List ℕ) → 1 ≤ times b (b ∷ ps)
times_cons b ps = grind (arith, nat_tests, common_steps)

pub times_tail : (c b : ℕ) (ps : List ℕ) → times c ps ≤ times c (b ∷ ps)
times_tail c b ps = grind (arith, nat_tests, common_steps)

pub allowed_is_prefix : (row : Row) (b n : ℕ) → 1 ≤ n → nat_le n (most row b) ≡ true → is_prefix b ≡ true
allowed_is_prefix row b n h1 h2 = grind (arith, nat_tests)

pub prefixes_below : (row : Row) (n : ℕ → ℕ) (ps : List ℕ) → list_all (λ b. nat_le (n b) (most row b)) ps ≡ true → ((b : ℕ) → times b ps ≤ n b) → list_all is_prefix ps ≡ true
prefixes_below row n [] all below = refl
prefixes_below row n (b ∷ ps) all below =
    let here : nat_le (n b) (most row b) ≡ true = grind arith in
    let some : 1 ≤ n b = omega (arith, times_cons b ps, below b) in
    let first = allowed_is_prefix row b (n b) some here in
    let others : list_all is_prefix ps ≡ true = prefixes_below row n ps (grind arith) (λ c. omega (arith, times_tail c b ps, below c)) in
    grind arith

pub prefixes_are : (row : Row) (ps : List ℕ) → prefixes_fit row ps ≡ true → list_all is_prefix ps ≡ true
prefixes_are row ps fit = prefixes_below row (λ b. times b ps) ps (grind arith) (λ b. omega arith)

-- the head of a spelling is read back, whatever follows
pub head_of_spelling : (row : Row) (p : Parts) (more : List ℕ) → Fits row p → opcode_plain row.map p.opcode ≡ true →
    head_at (bytes_of row p ++ more) ≡ record { prefixes = p.prefixes; rex = p.rex; opcode = Some (record { map = row.map; byte = p.opcode; rest = p.rm ++ (p.imm ++ more) }) }
head_of_spelling row p more fits plain =
    let tail : List ℕ = p.rm ++ (p.imm ++ more) in
    let code : List ℕ = escape row.map ++ (p.opcode ∷ tail) in
    let t : List ℕ = rex_bytes p.rex ++ code in
    let same : bytes_of row p ++ more ≡ p.prefixes ++ t = grind (arith, append_assoc {A = ℕ}) in
    let all = prefixes_are row p.prefixes fits.prefixes in
    let stop = stops_at_rex p.rex row.map p.opcode tail fits.rex plain in
    let stop2 = stops_at_opcode row.map p.opcode tail plain in
    let one = take_while-cut is_prefix p.prefixes t all stop in
    let two = skip_while-cut is_prefix p.prefixes t all stop in
    let three = rex_at-cut p.rex code fits.rex stop2 in
    let four = behind_rex-cut p.rex code fits.rex stop2 in
    let five = opcode_at-cut row.map p.opcode tail plain in
    cc
