-- How many numbers of an ascending list lie in a range, and that each node is counted once.
use Rattle.std.proofs.Common.{◌≡◌, ℕ, zero, suc, ◌+◌, ◌<◌, ◌≤◌, ◌&&◌, ◌||◌, not, Bool, true, false, cond, nat_lt, nat_le, List, [], ◌∷◌, ◌++◌, append_assoc, length, get_or, drop, refl, sym, ap, ap₂, ◌∙◌, arith}
use Rattle.std.specs.Prelude.{count_by, sum_by, flat_map}
use Rattle.std.proofs.lemmas.List.{drop_more}
use Rattle.std.specs.List.{AllByRecursion, AllWithin, list_any}
use Rattle.std.specs.List.Sorted.{IsPermutation}
use Rattle.std.proofs.lemmas.Bool.Decides.{nat_tests}
use Rattle.std.proofs.lemmas.List.Sums.{sum_by-cons}
use Rattle.std.proofs.lemmas.List.Sorted.{sum_by-IsPermutation}
use Rattle.rz_syms.specs.declared.function.Function.{Function}
use Rattle.rz_syms.specs.Listing.{has, function_has, function_text, kept_in, outside, outside_text, listing}
use Rattle.rz_syms.specs.Symbols.{AreApart}

-- the line of a function among nodes
abbrev pub kept_line : List ℕ → Function → List ℕ
kept_line nodes f = function_text f (kept_in nodes f)

abbrev one_where : {X : Type 0} → (X → Bool) → X → ℕ
one_where p x = cond (p x) 1 0

failing : (b : Bool) → b ≡ false → cond {A = ℕ} b 1 0 ≡ 0
failing true e = absurd (cc)
failing false e = refl

passing : (b : Bool) → b ≡ true → cond {A = ℕ} b 1 0 ≡ 1
passing true e = refl
passing false e = absurd (cc)

-- what lies below the end of a range lies in it or below its beginning
pub count_parts : (lo hi : ℕ) (xs : List ℕ) → lo ≤ hi → count_by (λ a. nat_lt a hi) xs ≡ count_by (has lo hi) xs + count_by (λ a. nat_lt a lo) xs
count_parts lo hi [] le = omega arith
count_parts lo hi (x ∷ xs) le =
    let ih = count_parts lo hi xs le in
    let a = sum_by-cons (one_where (λ (b : ℕ). nat_lt b hi)) x xs in
    let b = sum_by-cons (one_where (has lo hi)) x xs in
    let d = sum_by-cons (one_where (λ (b : ℕ). nat_lt b lo)) x xs in
    let e : cond (nat_lt x hi) 1 0 ≡ cond (has lo hi x) 1 0 + cond (nat_lt x lo) 1 0 = grind (arith, nat_tests, le) in
    omega (arith, ih, a, b, d, e)

-- where the first ones pass and the others don't
pub count_split : (p : ℕ → Bool) (xs : List ℕ) (i : ℕ) → i ≤ length xs → AllWithin (λ x. p x ≡ true) xs 0 i → AllWithin (λ x. p x ≡ false) xs i (length xs) → i ≡ count_by p xs
count_split p [] i le first last = omega (arith, le)
count_split p (x ∷ xs) zero le first last =
    let fails : p x ≡ false = last 0 x (omega arith) (omega arith) in
    let ih = count_split p xs 0 (omega arith) (λ k d a b. absurd (omega (arith, b))) (λ k d a b. last (suc k) d (omega arith) (omega (arith, b))) in
    let cons = sum_by-cons (one_where p) x xs in
    let none : one_where p x ≡ 0 = failing (p x) fails in
    omega (arith, ih, cons, none)
count_split p (x ∷ xs) (suc i) le first last =
    let passes : p x ≡ true = first 0 x (omega arith) (omega arith) in
    let ih = count_split p xs i (omega (arith, le)) (λ k d a b. first (suc k) d (omega arith) (omega (arith, b))) (λ k d a b. last (suc k) d (omega (arith, a)) (omega (arith, b))) in
    let cons = sum_by-cons (one_where p) x xs in
    let one : one_where p x ≡ 1 = passing (p x) passes in
    omega (arith, ih, cons, one)

-- a permutation has as many
pub count_permuted : (p : ℕ → Bool) (xs ys : List ℕ) → IsPermutation xs ys → count_by p ys ≡ count_by p xs
count_permuted p xs ys is = sum_by-IsPermutation (one_where p) xs ys is

-- ---- each node once

-- a function that has an address ends before those behind it begin
apart_has : (f : Function) (rest : List Function) (a : ℕ) → AllByRecursion (λ g. f.hi ≤ g.lo) rest → a < f.hi → list_any (function_has a) rest ≡ false
apart_has f [] a h lt = refl
apart_has f (g ∷ rest) a h lt =
    let past = h.0 in
    let miss : function_has a g ≡ false = go (nat_le g.lo a) (nat_lt a g.hi) (grind (arith, nat_tests, past, lt)) in
    ap (λ b. b || list_any (function_has a) rest) miss ∙ apart_has f rest a h.1 lt
  where
    go : (b c : Bool) → b ≡ false → (b && c) ≡ false
    go true c h = absurd (cc)
    go false c h = refl

-- how often an address is counted in functions
abbrev times : ℕ → List Function → ℕ
times a functions = count_by (function_has a) functions

once : (functions : List Function) (a : ℕ) → AreApart functions → times a functions ≡ cond (list_any (function_has a) functions) 1 0
once [] a apart = refl
once (f ∷ rest) a apart =
    let cons = sum_by-cons (one_where (function_has a)) f rest in
    cons ∙ go (function_has a f) refl (once rest a apart.2)
  where
    go : (b : Bool) → function_has a f ≡ b → times a rest ≡ cond (list_any (function_has a) rest) 1 0 → cond b 1 0 + times a rest ≡ cond (b || list_any (function_has a) rest) 1 0
    go true e ih =
        let lt : a < f.hi = grind (arith, nat_tests, e) in
        let none = apart_has f rest a apart.1 lt in
        let zero : times a rest ≡ 0 = ih ∙ failing (list_any (function_has a) rest) none in
        omega (arith, zero)
    go false e ih = let same : 0 + times a rest ≡ times a rest = omega arith in same ∙ ih

-- one node more
kept_cons : (functions : List Function) (a : ℕ) (nodes : List ℕ) → sum_by (kept_in (a ∷ nodes)) functions ≡ times a functions + sum_by (kept_in nodes) functions
kept_cons [] a nodes = omega arith
kept_cons (f ∷ rest) a nodes =
    let ih = kept_cons rest a nodes in
    let x = sum_by-cons (kept_in (a ∷ nodes)) f rest in
    let y = sum_by-cons (kept_in nodes) f rest in
    let z = sum_by-cons (one_where (function_has a)) f rest in
    let k = sum_by-cons (one_where (has f.lo f.hi)) a nodes in
    omega (arith, ih, x, y, z, k)

kept_none : (functions : List Function) → sum_by (kept_in []) functions ≡ 0
kept_none [] = refl
kept_none (f ∷ rest) = let ih = kept_none rest in let x = sum_by-cons (kept_in []) f rest in omega (arith, ih, x)

-- each node is listed once: in one function, or outside
pub each_node_is_listed_once : (functions : List Function) (nodes : List ℕ) → AreApart functions → sum_by (kept_in nodes) functions + outside functions nodes ≡ length nodes
each_node_is_listed_once functions [] apart = let none = kept_none functions in omega (arith, none)
each_node_is_listed_once functions (a ∷ nodes) apart =
    let ih = each_node_is_listed_once functions nodes apart in
    let k = kept_cons functions a nodes in
    let t = once functions a apart in
    let o = sum_by-cons (one_where (λ (b : ℕ). not (list_any (function_has b) functions))) a nodes in
    let either : cond (list_any (function_has a) functions) 1 0 + cond (not (list_any (function_has a) functions)) 1 0 ≡ 1 = go (list_any (function_has a) functions) in
    omega (arith, ih, k, t, o, either)
  where
    go : (b : Bool) → cond b 1 0 + cond (not b) 1 0 ≡ 1
    go true = refl
    go false = refl

-- ---- lines

-- a function has an address
pub apart_at : (functions : List Function) (i : ℕ) (d : Function) → AreApart functions → i < length functions → (get_or functions i d).lo ≤ (get_or functions i d).hi
apart_at [] i d apart lt = absurd (omega (arith, lt))
apart_at (f ∷ rest) zero d apart lt = let some = apart.0 in omega (arith, some)
apart_at (f ∷ rest) (suc i) d apart lt = apart_at rest i d apart.2 (omega (arith, lt))

lines_permuted : (functions : List Function) (xs ys : List ℕ) → IsPermutation xs ys → flat_map (kept_line ys) functions ≡ flat_map (kept_line xs) functions
lines_permuted [] xs ys is = refl
lines_permuted (f ∷ rest) xs ys is =
    ap₂ (λ (a b : List ℕ). a ++ b) (ap (function_text f) (count_permuted (has f.lo f.hi) xs ys is)) (lines_permuted rest xs ys is)

-- a listing goes by which nodes there are
pub listing_permuted : (functions : List Function) (xs ys : List ℕ) → IsPermutation xs ys → listing functions ys ≡ listing functions xs
unfolding listing
listing_permuted functions xs ys is =
    ap₂ (λ (a b : List ℕ). a ++ b) (lines_permuted functions xs ys is)
    (ap outside_text (count_permuted (λ (a : ℕ). not (list_any (function_has a) functions)) xs ys is))

-- the lines so far, and the last one
pub listing_ends : (functions : List Function) (nodes text lined : List ℕ) (left : ℕ) → lined ≡ flat_map (kept_line nodes) functions → left ≡ outside functions nodes → text ≡ lined ++ outside_text left → text ≡ listing functions nodes
unfolding listing
listing_ends functions nodes text lined left lines count is = is ∙ ap₂ (λ (a : List ℕ) (n : ℕ). a ++ outside_text n) lines count

-- one line more
pub lines_turn : (functions : List Function) (nodes : List ℕ) (i : ℕ) (d : Function) (text now whole : List ℕ) → i < length functions → now ≡ text ++ kept_line nodes (get_or functions i d)
    → text ++ flat_map (kept_line nodes) (drop i functions) ≡ whole → now ++ flat_map (kept_line nodes) (drop (i + 1) functions) ≡ whole
lines_turn functions nodes i d text now whole lt is held =
    ap (λ t. t ++ flat_map (kept_line nodes) (drop (i + 1) functions)) is
    ∙ append_assoc text (kept_line nodes (get_or functions i d)) (flat_map (kept_line nodes) (drop (i + 1) functions))
    ∙ ap (λ l. text ++ flat_map (kept_line nodes) l) (sym (drop_more functions i d lt))
    ∙ held
