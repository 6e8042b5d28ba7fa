-- Places of functions: those that symbols give one by one, that they are of different symbols, and that they ascend.
use Rattle.std.proofs.Common.{◌≡◌, ℕ, suc, ◌+◌, ◌*◌, ◌/◌, ◌%◌, ◌<◌, ◌≤◌, ◌==◌, not, Bool, true, false, cond, if◌then◌else◌, nat_lt, List, [], ◌∷◌, ◌++◌, length, drop, fold, Option, Some, None, refl, sym, ap, ap₂, ◌∙◌, arith, eqb-true, append_assoc, append-nil}
use Rattle.std.specs.declared.cmp.Ordering.{Ordering}
use Rattle.std.specs.declared.cmp.Ordering.TheVariants.{Less, Equal, Greater}
use Rattle.std.specs.Ordering.{nat_cmp, ordering_then}
use Rattle.std.specs.List.{AllByRecursion, IsDistinct}
use Rattle.std.specs.List.Sorted.{IsStrictlySortedBy}
use Rattle.std.specs.BTreeSet.{insert_key}
use Rattle.std.proofs.lemmas.Bool.{and_parts, ltb-true}
use Rattle.std.proofs.lemmas.Bool.Decides.{nat_tests}
use Rattle.rz_elf.specs.declared.elf.Load.{Load}
use Rattle.rz_syms.specs.declared.entry.Symbol.{Symbol}
use Rattle.rz_syms.specs.declared.place.Place.{Place}
use Rattle.rz_syms.specs.Symbols.{symbol_of, symbols_in, names_function, is_defined_function, places_from, place_cmp, ascending}
use Rattle.rz_syms.specs.Calls.Ordered.{AreOrdered}
use Rattle.rz_syms.specs.Calls.Placed.{place_of}
use Rattle.rz_syms.proofs.SymbolLaws.{symbols_from, symbols_turn, symbols_first, symbols_end}
use Rattle.rz_aset.specs.Laws.Sorted.{strict}
use Rattle.rz_syms.proofs.Ascending.{is_same_symbol, place_total, place_exact, all_with_all}

-- ---- one by one

abbrev pub places_on : List Load → List ℕ → List ℕ → ℕ → List Place
places_on loads table bytes i = places_from loads table i (symbols_from bytes i)

abbrev pub all_places : List Load → List ℕ → List ℕ → List Place
all_places loads table bytes = places_from loads table 0 (symbols_in bytes)

pub places_first : (loads : List Load) (table bytes : List ℕ) → places_on loads table bytes 0 ≡ all_places loads table bytes
places_first loads table bytes = ap (places_from loads table 0) (symbols_first bytes)

-- the places from a symbol on, by whether it gives one
abbrev with_place : Option Place → List Place → List Place
with_place (Some p) rest = p ∷ rest
with_place None rest = rest

one_more : (loads : List Load) (table : List ℕ) (i : ℕ) (s : Symbol) (rest : List Symbol) → places_from loads table i (s ∷ rest) ≡ with_place (place_of loads table i s) (places_from loads table (suc i) rest)
one_more loads table i s rest = go (names_function loads table s)
  where
    p : Place
    p = record { lo = s.value; hi = s.value + s.size; number = i; name = s.name }

    go : (b : Bool) → (if b then p ∷ places_from loads table (suc i) rest else places_from loads table (suc i) rest) ≡ with_place (if b then Some p else None) (places_from loads table (suc i) rest)
    go true = refl
    go false = refl

turn : (loads : List Load) (table bytes : List ℕ) (i : ℕ) (s : Symbol) (o : Option Place) → i < length bytes / 24 → s ≡ symbol_of (drop (24 * i) bytes) → o ≡ place_of loads table i s
    → with_place o (places_on loads table bytes (i + 1)) ≡ places_on loads table bytes i
turn loads table bytes i s o lt e is =
    let one : i + 1 ≡ suc i = omega arith in
    ap₂ (λ q k. with_place q (places_from loads table k (symbols_from bytes (i + 1)))) is one
    ∙ sym (one_more loads table i s (symbols_from bytes (i + 1)))
    ∙ ap (λ (t : Symbol). places_from loads table i (t ∷ symbols_from bytes (i + 1))) e
    ∙ sym (ap (places_from loads table i) (symbols_turn bytes i lt))

pub place_found : (loads : List Load) (table bytes : List ℕ) (i : ℕ) (s : Symbol) (p : Place) (held now all : List Place) → i < length bytes / 24 → s ≡ symbol_of (drop (24 * i) bytes) → Some p ≡ place_of loads table i s
    → now ≡ held ++ p ∷ [] → held ++ places_on loads table bytes i ≡ all → now ++ places_on loads table bytes (i + 1) ≡ all
place_found loads table bytes i s p held now all lt e is pushed before =
    ap (λ l. l ++ places_on loads table bytes (i + 1)) pushed
    ∙ append_assoc held (p ∷ []) (places_on loads table bytes (i + 1))
    ∙ ap (λ l. held ++ l) (turn loads table bytes i s (Some p) lt e is)
    ∙ before

pub place_passed : (loads : List Load) (table bytes : List ℕ) (i : ℕ) (s : Symbol) (held all : List Place) → i < length bytes / 24 → s ≡ symbol_of (drop (24 * i) bytes) → None ≡ place_of loads table i s
    → held ++ places_on loads table bytes i ≡ all → held ++ places_on loads table bytes (i + 1) ≡ all
place_passed loads table bytes i s held all lt e is before =
    ap (λ l. held ++ l) (turn loads table bytes i s None lt e is) ∙ before

pub places_end : (loads : List Load) (table bytes : List ℕ) (i : ℕ) (held all : List Place) → length bytes / 24 ≤ i → held ++ places_on loads table bytes i ≡ all → held ≡ all
places_end loads table bytes i held all le before =
    sym (append-nil held) ∙ ap (λ ss. held ++ places_from loads table i ss) (sym (symbols_end bytes i le)) ∙ before

-- ---- of different symbols

-- numbers from one on
numbered : (loads : List Load) (table : List ℕ) (n m : ℕ) (ss : List Symbol) → n < m → AllByRecursion (λ (q : Place). (n == q.number) ≡ false) (places_from loads table m ss)
numbered loads table n m [] lt = tt
numbered loads table n m (s ∷ ss) lt = go (names_function loads table s) (numbered loads table n (suc m) ss (omega arith))
  where
    p : Place
    p = record { lo = s.value; hi = s.value + s.size; number = m; name = s.name }

    go : (b : Bool) → AllByRecursion (λ (q : Place). (n == q.number) ≡ false) (places_from loads table (suc m) ss) → AllByRecursion (λ (q : Place). (n == q.number) ≡ false) (if b then p ∷ places_from loads table (suc m) ss else places_from loads table (suc m) ss)
    go true ih = (grind (arith, lt), ih)
    go false ih = ih

pub places_distinct : (loads : List Load) (table : List ℕ) (n : ℕ) (ss : List Symbol) → IsDistinct is_same_symbol (places_from loads table n ss)
unfolding IsDistinct
places_distinct loads table n [] = tt
places_distinct loads table n (s ∷ ss) = go (names_function loads table s) (places_distinct loads table (suc n) ss)
  where
    p : Place
    p = record { lo = s.value; hi = s.value + s.size; number = n; name = s.name }

    go : (b : Bool) → IsDistinct is_same_symbol (places_from loads table (suc n) ss) → IsDistinct is_same_symbol (if b then p ∷ places_from loads table (suc n) ss else places_from loads table (suc n) ss)
    go true ih = (numbered loads table n (suc n) ss (omega arith), ih)
    go false ih = ih

-- ---- in order

-- a function has an address
abbrev pub IsSized : Place → Type 0
IsSized p = p.lo < p.hi

sized : (loads : List Load) (table : List ℕ) (s : Symbol) → names_function loads table s ≡ true → s.value < s.value + s.size
sized loads table s h =
    let defined = (and_parts (is_defined_function s) _ h).0 in
    let has = (and_parts (not (s.section == 0)) (not (s.size == 0)) (and_parts (s.info % 16 == 2) _ defined).1).1 in
    let some : 0 < s.size = grind (arith, nat_tests, has) in
    omega (arith, some)

places_sized : (loads : List Load) (table : List ℕ) (n : ℕ) (ss : List Symbol) → AllByRecursion IsSized (places_from loads table n ss)
places_sized loads table n [] = tt
places_sized loads table n (s ∷ ss) = go (names_function loads table s) refl (places_sized loads table (suc n) ss)
  where
    p : Place
    p = record { lo = s.value; hi = s.value + s.size; number = n; name = s.name }

    go : (b : Bool) → names_function loads table s ≡ b → AllByRecursion IsSized (places_from loads table (suc n) ss) → AllByRecursion IsSized (if b then p ∷ places_from loads table (suc n) ss else places_from loads table (suc n) ss)
    go true e ih = (sized loads table s e, ih)
    go false e ih = ih

less_or_same : (a b : ℕ) (rest : Ordering) → ordering_then (nat_cmp a b) rest ≡ Less → a ≤ b
less_or_same a b rest e = go (nat_lt a b) (a == b) refl refl e
  where
    go : (p q : Bool) → nat_lt a b ≡ p → (a == b) ≡ q → ordering_then (cond p Less (cond q Equal Greater)) rest ≡ Less → a ≤ b
    go true q d f e = let lt = ltb-true a b d in omega (arith, lt)
    go false true d f e = let same = eqb-true a b f in omega (arith, same)
    go false false d f e = cc

begin_later : (p : Place) (ps : List Place) → AllByRecursion (λ q. place_cmp p q ≡ Less) ps → AllByRecursion (λ q. p.lo ≤ q.lo) ps
begin_later p [] h = tt
begin_later p (q ∷ qs) h =
    (less_or_same p.lo q.lo (ordering_then (nat_cmp p.hi q.hi) (ordering_then (nat_cmp p.number q.number) (nat_cmp p.name q.name))) h.0, begin_later p qs h.1)

ordered : (ps : List Place) → AllByRecursion IsSized ps → IsStrictlySortedBy place_cmp ps → AreOrdered ps
unfolding IsStrictlySortedBy
ordered [] h s = tt
ordered (p ∷ ps) h s = (h.0, begin_later p ps s.0, ordered ps h.1 s.1)

pub ascending_ordered : (loads : List Load) (table : List ℕ) (n : ℕ) (ss : List Symbol) → AreOrdered (ascending (places_from loads table n ss))
unfolding ascending
ascending_ordered loads table n ss =
    let ps = places_from loads table n ss in
    ordered (fold (insert_key place_cmp) [] ps) (all_with_all place_cmp IsSized [] ps tt (places_sized loads table n ss)) (strict place_cmp place_total place_exact ps)
