-- Functions taken one by one, in ascending order: one is passed over exactly where it begins before the last one taken ends.
use Rattle.std.proofs.Common.{◌≡◌, ℕ, zero, suc, drop, ◌+◌, ◌<◌, ◌≤◌, ◌&&◌, ◌||◌, Bool, true, false, if◌then◌else◌, nat_lt, List, [], ◌∷◌, ◌++◌, length, get_or, map, fold, refl, sym, ap, ◌∙◌, subst, arith}
use Rattle.std.proofs.lemmas.List.{drop_more, drop_all}
use Rattle.std.specs.List.{AllByRecursion, list_any}
use Rattle.std.proofs.lemmas.Bool.Decides.{nat_tests}
use Rattle.rz_syms.specs.declared.function.Function.{Function}
use Rattle.rz_syms.specs.declared.place.Place.{Place}
use Rattle.rz_syms.specs.Symbols.{function_at, meets, with_function, AreApart}
use Rattle.rz_syms.specs.Calls.Ordered.{AreOrdered}

-- functions that all end by an address, which is the end of the last one or 0
abbrev EndsBy : ℕ → List Function → Type 0
EndsBy end taken = AllByRecursion (λ f. f.hi ≤ end) taken

-- a range that begins at an address or behind it is met by none that begins there or before, or that one ends behind it
abbrev LastEnds : ℕ → List Function → Type 0
LastEnds end [] = end ≡ 0
LastEnds end (f ∷ []) = end ≡ f.hi
LastEnds end (f ∷ g ∷ rest) = LastEnds end (g ∷ rest)

-- what was taken of places, of which the first of the rest begin at `lo` or behind it
pub record IsTaken (taken : List Function) (end : ℕ) (rest : List Place) : Type 0 where
  pub apart : AreApart taken
  pub ends : EndsBy end taken
  pub last : LastEnds end taken
  pub before : AllByRecursion (λ (f : Function). AllByRecursion (λ (p : Place). f.lo ≤ p.lo) rest) taken

pub IsTaken-none : (rest : List Place) → IsTaken [] 0 rest
IsTaken-none rest = record { apart = tt; ends = tt; last = refl; before = tt }

no_meeting : (taken : List Function) (end : ℕ) (f : Function) → EndsBy end taken → end ≤ f.lo → list_any (meets f) taken ≡ false
no_meeting [] end f h le = refl
no_meeting (g ∷ taken) end f h le =
    let by = h.0 in
    let miss : meets f g ≡ false = go (nat_lt f.lo g.hi) (grind (arith, nat_tests, by, le)) in
    ap (λ b. b || list_any (meets f) taken) miss ∙ no_meeting taken end f h.1 le
  where
    go : (b : Bool) → b ≡ false → (b && nat_lt g.lo f.hi) ≡ false
    go true h = absurd (cc)
    go false h = refl

-- one that begins before the last one ends meets it
met : (taken : List Function) (end : ℕ) (f : Function) → LastEnds end taken → f.lo < end → f.lo < f.hi → AllByRecursion (λ (g : Function). g.lo ≤ f.lo) taken → list_any (meets f) taken ≡ true
met [] end f last lt some h = absurd (omega (arith, last, lt))
met (g ∷ []) end f last lt some h =
    let begins = h.0 in
    let a : nat_lt f.lo g.hi ≡ true = grind (arith, nat_tests, last, lt) in
    let b : nat_lt g.lo f.hi ≡ true = grind (arith, nat_tests, begins, some) in
    go (nat_lt f.lo g.hi) (nat_lt g.lo f.hi) a b
  where
    go : (a b : Bool) → a ≡ true → b ≡ true → ((a && b) || false) ≡ true
    go true true h k = refl
    go true false h k = k
    go false b h k = h
met (g ∷ e ∷ taken) end f last lt some h =
    ap (λ b. meets f g || b) (met (e ∷ taken) end f last lt some h.1) ∙ go (meets f g)
  where
    go : (a : Bool) → (a || true) ≡ true
    go true = refl
    go false = refl

-- the places before are before the first
first_before : (taken : List Function) (p : Place) (rest : List Place) → AllByRecursion (λ (f : Function). AllByRecursion (λ (q : Place). f.lo ≤ q.lo) (p ∷ rest)) taken → AllByRecursion (λ (g : Function). g.lo ≤ p.lo) taken
first_before [] p rest h = tt
first_before (f ∷ taken) p rest h = (h.0.0, first_before taken p rest h.1)

later_before : (taken : List Function) (p : Place) (rest : List Place) → AllByRecursion (λ (f : Function). AllByRecursion (λ (q : Place). f.lo ≤ q.lo) (p ∷ rest)) taken → AllByRecursion (λ (f : Function). AllByRecursion (λ (q : Place). f.lo ≤ q.lo) rest) taken
later_before [] p rest h = tt
later_before (f ∷ taken) p rest h = (h.0.1, later_before taken p rest h.1)

push : (P : Function → Type 0) (taken : List Function) (f : Function) → AllByRecursion P taken → P f → AllByRecursion P (taken ++ f ∷ [])
push P [] f h k = (k, tt)
push P (g ∷ taken) f h k = (h.0, push P taken f h.1 k)

ends_later : (taken : List Function) (end next : ℕ) → end ≤ next → EndsBy end taken → EndsBy next taken
ends_later [] end next le h = tt
ends_later (f ∷ taken) end next le h = (let by = h.0 in omega (arith, by, le), ends_later taken end next le h.1)

last_push : (taken : List Function) (f : Function) → LastEnds f.hi (taken ++ f ∷ [])
last_push [] f = refl
last_push (g ∷ []) f = refl
last_push (g ∷ e ∷ taken) f = last_push (e ∷ taken) f

apart_push : (taken : List Function) (f : Function) → AreApart taken → AllByRecursion (λ (g : Function). g.hi ≤ f.lo) taken → f.lo < f.hi → AreApart (taken ++ f ∷ [])
apart_push [] f a by some = (some, tt, tt)
apart_push (g ∷ taken) f a by some = (a.0, push (λ e. g.hi ≤ e.lo) taken f a.1 by.0, apart_push taken f a.2 by.1 some)

-- one that is taken
pub taken_more : (table : List ℕ) (taken now : List Function) (end : ℕ) (p : Place) (rest : List Place) → AreOrdered (p ∷ rest) → IsTaken taken end (p ∷ rest) → end ≤ p.lo
    → now ≡ taken ++ function_at table p ∷ [] → (now ≡ with_function taken (function_at table p)) × IsTaken now p.hi rest
taken_more table taken now end p rest order is le pushed =
    let f : Function = function_at table p in
    let by : EndsBy p.lo taken = ends_later taken end p.lo le is.ends in
    let some = order.0 in
    let all : EndsBy p.hi taken = ends_later taken end p.hi (omega (arith, le, some)) is.ends in (
      pushed ∙ sym (ap (λ b. if b then taken else taken ++ f ∷ []) (no_meeting taken end f is.ends le)),
      rw pushed (record {
        apart = apart_push taken f is.apart by some;
        ends = push (λ g. g.hi ≤ p.hi) taken f all (omega arith);
        last = last_push taken f;
        before = push (λ (g : Function). AllByRecursion (λ (q : Place). g.lo ≤ q.lo) rest) taken f (later_before taken p rest is.before) order.1;
      }),
    )

-- one that is passed over
pub taken_passed : (table : List ℕ) (taken : List Function) (end : ℕ) (p : Place) (rest : List Place) → AreOrdered (p ∷ rest) → IsTaken taken end (p ∷ rest) → p.lo < end
    → (taken ≡ with_function taken (function_at table p)) × IsTaken taken end rest
taken_passed table taken end p rest order is lt =
    let f : Function = function_at table p in
    let meets_it = met taken end f is.last lt order.0 (first_before taken p rest is.before) in
    (sym (ap (λ b. if b then taken else taken ++ f ∷ []) meets_it), record { apart = is.apart; ends = is.ends; last = is.last; before = later_before taken p rest is.before })

pub ordered_from : (i : ℕ) (ps : List Place) → AreOrdered ps → AreOrdered (drop i ps)
ordered_from zero ps h = h
ordered_from (suc i) [] h = tt
ordered_from (suc i) (p ∷ ps) h = ordered_from i ps h.2

-- the places before one, taken: what is left to take gives all
pub record IsHeld (table : List ℕ) (ps : List Place) (i : ℕ) (functions : List Function) (end : ℕ) : Type 0 where
  pub taken : IsTaken functions end (drop i ps)
  pub left : fold with_function functions (map (function_at table) (drop i ps)) ≡ fold with_function [] (map (function_at table) ps)

pub IsHeld-none : (table : List ℕ) (ps : List Place) → IsHeld table ps 0 [] 0
IsHeld-none table ps = record { taken = IsTaken-none ps; left = refl }

left_later : (table : List ℕ) (ps : List Place) (i : ℕ) (d : Place) (taken now : List Function) → i < length ps → now ≡ with_function taken (function_at table (get_or ps i d))
    → fold with_function taken (map (function_at table) (drop i ps)) ≡ fold with_function [] (map (function_at table) ps)
    → fold with_function now (map (function_at table) (drop (i + 1) ps)) ≡ fold with_function [] (map (function_at table) ps)
left_later table ps i d taken now lt is held =
    ap (λ t. fold with_function t (map (function_at table) (drop (i + 1) ps))) is
    ∙ sym (ap (λ l. fold with_function taken (map (function_at table) l)) (drop_more ps i d lt))
    ∙ held

pub IsHeld-more : (table : List ℕ) (ps : List Place) (i : ℕ) (d : Place) (taken now : List Function) (end : ℕ) → i < length ps → AreOrdered ps → IsHeld table ps i taken end → end ≤ (get_or ps i d).lo
    → now ≡ taken ++ function_at table (get_or ps i d) ∷ [] → IsHeld table ps (i + 1) now (get_or ps i d).hi
IsHeld-more table ps i d taken now end lt order held le pushed =
    let e = drop_more ps i d lt in
    let order_here : AreOrdered (get_or ps i d ∷ drop (i + 1) ps) = subst AreOrdered e (ordered_from i ps order) in
    let taken_here : IsTaken taken end (get_or ps i d ∷ drop (i + 1) ps) = subst (IsTaken taken end) e held.taken in
    let more = taken_more table taken now end (get_or ps i d) (drop (i + 1) ps) order_here taken_here le pushed in
    record { taken = more.1; left = left_later table ps i d taken now lt more.0 held.left }

pub IsHeld-passed : (table : List ℕ) (ps : List Place) (i : ℕ) (d : Place) (taken : List Function) (end : ℕ) → i < length ps → AreOrdered ps → IsHeld table ps i taken end → (get_or ps i d).lo < end
    → IsHeld table ps (i + 1) taken end
IsHeld-passed table ps i d taken end lt order held before =
    let e = drop_more ps i d lt in
    let order_here : AreOrdered (get_or ps i d ∷ drop (i + 1) ps) = subst AreOrdered e (ordered_from i ps order) in
    let taken_here : IsTaken taken end (get_or ps i d ∷ drop (i + 1) ps) = subst (IsTaken taken end) e held.taken in
    let more = taken_passed table taken end (get_or ps i d) (drop (i + 1) ps) order_here taken_here before in
    record { taken = more.1; left = left_later table ps i d taken taken lt more.0 held.left }

pub IsHeld-all : (table : List ℕ) (ps : List Place) (i : ℕ) (taken : List Function) (end : ℕ) → length ps ≤ i → IsHeld table ps i taken end → taken ≡ fold with_function [] (map (function_at table) ps)
IsHeld-all table ps i taken end le held =
    ap (λ l. fold with_function taken (map (function_at table) l)) (sym (drop_all i ps le)) ∙ held.left
