-- Ranges that are apart, and the function with the greatest start below an address.
use Rattle.std.proofs.Common.{◌≡◌, ℕ, ◌+◌, ◌<◌, ◌≤◌, ◌&&◌, ◌==◌, ◌++◌, ◌^◌, [], ◌∷◌, length-append, cond, Bool, true, false, List, length, get_or, nat_lt, Less, Some, None, refl, sym, ap, ◌∙◌, inl, inr, arith}
use Rattle.std.specs.Prelude.{position}
use Rattle.std.specs.Option.{IsSome}
use Rattle.std.specs.BTreeMap.{BTreeMap, Updates, is_at}
use Rattle.std.specs.Ordering.{nat_cmp, is_lt}
use Rattle.std.specs.List.{list_any}
use Rattle.std.proofs.lemmas.Bool.{cases_lt, and_parts, ltb-true, eqb-true, false≢true}
use Rattle.std.proofs.Math.Bool.{and_comm}
use Rattle.std.proofs.lemmas.List.Folds.{list_any_none, list_any_at}
use Rattle.std.proofs.lemmas.List.Elements.{All-get_or, All-from_get_or, All-push}
use Rattle.std.proofs.lemmas.List.Quantifiers.{position-Some, all_pairs_push}
use Rattle.rz_text.specs.Laws.Places.{position-found, position-absent, position-push_first, position-push_fails}
use Rattle.rz_classes.specs.declared.listed.Function.{Function}
use Rattle.rz_classes.specs.Function.{AreApart, IsIndexed, meets}

-- whether a function's range has an address in common with a range
abbrev pub meets_range : ℕ → ℕ → Function → Bool
meets_range lo hi f = nat_lt lo f.hi && nat_lt f.lo hi

abbrev pub starts_at : ℕ → Function → Bool
starts_at a f = f.lo == a

-- a function, for lists that have none
abbrev pub no_function : Function
no_function = record { lo = 0; hi = 0; class = [] }

both : (a b c d : ℕ) → a < b → c < d → (nat_lt a b && nat_lt c d) ≡ true
both a b c d h k = grind (arith)

parts : (a b c d : ℕ) → (nat_lt a b && nat_lt c d) ≡ true → (a < b) × (c < d)
parts a b c d h = let p = and_parts (nat_lt a b) (nat_lt c d) h in (ltb-true a b p.0, ltb-true c d p.1)

-- a function is found by its start
found : (fs : List Function) (i : ℕ) (d : Function) → i < length fs → IsSome (position (starts_at (get_or fs i d).lo) fs)
found fs i d below = position-found (starts_at (get_or fs i d).lo) fs i d below (grind arith)

false_from : (b : Bool) → (b ≡ true → ⊥) → b ≡ false
false_from true h = absurd (h refl)
false_from false h = refl

-- what doesn't meet lies before or behind
apart_from : (f g : Function) → meets f g ≡ false → f.lo < g.hi → f.hi ≤ g.lo
apart_from f g h before = elim (cases_lt g.lo f.hi) [
  | inl inside ↦ absurd (false≢true (sym h ∙ both f.lo g.hi g.lo f.hi before inside))
  | inr behind ↦ behind
]

meets-swap : (f g : Function) → meets f g ≡ meets g f
meets-swap f g = and_comm (nat_lt f.lo g.hi) (nat_lt g.lo f.hi)

-- of two functions the one that ends first ends before the other starts
one_before : (fs : List Function) → AreApart fs → (i j : ℕ) (d : Function) → i < length fs → j < length fs → (get_or fs i d).hi < (get_or fs j d).hi → (get_or fs i d).hi ≤ (get_or fs j d).lo
one_before fs apart i j d at_i at_j above =
    let ordered : (get_or fs i d).lo < (get_or fs i d).hi = All-get_or (λ (f : Function). f.lo < f.hi) fs i d at_i apart.ordered in
    elim (cases_lt i j) [
      | inl before ↦ apart_from (get_or fs i d) (get_or fs j d) (apart.apart i j d before at_j) (omega arith)
      | inr other ↦ elim (cases_lt j i) [
        | inl behind ↦ apart_from (get_or fs i d) (get_or fs j d) (meets-swap (get_or fs i d) (get_or fs j d) ∙ apart.apart j i d behind at_i) (omega arith)
        | inr same ↦
            let e : i ≡ j = omega arith in
            let hi : (get_or fs i d).hi ≡ (get_or fs j d).hi = ap (λ (k : ℕ). (get_or fs k d).hi) e in
            absurd (omega arith)
      ]
    ]

-- where nothing starts below the end of a range, nothing meets it
pub meets_range-none : (fs : List Function) (lo hi : ℕ) (d : Function) → ((q : ℕ) → q < hi → position (starts_at q) fs ≡ None) → list_any (meets_range lo hi) fs ≡ false
meets_range-none fs lo hi d none = list_any_none (meets_range lo hi) fs (All-from_get_or (λ (f : Function). meets_range lo hi f ≡ false) fs d (λ i below.
    false_from (meets_range lo hi (get_or fs i d)) (λ h.
    let at = parts lo (get_or fs i d).hi (get_or fs i d).lo hi h in
    let some = found fs i d below in
    false≢true (rw (none (get_or fs i d).lo at.1) at some))))

-- else the function with the greatest such start decides
pub meets_range-last : (fs : List Function) (lo hi k v : ℕ) (d : Function) → AreApart fs → position (starts_at k) fs ≡ Some v → k < hi
    → ((q : ℕ) → q < hi → IsSome (position (starts_at q) fs) → q ≤ k) → nat_lt lo (get_or fs v d).hi ≡ list_any (meets_range lo hi) fs
meets_range-last fs lo hi k v d apart at below greatest =
    let place = position-Some (starts_at k) fs v d at in
    let start : (get_or fs v d).lo ≡ k = eqb-true (get_or fs v d).lo k place.1 in
    let ordered : (get_or fs v d).lo < (get_or fs v d).hi = All-get_or (λ (f : Function). f.lo < f.hi) fs v d place.0 apart.ordered in
    elim (cases_lt lo (get_or fs v d).hi) [
      | inl inside ↦
          let yes = both lo (get_or fs v d).hi (get_or fs v d).lo hi inside (omega arith) in
          let left : nat_lt lo (get_or fs v d).hi ≡ true = grind arith in
          left ∙ sym (list_any_at (meets_range lo hi) fs v d place.0 yes)
      | inr behind ↦
          let left : nat_lt lo (get_or fs v d).hi ≡ false = grind arith in
          left ∙ sym (list_any_none (meets_range lo hi) fs (All-from_get_or (λ (f : Function). meets_range lo hi f ≡ false) fs d (λ i within.
          false_from (meets_range lo hi (get_or fs i d)) (λ h.
          let in_range = parts lo (get_or fs i d).hi (get_or fs i d).lo hi h in
          let least = greatest (get_or fs i d).lo in_range.1 (found fs i d within) in
          let before = one_before fs apart v i d place.0 within (omega arith) in
          omega arith))))
    ]

-- the order of numbers
pub nat_cmp-less : (a b : ℕ) → a < b → nat_cmp a b ≡ Less
nat_cmp-less a b h = grind arith

pub less-nat_cmp : (a b : ℕ) → nat_cmp a b ≡ Less → a < b
less-nat_cmp a b h = grind arith

pub at_most-nat_cmp : (a b : ℕ) → is_lt (nat_cmp a b) ≡ false → b ≤ a
at_most-nat_cmp a b h = grind arith

-- ---- one more function

each_apart : (fs : List Function) (f : Function) → list_any (meets f) fs ≡ false → (k : ℕ) (d : Function) → k < length fs → meets f (get_or fs k d) ≡ false
each_apart fs f none k d below =
    false_from (meets f (get_or fs k d)) (λ h. false≢true (sym none ∙ list_any_at (meets f) fs k d below h))

-- no function has the start of one that meets none
position-new : (fs : List Function) (f : Function) → AreApart fs → f.lo < f.hi → list_any (meets f) fs ≡ false → position (starts_at f.lo) fs ≡ None
position-new fs f apart ordered none = position-absent (starts_at f.lo) fs no_function (λ k below.
    false_from (starts_at f.lo (get_or fs k no_function)) (λ h.
    let same : (get_or fs k no_function).lo ≡ f.lo = eqb-true (get_or fs k no_function).lo f.lo h in
    let inside : (get_or fs k no_function).lo < (get_or fs k no_function).hi = All-get_or (λ (g : Function). g.lo < g.hi) fs k no_function below apart.ordered in
    let yes = both f.lo (get_or fs k no_function).hi (get_or fs k no_function).lo f.hi (omega arith) (omega arith) in
    false≢true (sym (each_apart fs f none k no_function below) ∙ yes)))

-- the places of the functions with one more
position-more : (fs : List Function) (f : Function) (a : ℕ) (b : Bool) → (f.lo == a) ≡ b → AreApart fs → f.lo < f.hi → list_any (meets f) fs ≡ false
    → position (starts_at a) (fs ++ f ∷ []) ≡ cond b (Some (length fs)) (position (starts_at a) fs)
position-more fs f a true at apart ordered none =
    let same : f.lo ≡ a = eqb-true f.lo a at in
    let new : position (starts_at a) fs ≡ None = rw same at (position-new fs f apart ordered none) in
    position-push_first (starts_at a) fs f new at
position-more fs f a false at apart ordered none = position-push_fails (starts_at a) fs f at

AreApart-more : (fs : List Function) (f : Function) → AreApart fs → f.lo < f.hi → list_any (meets f) fs ≡ false → AreApart (fs ++ f ∷ [])
AreApart-more fs f apart ordered none = record {
  apart = all_pairs_push (λ g h. meets g h ≡ false) fs f apart.apart (λ k d below. meets-swap (get_or fs k d) f ∙ each_apart fs f none k d below);
  ordered = All-push (λ g. g.lo < g.hi) fs f apart.ordered ordered;
}

is_at-nat_cmp : (a b : ℕ) → is_at (nat_cmp a) b ≡ (a == b)
is_at-nat_cmp a b = grind arith

pub IsIndexed-more : (fs : List Function) (f : Function) (m n : BTreeMap ℕ ℕ) → IsIndexed fs m → f.lo < f.hi → list_any (meets f) fs ≡ false
    → length fs + 1 < 2 ^ 32 → Updates nat_cmp m n f.lo (Some (length fs)) → IsIndexed (fs ++ f ∷ []) n
IsIndexed-more fs f m n index ordered none few updates = record {
  ranges = AreApart-more fs f index.ranges ordered none;
  few = simp length-append few;
  places = λ a.
      let more = position-more fs f a (f.lo == a) refl index.ranges ordered none in
      updates.0 a ∙ rw (is_at-nat_cmp f.lo a, index.places a) (sym more);
}
