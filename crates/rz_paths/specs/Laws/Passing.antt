-- Where a list has what passes a test, and the calls that levels step over.
use Rattle.std.proofs.Common.{◌≡◌, ◌+◌, ◌==◌, ◌&&◌, ◌||◌, ℕ, zero, suc, Bool, true, false, List, [], ◌∷◌, ◌++◌, Option, Some, None, is_some, nat_lt, if◌then◌else◌, length, slice_get, take, bytes_eq, nat_eq, ⊎_elim, refl, ap, ap₂, sym, ◌∙◌, arith}
use Rattle.std.specs.List.{list_any, position, position_or_len}
use Rattle.std.proofs.lemmas.Bool.{eqb-true}
use Rattle.std.proofs.lemmas.List.Folds.{list_any_more, list_any-append}
use Rattle.std.proofs.lemmas.Option.{none-some, same_Some, slice_get_within, get_or_from_slice_get}
use Rattle.std.specs.Option.{option_map}
use Rattle.std.specs.Borrow.{Bor}
use Rattle.std.proofs.lemmas.Grind.{common_steps}
use Rattle.std.proofs.lemmas.Slice.Eq.{bytes_eq-Decides}
use Rattle.indexmap.specs.IndexSet.{insert_key}
use Rattle.rz_aset.specs.Sets.{has}
use Rattle.rz_classes.specs.declared.listed.Function.{Function}
use Rattle.rz_paths.specs.declared.level.Level.TheVariants.{Zlib, Zfunc}
use Rattle.rz_paths.specs.Levels.{is_live, passes}
use Rattle.rz_paths.specs.Laws.Booleans.{or_cases, or_left, or_right, or_false, and_left, and_right, and_both, and_yes, and_no, never, eqb_turned, same_test}

some_if : (v : Bool) (k : ℕ) → is_some (if v then Some k else None) ≡ v
some_if true k = refl
some_if false k = refl

within : {X : Type 0} (p : X → Bool) (xs : List X) → nat_lt (position_or_len p xs) (length xs) ≡ list_any p xs
within p [] = refl
within p (x ∷ xs) = let rest = within p xs in grind (arith, common_steps)

pub is_some-position : {X : Type 0} (p : X → Bool) (xs : List X) → is_some (position p xs) ≡ list_any p xs
is_some-position p xs = some_if (nat_lt (position_or_len p xs) (length xs)) (position_or_len p xs) ∙ within p xs

-- a list has a function that passes a test
pub any_function : (p : Function → Bool) (list : List Function) → list_any p list ≡ true → (n : ℕ) × (f : Function) × (slice_get list n ≡ Some f) × (p f ≡ true)
any_function p [] h = never h
any_function p (g ∷ list) h = ⊎_elim
    (λ e. (zero, g, refl, e))
    (λ r. let more = any_function p list r in (suc more.0, more.1, more.2, more.3))
    (or_cases (p g) (list_any p list) h)

pub function_any : (p : Function → Bool) (list : List Function) (n : ℕ) (f : Function) → slice_get list n ≡ Some f → p f ≡ true → list_any p list ≡ true
function_any p [] n f e h = absurd (none-some f e)
function_any p (g ∷ list) zero f e h = or_left (p g) (list_any p list) (ap p (same_Some g f e) ∙ h)
function_any p (g ∷ list) (suc n) f e h = or_right (p g) (list_any p list) (function_any p list n f e h)

bytes_same : (xs : List ℕ) → bytes_eq xs xs ≡ true
bytes_same xs = (bytes_eq-Decides xs xs).1 refl

-- calls that zlib steps over zfunc steps over
pub zlib_zfunc : (functions : List Function) (recorded : List ℕ) (t : ℕ) → passes Zlib functions recorded t ≡ true → passes Zfunc functions recorded t ≡ true
zlib_zfunc functions recorded t h =
    let some = any_function (λ f. f.lo == t) functions (and_left (list_any (λ f. f.lo == t) functions) (has recorded t) h) in
    let kept : has recorded t ≡ true = and_right (list_any (λ f. f.lo == t) functions) (has recorded t) h in
    let f : Function = some.1 in
    function_any (λ g. g.lo == t && is_live functions recorded g.class) functions some.0 f some.2
    (and_both (f.lo == t) (is_live functions recorded f.class) some.3
    (function_any (λ g. bytes_eq f.class g.class && has recorded g.lo) functions some.0 f some.2
    (and_both (bytes_eq f.class f.class) (has recorded f.lo) (bytes_same f.class) (ap (has recorded) (eqb-true f.lo t some.3) ∙ kept))))

-- one more function
any_more : (p : Function → Bool) (list : List Function) (i : ℕ) (f : Function) → slice_get list i ≡ Some f →
    list_any p (take (i + 1) list) ≡ (list_any p (take i list) || p f)
any_more p list i f e =
    list_any_more p list i f (slice_get_within list i f e)
    ∙ ap (λ g. list_any p (take i list) || p g) (get_or_from_slice_get list i f f e)

-- a function whose range and class are looked up
module _ (functions : List Function) (i : ℕ) (range : ℕ × ℕ) (own : List ℕ)
    (at : option_map (λ f. (f.lo, f.hi)) (slice_get functions i) ≡ Some range)
    (of : option_map (λ f. f.class) (slice_get functions i) ≡ Some own) where
  listed : (f : Function) × (slice_get functions i ≡ Some f) × (f.lo ≡ range.0) × (f.class ≡ own)
  listed = go (slice_get functions i) refl at of
    where
      go : (v : Option Function) → slice_get functions i ≡ v → option_map (λ f. (f.lo, f.hi)) v ≡ Some range →
          option_map (λ f. f.class) v ≡ Some own → (f : Function) × (slice_get functions i ≡ Some f) × (f.lo ≡ range.0) × (f.class ≡ own)
      go None e r c = absurd (none-some range r)
      go (Some f) e r c = (f, e, ap (λ p. p.0) (same_Some (f.lo, f.hi) range r), same_Some f.class own c)

  module _ (recorded : List ℕ) where
    live_more : (class : List ℕ) → is_live (take (i + 1) functions) recorded class
        ≡ (is_live (take i functions) recorded class || (bytes_eq class own && has recorded range.0))
    live_more class =
        any_more (λ g. bytes_eq class g.class && has recorded g.lo) functions i listed.0 listed.1
        ∙ ap₂ (λ c l. is_live (take i functions) recorded class || (bytes_eq class c && has recorded l)) listed.3 listed.2

    -- one more class is noted, where the function was recorded
    pub class_noted : (old new : List ℕ → Bool) → ((c : List ℕ) → old c ≡ is_live (take i functions) recorded c) →
        ((c : List ℕ) → new c ≡ (old c || bytes_eq c own)) → has recorded range.0 ≡ true →
        (c : List ℕ) → new c ≡ is_live (take (i + 1) functions) recorded c
    class_noted old new before noted kept c =
        noted c ∙ ap (λ b. b || bytes_eq c own) (before c)
        ∙ sym (live_more c ∙ ap (λ b. is_live (take i functions) recorded c || b) (and_yes (bytes_eq c own) (has recorded range.0) kept))

    pub class_left : (old : List ℕ → Bool) → ((c : List ℕ) → old c ≡ is_live (take i functions) recorded c) →
        has recorded range.0 ≡ false → (c : List ℕ) → old c ≡ is_live (take (i + 1) functions) recorded c
    class_left old before not_kept c =
        before c
        ∙ sym (live_more c ∙ ap (λ b. is_live (take i functions) recorded c || b) (and_no (bytes_eq c own) (has recorded range.0) not_kept)
        ∙ or_false (is_live (take i functions) recorded c))

    -- the starts of those of some functions whose class was recorded
    abbrev pub starts_live : List Function → ℕ → Bool
    starts_live some t = list_any (λ f. f.lo == t && is_live functions recorded f.class) some

    starts_more : (t : ℕ) → starts_live (take (i + 1) functions) t
        ≡ (starts_live (take i functions) t || (nat_eq t range.0 && is_live functions recorded own))
    starts_more t =
        any_more (λ f. f.lo == t && is_live functions recorded f.class) functions i listed.0 listed.1
        ∙ ap₂ (λ c l. starts_live (take i functions) t || (l == t && is_live functions recorded c)) listed.3 listed.2
        ∙ ap (λ b. starts_live (take i functions) t || (b && is_live functions recorded own)) (eqb_turned range.0 t)

    -- one more start is added, where its class was recorded
    pub start_added : (old new : List ℕ) → ((t : ℕ) → has old t ≡ starts_live (take i functions) t) →
        ((a : ℕ) → has new a ≡ (has old a || nat_eq a range.0)) → is_live functions recorded own ≡ true →
        (t : ℕ) → has new t ≡ starts_live (take (i + 1) functions) t
    start_added old new before added live t =
        added t ∙ ap (λ b. b || nat_eq t range.0) (before t)
        ∙ sym (starts_more t ∙ ap (λ b. starts_live (take i functions) t || b) (and_yes (nat_eq t range.0) (is_live functions recorded own) live))

    pub start_left : (old : List ℕ) → ((t : ℕ) → has old t ≡ starts_live (take i functions) t) →
        is_live functions recorded own ≡ false → (t : ℕ) → has old t ≡ starts_live (take (i + 1) functions) t
    start_left old before dead t =
        before t
        ∙ sym (starts_more t ∙ ap (λ b. starts_live (take i functions) t || b) (and_no (nat_eq t range.0) (is_live functions recorded own) dead)
        ∙ or_false (starts_live (take i functions) t))

-- one more name
pub noted_more : (names : List (Bor (List ℕ))) (name : Bor (List ℕ)) (n : List ℕ) →
    list_any (λ x. bytes_eq n x.now) (insert_key (λ x y. bytes_eq x.now y.now) names name) ≡ (list_any (λ x. bytes_eq n x.now) names || bytes_eq n name.now)
noted_more names name n = go (list_any (λ x. bytes_eq name.now x.now) names) refl
  where
    there : list_any (λ x. bytes_eq name.now x.now) names ≡ true → bytes_eq n name.now ≡ true → list_any (λ x. bytes_eq n x.now) names ≡ true
    there h e = ap (λ m. list_any (λ x. bytes_eq m x.now) names) ((bytes_eq-Decides n name.now).0 e) ∙ h

    go : (v : Bool) → list_any (λ x. bytes_eq name.now x.now) names ≡ v →
        list_any (λ x. bytes_eq n x.now) (if v then names else names ++ name ∷ []) ≡ (list_any (λ x. bytes_eq n x.now) names || bytes_eq n name.now)
    go true h = same_test (list_any (λ x. bytes_eq n x.now) names) (list_any (λ x. bytes_eq n x.now) names || bytes_eq n name.now)
        (λ i. or_left (list_any (λ x. bytes_eq n x.now) names) (bytes_eq n name.now) i)
        (λ i. ⊎_elim (λ o. o) (λ e. there h e) (or_cases (list_any (λ x. bytes_eq n x.now) names) (bytes_eq n name.now) i))
    go false h =
        list_any-append (λ x. bytes_eq n x.now) names (name ∷ [])
        ∙ ap (λ v. list_any (λ x. bytes_eq n x.now) names || v) (or_false (bytes_eq n name.now))
