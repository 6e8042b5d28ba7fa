-- The search for the bodies of functions that are brought in.
use Rattle.std.proofs.Common.{◌≡◌, ◌+◌, ◌<◌, ◌≤◌, ℕ, Bool, true, false, ◌||◌, ◌&&◌, ◌⊎◌, inl, inr, ⊎_elim, List, [], Some, is_some, not, length, slice_get, nat_eq, eq-eqb, ap, sym, ◌∙◌, subst, arith}
use Rattle.std.specs.Prelude.{◌↔◌}
use Rattle.std.proofs.lemmas.Bool.{cases_lt, eqb-true}
use Rattle.std.proofs.lemmas.Option.{same_Some, slice_get-get_or, slice_get_within}
use Rattle.rz_aset.specs.Sets.{has, with_addresses}
use Rattle.rz_aset.specs.Laws.Places.{has_at, place_of, with_addresses-at}
use Rattle.rz_classes.specs.declared.listed.Function.{Function}
use Rattle.rz_paths.specs.Sets.{In, Reached, begin, go}
use Rattle.rz_paths.specs.Program.{Program}
use Rattle.rz_paths.specs.Walks.{is_outside, OnWalk}
use Rattle.rz_paths.specs.Bodies.{is_inner_at, body_leads, function_at, called_of, InBody, calls, InFunctions, kept, walk, body}
use Rattle.rz_paths.specs.Calls.Brought.{called_among, InBrought, first, more}
use Rattle.rz_paths.specs.Laws.Booleans.{or_cases, or_left, or_right, and_left, and_right, and_both, never, any_some, some_any}
use Rattle.rz_paths.proofs.Members.{has-more_old, has-more_new, has-more_cases}

module _ (program : Program) (passing : ℕ → Bool) (functions : List Function) (recorded walks : List ℕ) where
  -- what is brought in, and calls at walk nodes or in it
  abbrev Called : ℕ → Type 0
  Called f = (c : ℕ) × ((In walks c) ⊎ InBrought program passing functions recorded walks c) × (calls program passing recorded c f ≡ true)

  pub record Bringing (starts bodies : List ℕ) (followed : ℕ) : Type 0 where
    pub sound : (f : ℕ) → In starts f → Called f
    pub inside : (a : ℕ) → In bodies a → InBrought program passing functions recorded walks a
    pub begun : (c f : ℕ) → In walks c → calls program passing recorded c f ≡ true → In starts f
    pub whole : (k f a : ℕ) → k < followed → slice_get starts k ≡ Some f → InBody program passing functions f a → In bodies a
    pub closed : (k f c g : ℕ) → k < followed → slice_get starts k ≡ Some f → InBody program passing functions f c → calls program passing recorded c g ≡ true → In starts g
    pub within : followed ≤ length starts

  pub bringing_start : (found : List ℕ) → ((f : ℕ) → has found f ≡ called_among program passing recorded walks f) → Bringing (with_addresses [] found) [] 0
  bringing_start found called = record {
    sound = λ f i. ⊎_elim (λ n. never n)
        (λ s. let some = any_some (λ c. calls program passing recorded c f) walks (sym (called f) ∙ s) in (some.0, inl some.1, some.2))
        (has-more_cases [] found f i);
    inside = λ a i. never i;
    begun = λ c f w h. has-more_new [] found f (called f ∙ some_any (λ d. calls program passing recorded d f) walks c w h);
    whole = λ k f a lt. absurd (omega arith);
    closed = λ k f c g lt. absurd (omega arith);
    within = omega arith;
  }

  brought_by : (c f a : ℕ) → (In walks c) ⊎ InBrought program passing functions recorded walks c → calls program passing recorded c f ≡ true → InBody program passing functions f a → InBrought program passing functions recorded walks a
  brought_by c f a s h i = ⊎_elim (λ w. first c f w h i) (λ b. more c f b h i) s

  module _ (starts bodies members found : List ℕ) (followed f : ℕ) (here : slice_get starts followed ≡ Some f)
      (exact : (a : ℕ) → In members a ↔ InBody program passing functions f a)
      (called : (g : ℕ) → has found g ≡ called_among program passing recorded members g)
      (b : Bringing starts bodies followed) where
    caller : Called f
    caller = b.sound f (has_at starts followed f here)

    member : (a : ℕ) → In members a → InBrought program passing functions recorded walks a
    member a i = brought_by caller.0 f a caller.1 caller.2 ((exact a).0 i)

    old_or_here : (k g : ℕ) → k < followed + 1 → slice_get (with_addresses starts found) k ≡ Some g → ((k < followed) × (slice_get starts k ≡ Some g)) ⊎ (g ≡ f)
    old_or_here k g lt e =
        elim (cases_lt k followed) [
          | inl old ↦
              let at = place_at k old in
              let is : g ≡ at.0 = same_Some g at.0 (sym e ∙ with_addresses-at starts found k at.0 at.1) in
              inl (old, at.1 ∙ ap Some (sym is))
          | inr ge ↦
              let k-is : k ≡ followed = omega arith in
              inr (same_Some g f (sym e ∙ ap (slice_get (with_addresses starts found)) k-is ∙ with_addresses-at starts found followed f here))
        ]
      where
        place_at : (k : ℕ) → k < followed → (x : ℕ) × (slice_get starts k ≡ Some x)
        place_at k lt = (_, slice_get-get_or starts k 0 (let w = b.within in omega arith))

    pub bringing_step : Bringing (with_addresses starts found) (with_addresses bodies members) (followed + 1)
    bringing_step = record {
      sound = λ g i. ⊎_elim (b.sound g)
          (λ n. let some = any_some (λ c. calls program passing recorded c g) members (sym (called g) ∙ n) in (some.0, inr (member some.0 some.1), some.2))
          (has-more_cases starts found g i);
      inside = λ a i. ⊎_elim (b.inside a) (member a) (has-more_cases bodies members a i);
      begun = λ c g w h. has-more_old starts found g (b.begun c g w h);
      whole = λ k g a lt e i. ⊎_elim
          (λ old. has-more_old bodies members a (b.whole k g a old.0 old.1 i))
          (λ is. let P : ℕ → Type 0 = λ y. InBody program passing functions y a in
          has-more_new bodies members a ((exact a).1 (subst P is i)))
          (old_or_here k g lt e);
      closed = λ k g c h lt e i l. ⊎_elim
          (λ old. has-more_old starts found h (b.closed k g c h old.0 old.1 i l))
          (λ is. let P : ℕ → Type 0 = λ y. InBody program passing functions y c in
          has-more_new starts found h (called h ∙ some_any (λ d. calls program passing recorded d h) members c ((exact c).1 (subst P is i)) l))
          (old_or_here k g lt e);
      within = let lt = slice_get_within (with_addresses starts found) followed f (with_addresses-at starts found followed f here) in omega arith;
    }

  pub bringing_end : (starts bodies : List ℕ) (followed : ℕ) → length starts ≤ followed → Bringing starts bodies followed →
      (a : ℕ) → In bodies a ↔ InBrought program passing functions recorded walks a
  bringing_end starts bodies followed all b a = (b.inside a, back)
    where
      owner : (a : ℕ) → InBrought program passing functions recorded walks a → (f : ℕ) × In starts f × InBody program passing functions f a
      owner a (first c f w h i) = (f, b.begun c f w h, i)
      owner a (more c f k h i) =
          let o = owner c k in
          let at = place_of starts o.0 o.1 in
          let lt = slice_get_within starts at.0 o.0 at.1 in
          (f, b.closed at.0 o.0 c f (omega arith) at.1 o.2 h, i)

      back : InBrought program passing functions recorded walks a → In bodies a
      back i =
          let o = owner a i in
          let at = place_of starts o.0 o.1 in
          let lt = slice_get_within starts at.0 o.0 at.1 in
          b.whole at.0 o.0 a (omega arith) at.1 o.2

  module _ (bodies : List ℕ) (walked : (a : ℕ) → In walks a ↔ OnWalk program passing recorded a)
      (brought : (a : ℕ) → In bodies a ↔ InBrought program passing functions recorded walks a) where
    brought_kept : (a : ℕ) → InBrought program passing functions recorded walks a → InFunctions program passing functions recorded a
    brought_kept a (first c f w h i) = body (walk ((walked c).0 w)) h i
    brought_kept a (more c f k h i) = body (brought_kept c k) h i

    recorded_inside : (x y : Bool) → y ≡ true → (x && not y) ≡ true → ⊥
    recorded_inside x true e h = cc (and_right x false h)
    recorded_inside x false e h = cc

    covered : (a : ℕ) → InFunctions program passing functions recorded a → (In recorded a) ⊎ ((In walks a) ⊎ InBrought program passing functions recorded walks a)
    covered a (kept i) = inl i
    covered a (walk w) = inr (inl ((walked a).1 w))
    covered a (body {c} {f} k h i) = ⊎_elim
        (λ r. absurd (recorded_inside (is_some (program c)) (has recorded c) r (and_left (is_outside program recorded c) (called_of passing (program c) f) h)))
        (λ s. inr (inr (brought_by c f a s h i)))
        (covered c k)

    pub functions_found : (a : ℕ) → ((In recorded a) ⊎ ((In walks a) ⊎ In bodies a)) ↔ InFunctions program passing functions recorded a
    functions_found a = (
      λ s. ⊎_elim (λ i. kept i) (λ t. ⊎_elim (λ w. walk ((walked a).0 w)) (λ f. brought_kept a ((brought a).0 f)) t) s,
      λ i. ⊎_elim inl (λ t. inr (⊎_elim inl (λ f. inr ((brought a).1 f)) t)) (covered a i),
    )

-- a union of three that is what it should be
pub three : {X : Type 0} (s r m w f : Bool) → s ≡ (r || m) → m ≡ (w || f) → ((r ≡ true) ⊎ ((w ≡ true) ⊎ (f ≡ true))) ↔ X → (s ≡ true) ↔ X
three s r m w f e d h = (
  λ i. h.0 (⊎_elim (λ x. inl x) (λ x. inr (or_cases w f (sym d ∙ x))) (or_cases r m (sym e ∙ i))),
  λ x. e ∙ ⊎_elim (λ i. or_left r m i) (λ t. or_right r m (d ∙ ⊎_elim (λ i. or_left w f i) (λ i. or_right w f i) t)) (h.1 x),
)

-- the start of a body, where one may be
pub body_starts : (program : Program) (passing : ℕ → Bool) (functions : List Function) (f : ℕ) (firsts set : List ℕ) →
    ((a : ℕ) → has firsts a ≡ (nat_eq a f && is_inner_at program passing f)) →
    ((a : ℕ) → In set a ↔ Reached (In firsts) (body_leads program passing (function_at functions f)) a) →
    (a : ℕ) → In set a ↔ InBody program passing functions f a
body_starts program passing functions f firsts set starts exact a = (λ i. to a ((exact a).0 i), λ r. (exact a).1 (from a r))
  where
    start : (a : ℕ) → In firsts a → (f ≡ a) × (is_inner_at program passing a ≡ true)
    start a i =
        let both : (nat_eq a f && is_inner_at program passing f) ≡ true = sym (starts a) ∙ i in
        let same : a ≡ f = eqb-true a f (and_left (nat_eq a f) (is_inner_at program passing f) both) in
        (sym same, ap (is_inner_at program passing) same ∙ and_right (nat_eq a f) (is_inner_at program passing f) both)

    started : (a : ℕ) → (f ≡ a) × (is_inner_at program passing a ≡ true) → In firsts a
    started a s = starts a ∙ and_both (nat_eq a f) (is_inner_at program passing f) (eq-eqb a f (sym s.0)) (ap (is_inner_at program passing) s.0 ∙ s.1)

    to : (a : ℕ) → Reached (In firsts) (body_leads program passing (function_at functions f)) a → InBody program passing functions f a
    to a (begin s) = begin (start a s)
    to b (go {a} r l) = go (to a r) l

    from : (a : ℕ) → InBody program passing functions f a → Reached (In firsts) (body_leads program passing (function_at functions f)) a
    from a (begin s) = begin (started a s)
    from b (go {a} r l) = go (from a r) l
