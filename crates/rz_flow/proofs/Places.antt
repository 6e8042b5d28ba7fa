-- The places of the edges that pass a test, and a walk along a list of them.
use Rattle.std.proofs.Common.{◌≡◌, ◌+◌, ◌-◌, ◌<◌, ◌≤◌, ℕ, zero, suc, Bool, true, false, cond, if◌then◌else◌, Option, Some, None, List, [], ◌∷◌, ◌++◌, length, map, filter, take, get_or, slice_get, inl, inr, refl, sym, ap, ◌∙◌, arith, ◌==◌, zero-add}
use Rattle.std.proofs.lemmas.List.{take_all, map_more}
use Rattle.std.proofs.lemmas.Option.{none-some, slice_get_within, slice_get_cases, get_or_from_slice_get}
use Rattle.rz_links.specs.declared.arena.Family.{Family}
use Rattle.rz_flow.specs.Flow.{near, far, neighbours}
use Rattle.rz_flow.specs.Calls.Linked.{places}

within_cons : (i c : ℕ) (A : List ℕ) (k m : ℕ) → ((j : ℕ) → slice_get A j ≡ Some m → (i ≤ m) × (m < i + suc c)) → slice_get (i ∷ A) k ≡ Some m → (i ≤ m) × (m < i + suc c)
within_cons i c A zero m f h = let same : i ≡ m = cc in (omega arith, omega arith)
within_cons i c A (suc j) m f h = f j h

ascend_cons : (i : ℕ) (A : List ℕ) (k m n : ℕ) → ((j : ℕ) → slice_get A j ≡ Some m → slice_get A (suc j) ≡ Some n → m < n) → (slice_get A zero ≡ Some n → i < n) → slice_get (i ∷ A) k ≡ Some m → slice_get A k ≡ Some n → m < n
ascend_cons i A zero m n f g h e = let same : i ≡ m = cc in omega (arith, g e)
ascend_cons i A (suc j) m n f g h e = f j h e

add_zero_right : (n : ℕ) → n + 0 ≡ n
add_zero_right n = omega arith

module _ (p : ℕ × ℕ → Bool) where
  -- one edge more
  pub places-push : (i n : ℕ) (es : List (ℕ × ℕ)) (e : ℕ × ℕ) → n ≡ i + length es → places p i (es ++ e ∷ []) ≡ places p i es ++ (if p e then n ∷ [] else [])
  places-push i n [] e h = let same : i ≡ n = omega arith in rw same refl
  places-push i n (x ∷ es) e h =
      let rest = places-push (suc i) n es e (omega arith) in
      elim (p x) as (λ b. cond b (i ∷ places p (suc i) (es ++ e ∷ [])) (places p (suc i) (es ++ e ∷ [])) ≡ cond b (i ∷ places p (suc i) es) (places p (suc i) es) ++ cond (p e) (n ∷ []) []) [
        | true ↦ ap (λ xs. i ∷ xs) rest
        | false ↦ rest
      ]

  -- each is the place of an edge
  pub places_within : (i : ℕ) (es : List (ℕ × ℕ)) (k m : ℕ) → slice_get (places p i es) k ≡ Some m → (i ≤ m) × (m < i + length es)
  places_within i [] k m = λ h. absurd (none-some m h)
  places_within i (x ∷ es) k m =
      let later : (j : ℕ) → slice_get (places p (suc i) es) j ≡ Some m → (i ≤ m) × (m < i + suc (length es)) = λ j h. let w = places_within (suc i) es j m h in (omega (arith, w.0), omega (arith, w.1)) in
      elim (p x) as (λ b. slice_get (cond b (i ∷ places p (suc i) es) (places p (suc i) es)) k ≡ Some m → (i ≤ m) × (m < i + suc (length es))) [
        | true ↦ within_cons i (length es) (places p (suc i) es) k m later
        | false ↦ later k
      ]

  -- they ascend
  pub places_ascend : (i : ℕ) (es : List (ℕ × ℕ)) (k m n : ℕ) → slice_get (places p i es) k ≡ Some m → slice_get (places p i es) (suc k) ≡ Some n → m < n
  places_ascend i [] k m n = λ h g. absurd (none-some m h)
  places_ascend i (x ∷ es) k m n =
      elim (p x) as (λ b. slice_get (cond b (i ∷ places p (suc i) es) (places p (suc i) es)) k ≡ Some m → slice_get (cond b (i ∷ places p (suc i) es) (places p (suc i) es)) (suc k) ≡ Some n → m < n) [
        | true ↦ ascend_cons i (places p (suc i) es) k m n (λ j. places_ascend (suc i) es j m n) (λ h. omega (arith, (places_within (suc i) es zero n h).0))
        | false ↦ places_ascend (suc i) es k m n
      ]

  -- what stands at the places
  pub map-places : {B : Type 0} (f : ℕ × ℕ → B) (all : List (ℕ × ℕ)) (i : ℕ) (es : List (ℕ × ℕ)) → ((k : ℕ) → k < length es → get_or all (i + k) (0, 0) ≡ get_or es k (0, 0)) → map (λ e. f (get_or all e (0, 0))) (places p i es) ≡ map f (filter p es)
  map-places f all i [] h = refl
  map-places {B} f all i (x ∷ es) h =
      let rest = map-places f all (suc i) es (λ k l. let e : suc i + k ≡ i + suc k = omega arith in rw e (h (suc k) (omega arith))) in
      let first : get_or all i (0, 0) ≡ x = rw (add_zero_right i) at (h 0 (omega arith)) in
      let g : ℕ → B = λ e. f (get_or all e (0, 0)) in
      elim (p x) as (λ b. map g (cond b (i ∷ places p (suc i) es) (places p (suc i) es)) ≡ map f (cond b (x ∷ filter p es) (filter p es))) [
        | true ↦ rw (first, rest) refl
        | false ↦ rest
      ]

-- how far a walk along a list is from its end
abbrev pub rank : ℕ → Option ℕ → ℕ
rank n None = 0
rank n (Some e) = n - e

-- a walk along a list has read its first items
pub record Walked (L : List ℕ) (f : ℕ → ℕ) (at : Option ℕ) (found : List ℕ) : Type 0 where
  pub place : ℕ
  pub here : at ≡ slice_get L place
  pub taken : found ≡ map f (take place L)

module _ {L : List ℕ} {f : ℕ → ℕ} {at : Option ℕ} {found : List ℕ} where
  pub walked_on : (e x : ℕ) (next : Option ℕ) (found' : List ℕ) (w : Walked L f at found) → at ≡ Some e → next ≡ slice_get L (w.place + 1) → x ≡ f e → found' ≡ found ++ x ∷ [] → Walked L f next found'
  walked_on e x next found' w s h same more =
      let read : slice_get L w.place ≡ Some e = sym w.here ∙ s in
      let lt = slice_get_within L w.place e read in
      record {
        place = w.place + 1;
        here = h;
        taken = rw (more, same, map_more f L w.place e lt, get_or_from_slice_get L w.place e e read) (ap (λ xs. xs ++ f e ∷ []) w.taken);
      }

  pub walked_all : Walked L f at found → at ≡ None → found ≡ map f L
  walked_all w s =
      elim (slice_get_cases L w.place).1 [
        | inl h ↦ absurd (none-some h.0 (sym s ∙ w.here ∙ h.2))
        | inr h ↦ w.taken ∙ ap (map f) (take_all w.place L h.0)
      ]

  module _ (p : ℕ × ℕ → Bool) (es : List (ℕ × ℕ)) (same : L ≡ places p 0 es) where
    pub walked_within : (e : ℕ) → Walked L f at found → at ≡ Some e → e < length es
    walked_within e w s = omega (arith, (places_within p 0 es w.place e (rw (← same) (sym w.here ∙ s))).1)

    pub walked_smaller : (e : ℕ) (next : Option ℕ) (w : Walked L f at found) → at ≡ Some e → next ≡ slice_get L (suc w.place) → rank (length es) next < rank (length es) at
    walked_smaller e None w s h = rw s (omega (arith, walked_within e w s))
    walked_smaller e (Some e') w s h =
        let here : slice_get (places p 0 es) w.place ≡ Some e = rw (← same) (sym w.here ∙ s) in
        let there : slice_get (places p 0 es) (suc w.place) ≡ Some e' = rw (← same) (sym h) in
        rw s (omega (arith, places_ascend p 0 es w.place e e' here there, (places_within p 0 es (suc w.place) e' there).1))

-- a walk to the end of the list of a node has read its neighbours
pub walked_neighbours : {at : Option ℕ} {found : List ℕ} (f : Family) (es : List (ℕ × ℕ)) (a : ℕ) (L : List ℕ) → L ≡ places (λ e. near f e == a) 0 es → Walked L (λ e. far f (get_or es e (0, 0))) at found → at ≡ None → found ≡ neighbours f es a
walked_neighbours f es a L same w s =
    walked_all w s ∙ ap (map (λ e. far f (get_or es e (0, 0)))) same
    ∙ map-places (λ e. near f e == a) (far f) es 0 es (λ k l. ap (λ j. get_or es j (0, 0)) (zero-add k))
