-- Graphs as edges are added one after the other.
use Rattle.std.proofs.Common.{◌≡◌, ℕ, Bool, true, false, ◌||◌, ◌&&◌, inl, inr, ⊎_elim, List, [], ◌∷◌, ◌++◌, nat_eq, refl, ap, ap₂, sym, ◌∙◌}
use Rattle.std.specs.Prelude.{◌↔◌}
use Rattle.std.proofs.lemmas.Bool.{eqb-true}
use Rattle.std.proofs.lemmas.List.Folds.{list_any-append}
use Rattle.rz_aset.specs.Sets.{has, is_same_edge}
use Rattle.rz_flow.specs.Flow.{Flow, IsReachedFrom}
use Rattle.rz_paths.specs.Sets.{In, Edges, joins, Reached}
use Rattle.rz_paths.specs.Program.{Program, is_ret_at}
use Rattle.rz_paths.specs.Returns.{IsReturnOf, returns_to}
use Rattle.rz_paths.specs.Calls.Inside.{IsJoined, IsInside, is_along_at, over_call, calls_back, starts_at, touches, AddsReturns, IsGrouped}
use Rattle.rz_paths.specs.Laws.Booleans.{or_cases, or_left, or_right, or_false, and_left, and_right, and_both, same_test, eqb_turned, never, In-cons}
use Rattle.rz_paths.proofs.FlowLemmas.{reached_from}
use Rattle.rz_paths.proofs.ReturnLemmas.{has-push, any_edge, callee_kept, calls_return, inside_reached, starts_touch, start_of}

pub push_joins : (es : Edges) (e : ℕ × ℕ) (a b : ℕ) → joins (es ++ e ∷ []) a b ≡ (joins es a b || (nat_eq a e.0 && nat_eq b e.1))
push_joins es e a b =
    list_any-append (λ d. is_same_edge d (a, b)) es (e ∷ [])
    ∙ ap (λ v. joins es a b || v) (or_false (nat_eq e.0 a && nat_eq e.1 b) ∙ ap₂ (λ x y. x && y) (eqb_turned e.0 a) (eqb_turned e.1 b))

-- one edge more, where its source passes a test
module _ (p : ℕ → Bool) (es flow : Edges) (e : ℕ × ℕ) (inv : (a b : ℕ) → joins flow a b ≡ (joins es a b && p a)) where
  pub along_kept : (flow' : Edges) → p e.0 ≡ true → ((a b : ℕ) → joins flow' a b ≡ (joins flow a b || (nat_eq a e.0 && nat_eq b e.1))) →
      (a b : ℕ) → joins flow' a b ≡ (joins (es ++ e ∷ []) a b && p a)
  along_kept flow' holds adds a b = same_test (joins flow' a b) (joins (es ++ e ∷ []) a b && p a) to from
    where
      to : joins flow' a b ≡ true → (joins (es ++ e ∷ []) a b && p a) ≡ true
      to h = ⊎_elim
          (λ o. let i : (joins es a b && p a) ≡ true = sym (inv a b) ∙ o in
          and_both (joins (es ++ e ∷ []) a b) (p a) (push_joins es e a b ∙ or_left (joins es a b) (nat_eq a e.0 && nat_eq b e.1) (and_left (joins es a b) (p a) i)) (and_right (joins es a b) (p a) i))
          (λ n. and_both (joins (es ++ e ∷ []) a b) (p a)
          (push_joins es e a b ∙ or_right (joins es a b) (nat_eq a e.0 && nat_eq b e.1) n)
          (ap p (eqb-true a e.0 (and_left (nat_eq a e.0) (nat_eq b e.1) n)) ∙ holds))
          (or_cases (joins flow a b) (nat_eq a e.0 && nat_eq b e.1) (sym (adds a b) ∙ h))

      from : (joins (es ++ e ∷ []) a b && p a) ≡ true → joins flow' a b ≡ true
      from h = adds a b ∙ ⊎_elim
          (λ o. or_left (joins flow a b) (nat_eq a e.0 && nat_eq b e.1) (inv a b ∙ and_both (joins es a b) (p a) o (and_right (joins (es ++ e ∷ []) a b) (p a) h)))
          (λ n. or_right (joins flow a b) (nat_eq a e.0 && nat_eq b e.1) n)
          (or_cases (joins es a b) (nat_eq a e.0 && nat_eq b e.1) (sym (push_joins es e a b) ∙ and_left (joins (es ++ e ∷ []) a b) (p a) h))

  pub along_passed : p e.0 ≡ false → (a b : ℕ) → joins flow a b ≡ (joins (es ++ e ∷ []) a b && p a)
  along_passed fails a b = same_test (joins flow a b) (joins (es ++ e ∷ []) a b && p a) to from
    where
      to : joins flow a b ≡ true → (joins (es ++ e ∷ []) a b && p a) ≡ true
      to o = let i : (joins es a b && p a) ≡ true = sym (inv a b) ∙ o in
          and_both (joins (es ++ e ∷ []) a b) (p a) (push_joins es e a b ∙ or_left (joins es a b) (nat_eq a e.0 && nat_eq b e.1) (and_left (joins es a b) (p a) i)) (and_right (joins es a b) (p a) i)

      from : (joins (es ++ e ∷ []) a b && p a) ≡ true → joins flow a b ≡ true
      from h = ⊎_elim
          (λ o. inv a b ∙ and_both (joins es a b) (p a) o (and_right (joins (es ++ e ∷ []) a b) (p a) h))
          (λ n. never (sym fails ∙ ap p (sym (eqb-true a e.0 (and_left (nat_eq a e.0) (nat_eq b e.1) n))) ∙ and_right (joins (es ++ e ∷ []) a b) (p a) h))
          (or_cases (joins es a b) (nat_eq a e.0 && nat_eq b e.1) (sym (push_joins es e a b) ∙ and_left (joins (es ++ e ∷ []) a b) (p a) h))

-- the graph of a list of edges, with one more
pub linked_more : (es : Edges) (e : ℕ × ℕ) (flow flow' : Flow) →
    ((a : ℕ) → has flow.nodes a ≡ touches es a) × ((a b : ℕ) → joins flow.edges a b ≡ joins es a b) →
    ((a : ℕ) → has flow'.nodes a ≡ (has flow.nodes a || (nat_eq a e.0 || nat_eq a e.1))) →
    ((a b : ℕ) → joins flow'.edges a b ≡ (joins flow.edges a b || (nat_eq a e.0 && nat_eq b e.1))) →
    ((a : ℕ) → has flow'.nodes a ≡ touches (es ++ e ∷ []) a) × ((a b : ℕ) → joins flow'.edges a b ≡ joins (es ++ e ∷ []) a b)
linked_more es e flow flow' inv ns ts = (
  λ a. ns a ∙ ap (λ v. v || (nat_eq a e.0 || nat_eq a e.1)) (inv.0 a) ∙ sym (list_any-append (λ d. nat_eq a d.0 || nat_eq a d.1) es (e ∷ []) ∙ ap (λ v. touches es a || v) (or_false (nat_eq a e.0 || nat_eq a e.1))),
  λ a b. ts a b ∙ ap (λ v. v || (nat_eq a e.0 && nat_eq b e.1)) (inv.1 a b) ∙ sym (push_joins es e a b),
)

over_more : (e d o q n : Bool) → (q ≡ true → n ≡ o) → ((e || (d && o)) || (q && n)) ≡ (e || ((d || q) && o))
over_more true d o q n h = refl
over_more false true true q n h = refl
over_more false true false true n h = h refl
over_more false true false false n h = refl
over_more false false o true n h = h refl
over_more false false o false n h = refl

-- the graph of what leaves some nodes, with one more
pub flow_more : (leads : ℕ → ℕ → Bool) (done found : List ℕ) (x : ℕ) (flow flow' : Flow) →
    ((a : ℕ) → In done a → In flow.nodes a) × ((a b : ℕ) → joins flow.edges a b ≡ (has done a && leads a b)) →
    ((b : ℕ) → has found b ≡ leads x b) →
    ((a : ℕ) → has flow'.nodes a ≡ (has flow.nodes a || (nat_eq a x || has found a))) →
    ((a b : ℕ) → joins flow'.edges a b ≡ (joins flow.edges a b || (nat_eq a x && has found b))) →
    ((a : ℕ) → In (done ++ x ∷ []) a → In flow'.nodes a) × ((a b : ℕ) → joins flow'.edges a b ≡ (has (done ++ x ∷ []) a && leads a b))
flow_more leads done found x flow flow' inv same ns ts = (
  λ a i. ns a ∙ ⊎_elim
      (λ o. or_left (has flow.nodes a) (nat_eq a x || has found a) (inv.0 a o))
      (λ n. or_right (has flow.nodes a) (nat_eq a x || has found a) (or_left (nat_eq a x) (has found a) n))
      (or_cases (has done a) (nat_eq a x) (sym (has-push done x a) ∙ i)),
  λ a b. ts a b
      ∙ ap (λ v. v || (nat_eq a x && has found b)) (inv.1 a b)
      ∙ over_more false (has done a) (leads a b) (nat_eq a x) (has found b) (λ e. same b ∙ ap (λ y. leads y b) (sym (eqb-true a x e)))
      ∙ ap (λ v. v && leads a b) (sym (has-push done x a)),
)

module _ (program : Program) (nodes : List ℕ) (edges : Edges) where
  -- the steps over the calls among the nodes so far
  pub record Stepped (done : List ℕ) (flow : Flow) : Type 0 where
    pub all : (a : ℕ) → In done a → In flow.nodes a
    pub steps : (a b : ℕ) → joins flow.edges a b ≡ ((joins edges a b && is_along_at program a) || (has done a && over_call program nodes a b))

  pub stepped_none : (flow : Flow) → ((a b : ℕ) → joins flow.edges a b ≡ (joins edges a b && is_along_at program a)) → Stepped [] flow
  stepped_none flow h = record {
    all = λ a i. never i;
    steps = λ a b. h a b ∙ sym (or_false (joins edges a b && is_along_at program a));
  }

  pub stepped_more : (done next : List ℕ) (x : ℕ) (flow flow' : Flow) → Stepped done flow →
      ((b : ℕ) → has next b ≡ over_call program nodes x b) →
      ((a : ℕ) → has flow'.nodes a ≡ (has flow.nodes a || (nat_eq a x || has next a))) →
      ((a b : ℕ) → joins flow'.edges a b ≡ (joins flow.edges a b || (nat_eq a x && has next b))) →
      Stepped (done ++ x ∷ []) flow'
  stepped_more done next x flow flow' s over ns ts = record {
    all = λ a i. ns a ∙ ⊎_elim
        (λ o. or_left (has flow.nodes a) (nat_eq a x || has next a) (s.all a o))
        (λ n. or_right (has flow.nodes a) (nat_eq a x || has next a) (or_left (nat_eq a x) (has next a) n))
        (or_cases (has done a) (nat_eq a x) (sym (has-push done x a) ∙ i));
    steps = λ a b. ts a b
        ∙ ap (λ v. v || (nat_eq a x && has next b)) (s.steps a b)
        ∙ over_more (joins edges a b && is_along_at program a) (has done a) (over_call program nodes a b) (nat_eq a x) (has next b)
        (λ e. over b ∙ ap (λ y. over_call program nodes y b) (sym (eqb-true a x e)))
        ∙ ap (λ v. (joins edges a b && is_along_at program a) || (v && over_call program nodes a b)) (sym (has-push done x a));
  }

  pub stepped_all : (flow : Flow) → Stepped nodes flow → IsInside program nodes edges flow
  stepped_all flow s = record { all = s.all; steps = s.steps }

  -- what follows the call of one edge more
  pub back_more : (es back back' : Edges) (e : ℕ × ℕ) (next : List ℕ) →
      ((f r : ℕ) → joins back f r ≡ calls_back program nodes es f r) →
      ((r : ℕ) → has next r ≡ over_call program nodes e.0 r) →
      ((f r : ℕ) → joins back' f r ≡ (joins back f r || (nat_eq f e.1 && has next r))) →
      (f r : ℕ) → joins back' f r ≡ calls_back program nodes (es ++ e ∷ []) f r
  back_more es back back' e next inv over adds f r =
      adds f r
      ∙ ap (λ v. v || (nat_eq f e.1 && has next r)) (inv f r)
      ∙ ap (λ v. calls_back program nodes es f r || (nat_eq f e.1 && v)) (over r)
      ∙ sym (list_any-append (λ d. nat_eq f d.1 && over_call program nodes d.0 r) es (e ∷ [])
      ∙ ap (λ v. calls_back program nodes es f r || v) (or_false (nat_eq f e.1 && over_call program nodes e.0 r)))

  module _ (joined : IsJoined nodes edges) where
    -- the kept returns among what is reached
    pub returns_found : (flow : Flow) → IsInside program nodes edges flow → (f : ℕ) → In nodes f → (start reached list : List ℕ) →
        ((a : ℕ) → has start a ≡ has (f ∷ []) a) →
        ((x : ℕ) → In reached x ↔ IsReachedFrom flow start x) →
        ((x : ℕ) → has list x ≡ (has reached x && (is_ret_at program x && has nodes x))) →
        (x : ℕ) → In list x ↔ IsReturnOf program nodes (joins edges) f x
    returns_found flow inside f here start reached list only exact tests x = (to, from)
      where
        known : (s : ℕ) → In start s → In flow.nodes s
        known s i = inside.all s (⊎_elim (λ e. ap (has nodes) e ∙ here) (λ n. never n) (In-cons f [] s (sym (only s) ∙ i)))

        way : IsReachedFrom flow start x ↔ Reached (In start) (joins flow.edges) x
        way = reached_from flow start known x

        same : Reached (In start) (joins flow.edges) x ↔ Reached (In (f ∷ [])) (Rattle.rz_paths.specs.Returns.steps_inside program nodes (joins edges)) x
        same = inside_reached program nodes edges joined flow inside f start only here x

        to : In list x → IsReturnOf program nodes (joins edges) f x
        to i =
            let h : (has reached x && (is_ret_at program x && has nodes x)) ≡ true = sym (tests x) ∙ i in
            let rest : (is_ret_at program x && has nodes x) ≡ true = and_right (has reached x) (is_ret_at program x && has nodes x) h in
            record {
              ret = and_left (is_ret_at program x) (has nodes x) rest;
              kept = and_right (is_ret_at program x) (has nodes x) rest;
              reached = same.0 (way.0 ((exact x).0 (and_left (has reached x) (is_ret_at program x && has nodes x) h)));
            }

        from : IsReturnOf program nodes (joins edges) f x → In list x
        from r = tests x ∙ and_both (has reached x) (is_ret_at program x && has nodes x) ((exact x).1 (way.1 (same.1 r.reached))) (and_both (is_ret_at program x) (has nodes x) r.ret r.kept)

    module _ (back : Edges) (backs : (f r : ℕ) → joins back f r ≡ calls_back program nodes edges f r) where
      -- a callee is kept
      pub start_kept : (f : ℕ) → starts_at back f ≡ true → In nodes f
      start_kept f h =
          let some = any_edge (λ e. nat_eq f e.0) back h in
          let same : f ≡ some.0 = eqb-true f some.0 some.3 in
          callee_kept program nodes edges joined f some.1 (sym (backs f some.1) ∙ ap (λ y. joins back y some.1) same ∙ some.2)

      pub back_returns : (f r : ℕ) → joins back f r ≡ returns_to program nodes (joins edges) f r
      back_returns f r = backs f r ∙ calls_return program nodes edges joined f r

      pub grouped : (callees : List ℕ) (after : Flow) → ((a : ℕ) → has callees a ≡ starts_at back a) → ((a : ℕ) → has after.nodes a ≡ touches back a) →
          ((a b : ℕ) → joins after.edges a b ≡ joins back a b) → IsGrouped program nodes edges callees after
      grouped callees after starts touched same = record {
        kept = λ f i. start_kept f (sym (starts f) ∙ i);
        known = λ f i. touched f ∙ starts_touch back f (sym (starts f) ∙ i);
        all = λ f r h. starts f ∙ start_of back f r (back_returns f r ∙ h);
        returns = λ f r. same f r ∙ back_returns f r;
      }

-- what a product of returns and of what follows adds
pub returns_added : (program : Program) (nodes : List ℕ) (edges after : Edges) (f : ℕ) (old new : Edges) (returns next : List ℕ) →
    ((x : ℕ) → In returns x ↔ IsReturnOf program nodes (joins edges) f x) →
    ((r : ℕ) → has next r ≡ joins after f r) →
    ((x r : ℕ) → joins new x r ≡ (joins old x r || (has returns x && has next r))) →
    AddsReturns program nodes edges after f old new
returns_added program nodes edges after f old new returns next is ends adds x r = (
  λ h. ⊎_elim inl
      (λ b. inr ((is x).0 (and_left (has returns x) (has next r) b), sym (ends r) ∙ and_right (has returns x) (has next r) b))
      (or_cases (joins old x r) (has returns x && has next r) (sym (adds x r) ∙ h)),
  λ s. adds x r ∙ ⊎_elim
      (λ o. or_left (joins old x r) (has returns x && has next r) o)
      (λ b. or_right (joins old x r) (has returns x && has next r) (and_both (has returns x) (has next r) ((is x).1 b.0) (ends r ∙ b.1)))
      s,
)
