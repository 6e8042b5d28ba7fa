-- The edges from returns, callee by callee.
use Rattle.std.proofs.Common.{◌≡◌, ℕ, Bool, true, false, ◌||◌, ◌&&◌, ◌==◌, ◌⊎◌, inl, inr, ⊎_elim, List, [], ◌∷◌, ◌++◌, Option, Some, None, nat_eq, eq-eqb, refl, ap, sym, ◌∙◌, subst}
use Rattle.std.specs.Prelude.{◌↔◌}
use Rattle.std.specs.List.{list_any}
use Rattle.std.proofs.lemmas.Bool.{eqb-true}
use Rattle.std.proofs.lemmas.List.Folds.{list_any-append}
use Rattle.rz_isa.specs.declared.instruction.Kind.{Kind}
use Rattle.rz_isa.specs.declared.instruction.Kind.TheVariants.{Plain, Jcc, Jrcxz, Jmp, Call, CallInd, JmpInd, Ret, Syscall, Halt}
use Rattle.rz_aset.specs.Sets.{has}
use Rattle.rz_flow.specs.Flow.{Flow}
use Rattle.rz_paths.specs.declared.node.Node.{Node}
use Rattle.rz_paths.specs.Sets.{In, Edges, joins, Reached, begin, go}
use Rattle.rz_paths.specs.Program.{Program}
use Rattle.rz_paths.specs.Returns.{is_call, is_call_before, step_by, step_of, steps_inside, IsReturnOf, IsReturn, returns_to, is_first, IsKept}
use Rattle.rz_paths.specs.Calls.Inside.{IsJoined, IsInside, is_along, along_of, is_along_at, over_call, calls_back, starts_at, touches}
use Rattle.rz_paths.specs.Laws.Booleans.{or_cases, or_left, or_right, or_false, and_left, and_right, and_both, same_test, eqb_turned, never, In-cons, any_some, some_any}

pub has-push : (xs : List ℕ) (y a : ℕ) → has (xs ++ y ∷ []) a ≡ (has xs a || nat_eq a y)
has-push xs y a = list_any-append (λ x. nat_eq x a) xs (y ∷ []) ∙ ap (λ v. has xs a || v) (or_false (nat_eq y a) ∙ eqb_turned y a)

-- an edge of a list passes a test
pub any_edge : (p : ℕ × ℕ → Bool) (edges : Edges) → list_any p edges ≡ true → (c : ℕ) × (f : ℕ) × (joins edges c f ≡ true) × (p (c, f) ≡ true)
any_edge p [] h = never h
any_edge p ((c, f) ∷ edges) h = ⊎_elim
    (λ e. (c, f, or_left (nat_eq c c && nat_eq f f) (joins edges c f) (and_both (nat_eq c c) (nat_eq f f) (eq-eqb c c refl) (eq-eqb f f refl)), e))
    (λ r. let more = any_edge p edges r in
    (more.0, more.1, or_right (nat_eq c more.0 && nat_eq f more.1) (joins edges more.0 more.1) more.2, more.3))
    (or_cases (p (c, f)) (list_any p edges) h)

pub edge_any : (p : ℕ × ℕ → Bool) (edges : Edges) (c f : ℕ) → joins edges c f ≡ true → p (c, f) ≡ true → list_any p edges ≡ true
edge_any p [] c f i h = i
edge_any p ((d, g) ∷ edges) c f i h = ⊎_elim
    (λ e.
    let x : c ≡ d = sym (eqb-true d c (and_left (nat_eq d c) (nat_eq g f) e)) in
    let y : f ≡ g = sym (eqb-true g f (and_right (nat_eq d c) (nat_eq g f) e)) in
    or_left (p (d, g)) (list_any p edges) (rw (x, y) at h))
    (λ r. or_right (p (d, g)) (list_any p edges) (edge_any p edges c f r h))
    (or_cases (nat_eq d c && nat_eq g f) (joins edges c f) i)

module _ (program : Program) (nodes : List ℕ) (edges : Edges) (joined : IsJoined nodes edges) where
  -- the calls of a callee, edge by edge and node by node
  pub calls_return : (f r : ℕ) → calls_back program nodes edges f r ≡ returns_to program nodes (joins edges) f r
  calls_return f r = same_test (calls_back program nodes edges f r) (returns_to program nodes (joins edges) f r) to from
    where
      to : calls_back program nodes edges f r ≡ true → returns_to program nodes (joins edges) f r ≡ true
      to h =
          let some = any_edge (λ e. nat_eq f e.1 && over_call program nodes e.0 r) edges h in
          let same : f ≡ some.1 = eqb-true f some.1 (and_left (nat_eq f some.1) (over_call program nodes some.0 r) some.3) in
          let over : over_call program nodes some.0 r ≡ true = and_right (nat_eq f some.1) (over_call program nodes some.0 r) some.3 in
          let edge : joins edges some.0 f ≡ true = ap (joins edges some.0) same ∙ some.2 in
          and_both (has nodes r) (list_any (λ c. is_call_before program c r && joins edges c f) nodes)
          (and_left (has nodes r) (is_call_before program some.0 r) over)
          (some_any (λ c. is_call_before program c r && joins edges c f) nodes some.0 (joined.sources some.0 f edge)
          (and_both (is_call_before program some.0 r) (joins edges some.0 f) (and_right (has nodes r) (is_call_before program some.0 r) over) edge))

      from : returns_to program nodes (joins edges) f r ≡ true → calls_back program nodes edges f r ≡ true
      from h =
          let kept : has nodes r ≡ true = and_left (has nodes r) (list_any (λ c. is_call_before program c r && joins edges c f) nodes) h in
          let some = any_some (λ c. is_call_before program c r && joins edges c f) nodes (and_right (has nodes r) (list_any (λ c. is_call_before program c r && joins edges c f) nodes) h) in
          let before : is_call_before program some.0 r ≡ true = and_left (is_call_before program some.0 r) (joins edges some.0 f) some.2 in
          let edge : joins edges some.0 f ≡ true = and_right (is_call_before program some.0 r) (joins edges some.0 f) some.2 in
          edge_any (λ e. nat_eq f e.1 && over_call program nodes e.0 r) edges some.0 f edge
          (and_both (nat_eq f f) (over_call program nodes some.0 r) (eq-eqb f f refl) (and_both (has nodes r) (is_call_before program some.0 r) kept before))

  -- a callee is kept
  pub callee_kept : (f r : ℕ) → calls_back program nodes edges f r ≡ true → In nodes f
  callee_kept f r h =
      let some = any_edge (λ e. nat_eq f e.1 && over_call program nodes e.0 r) edges h in
      let same : f ≡ some.1 = eqb-true f some.1 (and_left (nat_eq f some.1) (over_call program nodes some.0 r) some.3) in
      ap (has nodes) same ∙ joined.ends some.0 some.1 some.2

  module _ (flow : Flow) (inside : IsInside program nodes edges flow) where
    -- the step from a kept node, in the graph and by its kind
    step_same : (o : Option Node) (edge kept : Bool) (b : ℕ) → ((edge && along_of o) || (kept && Rattle.rz_paths.specs.Returns.call_of o b)) ≡ step_of o kept edge b
    step_same None edge kept b = by edge kept
      where
        by : (e k : Bool) → ((e && false) || (k && false)) ≡ false
        by true true = refl
        by true false = refl
        by false true = refl
        by false false = refl
    step_same (Some n) edge kept b = at n.kind
      where
        call : (e k v : Bool) → ((e && false) || (k && v)) ≡ (k && v)
        call true k v = refl
        call false k v = refl

        other : (e k : Bool) → ((e && true) || (k && false)) ≡ e
        other true k = refl
        other false true = refl
        other false false = refl

        none : (e k : Bool) → ((e && false) || (k && false)) ≡ false
        none true true = refl
        none true false = refl
        none false true = refl
        none false false = refl

        at : (k : Kind) → ((edge && is_along k) || (kept && (is_call k && n.next == b))) ≡ step_by k n.next kept edge b
        at Call = call edge kept (n.next == b)
        at CallInd = call edge kept (n.next == b)
        at Ret = none edge kept
        at Plain = other edge kept
        at Jcc = other edge kept
        at Jrcxz = other edge kept
        at Jmp = other edge kept
        at JmpInd = other edge kept
        at Syscall = other edge kept
        at Halt = other edge kept

    step_is : (a b : ℕ) → In nodes a → joins flow.edges a b ≡ steps_inside program nodes (joins edges) a b
    step_is a b i =
        inside.steps a b
        ∙ ap (λ v. (joins edges a b && is_along_at program a) || (v && over_call program nodes a b)) i
        ∙ step_same (program a) (joins edges a b) (has nodes b) b

    step_kept : (a b : ℕ) → joins flow.edges a b ≡ true → In nodes a × In nodes b
    step_kept a b h = ⊎_elim
        (λ s. let e = and_left (joins edges a b) (is_along_at program a) s in (joined.sources a b e, joined.ends a b e))
        (λ s. (and_left (has nodes a) (over_call program nodes a b) s, and_left (has nodes b) (is_call_before program a b) (and_right (has nodes a) (over_call program nodes a b) s)))
        (or_cases (joins edges a b && is_along_at program a) (has nodes a && over_call program nodes a b) (sym (inside.steps a b) ∙ h))

    module _ (f : ℕ) (start : List ℕ) (only : (a : ℕ) → has start a ≡ has (f ∷ []) a) (here : In nodes f) where
      start_kept : (a : ℕ) → In (f ∷ []) a → In nodes a
      start_kept a i = ⊎_elim (λ e. ap (has nodes) e ∙ here) (λ n. never n) (In-cons f [] a i)

      to : (x : ℕ) → Reached (In start) (joins flow.edges) x → Reached (In (f ∷ [])) (steps_inside program nodes (joins edges)) x
      to x (begin s) = begin (sym (only x) ∙ s)
      to x (go {a} r l) = go (to a r) (sym (step_is a x (step_kept a x l).0) ∙ l)

      from : (x : ℕ) → Reached (In (f ∷ [])) (steps_inside program nodes (joins edges)) x → Reached (In start) (joins flow.edges) x × In nodes x
      from x (begin s) = (begin (only x ∙ s), start_kept x s)
      from x (go {a} r l) =
          let more = from a r in
          let step : joins flow.edges a x ≡ true = step_is a x more.1 ∙ l in
          (go more.0 step, (step_kept a x step).1)

      pub inside_reached : (x : ℕ) → Reached (In start) (joins flow.edges) x ↔ Reached (In (f ∷ [])) (steps_inside program nodes (joins edges)) x
      inside_reached x = (to x, λ r. (from x r).0)

module _ (program : Program) (nodes : List ℕ) (edge : ℕ → ℕ → Bool) where
  -- an edge from x to r for one of the callees
  pub record IsFor (done : List ℕ) (x r : ℕ) : Type 0 where
    pub callee : ℕ
    pub among : In done callee
    pub after : returns_to program nodes edge callee r ≡ true
    pub return : IsReturnOf program nodes edge callee x

  -- what was found is what there is for the callees so far
  pub record Gathered (done : List ℕ) (found : Edges) : Type 0 where
    pub sound : (x r : ℕ) → joins found x r ≡ true → IsFor done x r
    pub whole : (x r : ℕ) → IsFor done x r → joins found x r ≡ true

  pub Gathered-none : Gathered [] []
  Gathered-none = record { sound = λ x r h. never h; whole = λ x r i. i.among }

  pub Gathered-more : (done : List ℕ) (found found' : Edges) (f : ℕ) (after : Edges) → Gathered done found →
      ((r : ℕ) → joins after f r ≡ returns_to program nodes edge f r) →
      ((x r : ℕ) → (joins found' x r ≡ true) ↔ ((joins found x r ≡ true) ⊎ (IsReturnOf program nodes edge f x × (joins after f r ≡ true)))) →
      Gathered (done ++ f ∷ []) found'
  Gathered-more done found found' f after g ends adds = record { sound = sound; whole = whole }
    where
      sound : (x r : ℕ) → joins found' x r ≡ true → IsFor (done ++ f ∷ []) x r
      sound x r h = ⊎_elim
          (λ o. let i = g.sound x r o in record { callee = i.callee; among = has-push done f i.callee ∙ or_left (has done i.callee) (nat_eq i.callee f) i.among; after = i.after; return = i.return })
          (λ b. record { callee = f; among = has-push done f f ∙ or_right (has done f) (nat_eq f f) (eq-eqb f f refl); after = sym (ends r) ∙ b.1; return = b.0 })
          ((adds x r).0 h)

      new : (x r : ℕ) → returns_to program nodes edge f r ≡ true → IsReturnOf program nodes edge f x → joins found' x r ≡ true
      new x r a i = (adds x r).1 (inr (i, ends r ∙ a))

      whole : (x r : ℕ) → IsFor (done ++ f ∷ []) x r → joins found' x r ≡ true
      whole x r i = ⊎_elim
          (λ d. (adds x r).1 (inl (g.whole x r (record { callee = i.callee; among = d; after = i.after; return = i.return }))))
          (λ e. let P : ℕ → Type 0 = λ y. returns_to program nodes edge y r ≡ true in let Q : ℕ → Type 0 = λ y. IsReturnOf program nodes edge y x in
          new x r (subst P (eqb-true i.callee f e) i.after) (subst Q (eqb-true i.callee f e) i.return))
          (or_cases (has done i.callee) (nat_eq i.callee f) (sym (has-push done f i.callee) ∙ i.among))

  pub Gathered-all : (done : List ℕ) (found : Edges) → Gathered done found →
      ((f r : ℕ) → returns_to program nodes edge f r ≡ true → In done f) →
      (x r : ℕ) → (joins found x r ≡ true) ↔ IsReturn program nodes edge x r
  Gathered-all done found g all x r = (
    λ h. let i = g.sound x r h in (i.callee, i.after, i.return),
    λ i. g.whole x r (record { callee = i.0; among = all i.0 r i.1; after = i.1; return = i.2 }),
  )

-- the first edges with those from returns are the kept ones
pub edges_kept : (program : Program) (recorded : Edges) (nodes : List ℕ) (first back set : Edges) →
    ((a b : ℕ) → joins first a b ≡ is_first program recorded nodes a b) →
    ((x r : ℕ) → (joins back x r ≡ true) ↔ IsReturn program nodes (joins first) x r) →
    ((a b : ℕ) → joins set a b ≡ (joins first a b || joins back a b)) →
    (a b : ℕ) → (joins set a b ≡ true) ↔ IsKept program recorded nodes a b
edges_kept program recorded nodes first back set firsts backs sets a b = (to, from)
  where
    same : joins first ≡ is_first program recorded nodes
    same = λ i x y. firsts x y i

    to : joins set a b ≡ true → IsKept program recorded nodes a b
    to h = ⊎_elim
        (λ f. inl (sym (firsts a b) ∙ f))
        (λ k. inr (subst (λ edge. IsReturn program nodes edge a b) same ((backs a b).0 k)))
        (or_cases (joins first a b) (joins back a b) (sym (sets a b) ∙ h))

    from : IsKept program recorded nodes a b → joins set a b ≡ true
    from k = sets a b ∙ ⊎_elim
        (λ f. or_left (joins first a b) (joins back a b) (firsts a b ∙ f))
        (λ r. or_right (joins first a b) (joins back a b) ((backs a b).1 (subst (λ edge. IsReturn program nodes edge a b) (sym same) r)))
        k

-- the first edges join the nodes
pub first_joined : (program : Program) (recorded : Edges) (nodes : List ℕ) (first : Edges) → IsJoined nodes recorded →
    ((a b : ℕ) → joins first a b ≡ is_first program recorded nodes a b) → IsJoined nodes first
first_joined program recorded nodes first j firsts = record {
  sources = λ a b h. (both a b h).0;
  ends = λ a b h. (both a b h).1;
}
  where
    both : (a b : ℕ) → joins first a b ≡ true → In nodes a × In nodes b
    both a b h = ⊎_elim
        (λ r. (j.sources a b r, j.ends a b r))
        (λ s. let rest = and_right (has nodes a) (has (Rattle.rz_paths.specs.Program.direct_at program a) b && has nodes b) s in
        (and_left (has nodes a) (has (Rattle.rz_paths.specs.Program.direct_at program a) b && has nodes b) s, and_right (has (Rattle.rz_paths.specs.Program.direct_at program a) b) (has nodes b) rest))
        (or_cases (joins recorded a b) (has nodes a && (has (Rattle.rz_paths.specs.Program.direct_at program a) b && has nodes b)) (sym (firsts a b) ∙ h))

-- where an edge begins, it begins or ends
pub starts_touch : (edges : Edges) (a : ℕ) → starts_at edges a ≡ true → touches edges a ≡ true
starts_touch edges a h =
    let some = any_edge (λ e. nat_eq a e.0) edges h in
    edge_any (λ e. nat_eq a e.0 || nat_eq a e.1) edges some.0 some.1 some.2 (or_left (nat_eq a some.0) (nat_eq a some.1) some.3)

pub start_of : (edges : Edges) (a b : ℕ) → joins edges a b ≡ true → starts_at edges a ≡ true
start_of edges a b h = edge_any (λ e. nat_eq a e.0) edges a b h (eq-eqb a a refl)
