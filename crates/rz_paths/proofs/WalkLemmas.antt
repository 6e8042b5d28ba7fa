-- What the two searches find are the nodes of walks.
use Rattle.std.proofs.Common.{◌≡◌, ℕ, Bool, true, ◌&&◌, ⊎_elim, List, [], ◌∷◌, nat_eq, sym, ◌∙◌, subst}
use Rattle.std.specs.Prelude.{◌↔◌}
use Rattle.rz_aset.specs.Sets.{has}
use Rattle.rz_paths.specs.Sets.{In, Edges, joins, Reached, begin, go}
use Rattle.rz_paths.specs.Program.{Program}
use Rattle.rz_paths.specs.Walks.{onward_at, is_outside, begins, ends, GoesOn, OnWalk}
use Rattle.rz_paths.specs.Laws.Booleans.{or_right, and_left, and_right, and_both, never, In-cons, In-head}

module _ (program : Program) (passing : ℕ → Bool) (recorded : List ℕ) where
  abbrev pub walk_leads : ℕ → ℕ → Bool
  walk_leads a b = has (onward_at program passing a) b && is_outside program recorded b

  outside_head : (a : ℕ) (rest : List ℕ) → GoesOn program passing recorded (a ∷ rest) → is_outside program recorded a ≡ true
  outside_head a [] h = h.0
  outside_head a (b ∷ rest) h = h.0

  module _ (first last ahead : List ℕ) (edges : Edges)
      (begun : (a : ℕ) → has first a ≡ (begins program recorded a && is_outside program recorded a))
      (found : (a : ℕ) → In ahead a ↔ Reached (In first) walk_leads a)
      (ended : (a : ℕ) → has last a ≡ (has ahead a && ends program passing recorded a))
      (linked : (a b : ℕ) → joins edges a b ≡ (has ahead a && walk_leads a b)) where
    abbrev pub against : ℕ → ℕ → Bool
    against b a = joins edges a b

    reached_outside : (a : ℕ) → Reached (In first) walk_leads a → is_outside program recorded a ≡ true
    reached_outside a (begin f) = and_right _ _ (sym (begun a) ∙ f)
    reached_outside b (go {a} r l) = and_right _ _ l

    -- each address of a list that goes on from a reached address is on a walk
    on_walk : (a : ℕ) → Reached (In first) walk_leads a →
        (rest : List ℕ) → GoesOn program passing recorded (a ∷ rest) → (x : ℕ) → In (a ∷ rest) x → OnWalk program passing recorded x
    on_walk a (begin f) rest goes x i = (a ∷ rest, (and_left _ _ (sym (begun a) ∙ f), goes), i)
    on_walk b (go {a} r l) rest goes x i =
        on_walk a r (b ∷ rest) (reached_outside a r, and_left _ _ l, goes) x (or_right (nat_eq a x) (has (b ∷ rest) x) i)

    -- what is marked was found and goes on to an end
    goes_on : (a : ℕ) → Reached (In last) against a → In ahead a × ((rest : List ℕ) × GoesOn program passing recorded (a ∷ rest))
    goes_on a (begin h) =
        let e : (has ahead a && ends program passing recorded a) ≡ true = sym (ended a) ∙ h in
        let i : In ahead a = and_left _ _ e in
        (i, ([], (reached_outside a ((found a).0 i), and_right _ _ e)))
    goes_on a (go {a = b} r h) =
        let e : (has ahead a && walk_leads a b) ≡ true = sym (linked a b) ∙ h in
        let i : In ahead a = and_left _ _ e in
        let l : walk_leads a b ≡ true = and_right _ _ e in
        let more = goes_on b r in
        (i, (b ∷ more.1.0, (reached_outside a ((found a).0 i), and_left _ _ l, more.1.1)))

    -- each address of a list that goes on from a found address is marked
    marked : (rest : List ℕ) (a : ℕ) → GoesOn program passing recorded (a ∷ rest) → In ahead a → (x : ℕ) → In (a ∷ rest) x → Reached (In last) against x
    marked [] a goes i x h =
        let P : ℕ → Type 0 = λ y. Reached (In last) against y in
        ⊎_elim (λ e. subst P (sym e) (begin (ended a ∙ and_both _ _ i goes.1))) (λ n. never n) (In-cons a [] x h)
    marked (b ∷ rest) a goes i x h =
        let l : walk_leads a b ≡ true = and_both _ _ goes.1 (outside_head b rest goes.2) in
        let ib : In ahead b = (found b).1 (go ((found a).0 i) l) in
        let here : Reached (In last) against b = marked rest b goes.2 ib b (In-head b rest) in
        let P : ℕ → Type 0 = λ y. Reached (In last) against y in
        ⊎_elim (λ e. subst P (sym e) (go here (linked a b ∙ and_both _ _ i l))) (λ r. marked rest b goes.2 ib x r) (In-cons a (b ∷ rest) x h)

    pub marked_are_walks : (a : ℕ) → Reached (In last) against a ↔ OnWalk program passing recorded a
    marked_are_walks a = (to, from)
      where
        to : Reached (In last) against a → OnWalk program passing recorded a
        to r = let g = goes_on a r in on_walk a ((found a).0 g.0) g.1.0 g.1.1 a (In-head a g.1.0)

        from : OnWalk program passing recorded a → Reached (In last) against a
        from ([], w, i) = absurd w
        from (x ∷ rest, w, i) =
            marked rest x w.1 ((found x).1 (begin (begun x ∙ and_both _ _ w.0 (outside_head x rest w.1)))) a i
