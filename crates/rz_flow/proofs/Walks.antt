-- Walks, one edge longer and from end to end.
use Rattle.std.proofs.Common.{◌≡◌, ℕ, zero, suc, true, List, refl, sym, ◌∙◌, subst}
use Rattle.rz_links.specs.declared.arena.Family.{Family}
use Rattle.rz_links.specs.declared.arena.Family.TheVariants.{Out, In}
use Rattle.rz_aset.specs.Sets.{has, has_edge}
use Rattle.rz_flow.specs.Flow.{Flow, Walk, neighbours}
use Rattle.rz_flow.specs.Laws.Neighbours.{has-neighbours_out, has-neighbours_in}
use Rattle.rz_flow.specs.Calls.Linked.{IsReached}

-- an edge more at the end of a walk
walk_more : (edges : List (ℕ × ℕ)) (n a b c : ℕ) → Walk edges n a b → has_edge edges (b, c) ≡ true → Walk edges (suc n) a c
walk_more edges zero a b c w e = (c, subst (λ x. has_edge edges (x, c) ≡ true) (sym w) e, refl)
walk_more edges (suc n) a b c w e = (w.0, w.1, walk_more edges n w.0 b c w.2 e)

module _ (flow : Flow) (starts : List ℕ) where
  -- a start that is a node reaches itself
  pub reached_start : (f : Family) (s : ℕ) → has starts s ≡ true → has flow.nodes s ≡ true → IsReached f flow starts s
  reached_start Out s h k = (s, h, k, (zero, refl))
  reached_start In s h k = (s, h, k, (zero, refl))

  -- and so do the neighbours of what is reached
  pub reached_more : (f : Family) (a b : ℕ) → IsReached f flow starts a → has (neighbours f flow.edges a) b ≡ true → IsReached f flow starts b
  reached_more Out a b r h =
      (r.0, r.1, r.2, (suc r.3.0, walk_more flow.edges r.3.0 r.0 a b r.3.1 (sym (has-neighbours_out flow.edges a b) ∙ h)))
  reached_more In a b r h =
      (r.0, r.1, r.2, (suc r.3.0, (a, sym (has-neighbours_in flow.edges b a) ∙ h, r.3.1)))

  -- what has the starts, and the neighbours of each that it has, has all that is reached
  module _ (found : List ℕ) (begun : (s : ℕ) → has starts s ≡ true → has flow.nodes s ≡ true → has found s ≡ true) where
    along : (n a b : ℕ) → ((c d : ℕ) → has found c ≡ true → has_edge flow.edges (c, d) ≡ true → has found d ≡ true) → Walk flow.edges n a b → has found a ≡ true → has found b ≡ true
    along zero a b closed w h = subst (λ x. has found x ≡ true) w h
    along (suc n) a b closed w h = along n w.0 b closed w.2 (closed a w.0 h w.1)

    against : (n a b : ℕ) → ((c d : ℕ) → has found d ≡ true → has_edge flow.edges (c, d) ≡ true → has found c ≡ true) → Walk flow.edges n a b → has found b ≡ true → has found a ≡ true
    against zero a b closed w h = subst (λ x. has found x ≡ true) (sym w) h
    against (suc n) a b closed w h = closed a w.0 (against n w.0 b closed w.2 h) w.1

    pub all_reached : (f : Family) → ((a b : ℕ) → has found a ≡ true → has (neighbours f flow.edges a) b ≡ true → has found b ≡ true) → (b : ℕ) → IsReached f flow starts b → has found b ≡ true
    all_reached Out closed b r =
        along r.3.0 r.0 b (λ c d h e. closed c d h (has-neighbours_out flow.edges c d ∙ e)) r.3.1 (begun r.0 r.1 r.2)
    all_reached In closed b r =
        against r.3.0 b r.0 (λ c d h e. closed d c h (has-neighbours_in flow.edges c d ∙ e)) r.3.1 (begun r.0 r.1 r.2)
