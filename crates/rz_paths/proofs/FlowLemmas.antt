-- What walks of a graph reach is the least set that is closed under its edges.
use Rattle.std.proofs.Common.{◌≡◌, ℕ, zero, suc, Bool, true, List, refl, sym, ◌∙◌, subst, ap}
use Rattle.std.specs.Prelude.{◌↔◌}
use Rattle.rz_aset.specs.Sets.{has, has_edge}
use Rattle.rz_flow.specs.Flow.{Flow, Walk, IsReachedFrom, ReachesTo}
use Rattle.rz_paths.specs.Sets.{In, Edges, joins, Reached, begin, go}

walk_more : (edges : Edges) (n a b c : ℕ) → Walk edges n a b → joins edges b c ≡ true → Walk edges (suc n) a c
walk_more edges zero a b c w e = (c, subst (λ x. has_edge edges (x, c) ≡ true) (sym w) e, refl)
walk_more edges (suc n) a b c w e = (w.0, w.1, walk_more edges n w.0 b c w.2 e)

module _ (flow : Flow) (starts : List ℕ) (known : (s : ℕ) → In starts s → In flow.nodes s) where
  along : (n a b : ℕ) → Walk flow.edges n a b → Reached (In starts) (joins flow.edges) a → Reached (In starts) (joins flow.edges) b
  along zero a b w r = let P : ℕ → Type 0 = λ x. Reached (In starts) (joins flow.edges) x in subst P w r
  along (suc n) a b w r = along n w.0 b w.2 (go r w.1)

  from : (b : ℕ) → Reached (In starts) (joins flow.edges) b → IsReachedFrom flow starts b
  from b (begin s) = (b, s, known b s, (zero, refl))
  from b (go {a} r e) = let f = from a r in (f.0, f.1, f.2, (suc f.3.0, walk_more flow.edges f.3.0 f.0 a b f.3.1 e))

  pub reached_from : (b : ℕ) → IsReachedFrom flow starts b ↔ Reached (In starts) (joins flow.edges) b
  reached_from b = (λ r. along r.3.0 r.0 b r.3.1 (begin r.1), from b)

  -- against the edges
  abbrev pub against : ℕ → ℕ → Bool
  against b a = joins flow.edges a b

  back : (n a b : ℕ) → Walk flow.edges n a b → In starts b → Reached (In starts) against a
  back zero a b w s = begin (ap (has starts) w ∙ s)
  back (suc n) a b w s = go (back n w.0 b w.2 s) w.1

  to : (a : ℕ) → Reached (In starts) against a → ReachesTo flow starts a
  to a (begin s) = (a, s, known a s, (zero, refl))
  to a (go {a = b} r e) = let t = to b r in (t.0, t.1, t.2, (suc t.3.0, (b, e, t.3.1)))

  pub reaches_to : (a : ℕ) → ReachesTo flow starts a ↔ Reached (In starts) against a
  reaches_to a = (λ r. back r.3.0 a r.0 r.3.1 r.1, to a)
