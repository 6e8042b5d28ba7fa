-- What a memo says of a kept set stands when more is added, and adding it again changes nothing.
use Rattle.std.proofs.Common.{◌≡◌, ℕ, Bool, true, false, ◌&&◌, ◌||◌, ◌==◌, List, [], ◌∷◌, Option, Some, get_or, refl, ap₂, ◌∙◌, eq-eqb}
use Rattle.std.proofs.lemmas.Bool.{or_left, or_right}
use Rattle.rz_aset.specs.Sets.{with_address}
use Rattle.rz_machine.specs.Kept.{Kept, Edges, has_node, has_edge, with_edges}
use Rattle.rz_machine.specs.Laws.Sets.{has_node-with_nodes, has_edge-with_edges}
use Rattle.rz_trace.specs.declared.memo.Edge.{Edge}
use Rattle.rz_trace.specs.declared.memo.Memo.{Memo}
use Rattle.rz_trace.specs.Calls.Begun.{edge_from, with_begun}
use Rattle.rz_trace.specs.Calls.Memo.{IsKept, Knows}

-- a known edge added again
pub with_begun-known : (kept : Kept) (e : Edge) → IsKept kept e → kept ≡ with_begun kept (Some e.from) e.to
with_begun-known kept e h =
    let nodes : kept.nodes ≡ with_address kept.nodes e.to = rw h.1 refl in
    let edges : kept.edges ≡ with_edges kept.edges ((e.from, e.to) ∷ []) = rw h.0 refl in
    ap₂ (λ (u : List ℕ) (v : Edges). let r : Kept = record { nodes = u; edges = v } in r) nodes edges

module _ (kept : Kept) (last : Option ℕ) (at : ℕ) where
  -- what is kept stays
  kept_stays : (e : Edge) → IsKept kept e → IsKept (with_begun kept last at) e
  kept_stays e h = (
    has_edge-with_edges kept.edges (edge_from last at) e.from e.to ∙ or_left (has_edge kept.edges e.from e.to) (has_edge (edge_from last at) e.from e.to) h.0,
    has_node-with_nodes kept.nodes (at ∷ []) e.to ∙ or_left (has_node kept.nodes e.to) (has_node (at ∷ []) e.to) h.1,
  )

  pub Knows-more : (memo : Memo) → Knows kept memo → Knows (with_begun kept last at) memo
  Knows-more memo h = λ k d lt. kept_stays (get_or memo.edges.items k d) (h k d lt)

-- what was added is there
pub added_kept : (kept : Kept) (e : Edge) → IsKept (with_begun kept (Some e.from) e.to) e
added_kept kept e = (
  has_edge-with_edges kept.edges ((e.from, e.to) ∷ []) e.from e.to ∙ or_right (has_edge kept.edges e.from e.to) _ (itself e.from e.to),
  has_node-with_nodes kept.nodes (e.to ∷ []) e.to ∙ or_right (has_node kept.nodes e.to) _ (or_left (e.to == e.to) false (eq-eqb e.to e.to refl)),
)
  where
    itself : (a b : ℕ) → ((a == a && b == b) || false) ≡ true
    itself a b = or_left (a == a && b == b) false (ap₂ (λ (p q : Bool). p && q) (eq-eqb a a refl) (eq-eqb b b refl))
