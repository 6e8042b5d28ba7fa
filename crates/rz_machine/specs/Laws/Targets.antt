-- Where the kept edges from an address lead.
use Rattle.std.proofs.Common.{◌≡◌, ℕ, Bool, true, false, ◌&&◌, ◌||◌, ◌==◌, if◌then◌else◌, [], ◌∷◌, map, filter, refl, ap, ◌∙◌}
use Rattle.rz_machine.specs.Kept.{Edges, has_node, has_edge, sorted_edges, targets_of}
use Rattle.rz_machine.specs.Laws.Sets.{has_edge-sorted}

leads_to : (edges : Edges) (a b : ℕ) → has_node (map (λ e. e.1) (filter (λ e. e.0 == a) edges)) b ≡ has_edge edges a b
leads_to [] a b = refl
leads_to (e ∷ edges) a b = go (e.0 == a) (leads_to edges a b)
  where
    go : (v : Bool) → has_node (map (λ d. d.1) (filter (λ d. d.0 == a) edges)) b ≡ has_edge edges a b
        → has_node (map (λ d. d.1) (if v then e ∷ filter (λ d. d.0 == a) edges else filter (λ d. d.0 == a) edges)) b ≡ ((v && (e.1 == b)) || has_edge edges a b)
    go true ih = ap (λ r. (e.1 == b) || r) ih
    go false ih = ih

-- the targets are those of the kept edges
pub has_target : (edges : Edges) (a b : ℕ) → has_node (targets_of edges a) b ≡ has_edge edges a b
has_target edges a b = leads_to (sorted_edges edges) a b ∙ has_edge-sorted edges a b

-- as tests
pub targets_keep : (edges : Edges) (a : ℕ) → has_node (targets_of edges a) ≡ has_edge edges a
targets_keep edges a = λ i b. has_target edges a b i
