-- Where the kept edges from an address lead.
pub use Rattle.rz_machine.specs.Laws.Targets.{has_target}
use Rattle.std.proofs.Common.{◌≡◌, ℕ, true, ◌==◌, List, [], ◌∷◌, length, filter, refl, eq-eqb}
use Rattle.std.specs.List.{AllByRecursion}
use Rattle.std.proofs.lemmas.Bool.{or_left, or_right}
use Rattle.std.proofs.lemmas.List.{length-map}
use Rattle.rz_machine.specs.Kept.{Edges, has_node, sorted_edges, targets_of}

-- what holds of each member of a list
pub each_member : (P : ℕ → Type 0) (nodes : List ℕ) → ((a : ℕ) → has_node nodes a ≡ true → P a) → AllByRecursion P nodes
each_member P [] h = tt
each_member P (a ∷ rest) h =
    (h a (or_left (a == a) (has_node rest a) (eq-eqb a a refl)), each_member P rest (λ b m. h b (or_right (a == b) (has_node rest b) m)))

pub target_count : (edges : Edges) (a : ℕ) → length (targets_of edges a) ≡ length (filter (λ e. e.0 == a) (sorted_edges edges))
target_count edges a = length-map (filter (λ e. e.0 == a) (sorted_edges edges)) (λ (e : ℕ × ℕ). e.1)
