-- What the calls that record one instruction leave of a kept set.
use Rattle.std.specs.Prelude.{◌≡◌, ◌⊎◌, ℕ, List, [], ◌∷◌, Option, Some, None}
use Rattle.rz_aset.specs.Sets.{with_address}
use Rattle.rz_machine.specs.Kept.{Edges, Kept, with_edges}

-- the edge from the instruction begun last, if there is one
abbrev pub edge_from : Option ℕ → ℕ → Edges
edge_from None at = []
edge_from (Some last) at = (last, at) ∷ []

-- a kept set with one more instruction begun
abbrev pub with_begun : Kept → Option ℕ → ℕ → Kept
with_begun kept last at = record { nodes = with_address kept.nodes at; edges = with_edges kept.edges (edge_from last at) }

-- a set of addresses is as it was, or has this one besides
abbrev pub IsSameOrWith : ℕ → List ℕ → List ℕ → Type 0
IsSameOrWith a old new = (new ≡ old) ⊎ (new ≡ with_address old a)
