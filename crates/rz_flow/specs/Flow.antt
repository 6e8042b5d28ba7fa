-- Graphs of addresses, and their walks.
use Rattle.std.specs.Prelude.{◌≡◌, ◌==◌, ℕ, zero, suc, IsTrue, List, filter, map}
use Rattle.rz_links.specs.declared.arena.Family.{Family}
use Rattle.rz_links.specs.declared.arena.Family.TheVariants.{Out, In}
use Rattle.rz_aset.specs.Sets.{has, has_edge}

-- the nodes, and the edges between them, each once in the order in which they were added
pub record Flow : Type 0 where
  pub nodes : List ℕ
  pub edges : List (ℕ × ℕ)

-- the end at which an edge goes out; in the family In, at which it comes in
abbrev pub near : Family → ℕ × ℕ → ℕ
near Out e = e.0
near In e = e.1

-- its other end
abbrev pub far : Family → ℕ × ℕ → ℕ
far Out e = e.1
far In e = e.0

-- where the edges of a node lead, in the order in which they were added; in the family In, where they come from
abbrev pub neighbours : Family → List (ℕ × ℕ) → ℕ → List ℕ
neighbours f edges a = map (far f) (filter (λ e. near f e == a) edges)

-- a walk of so many edges from a to b
abbrev pub Walk : List (ℕ × ℕ) → ℕ → ℕ → ℕ → Type 0
Walk edges zero a b = a ≡ b
Walk edges (suc n) a b = (c : ℕ) × IsTrue (has_edge edges (a, c)) × Walk edges n c b

-- a walk leads to b from one of the starts that are nodes
abbrev pub IsReachedFrom : Flow → List ℕ → ℕ → Type 0
IsReachedFrom flow starts b =
    (s : ℕ) × IsTrue (has starts s) × IsTrue (has flow.nodes s) × ((n : ℕ) × Walk flow.edges n s b)

-- a walk leads from a to one of the ends that are nodes
abbrev pub ReachesTo : Flow → List ℕ → ℕ → Type 0
ReachesTo flow ends a =
    (e : ℕ) × IsTrue (has ends e) × IsTrue (has flow.nodes e) × ((n : ℕ) × Walk flow.edges n a e)
