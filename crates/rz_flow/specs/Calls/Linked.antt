-- How the lists of an arena hold the edges of a graph.
use Rattle.std.specs.Prelude.{◌≡◌, ◌≤◌, ◌==◌, ℕ, suc, Bool, if◌then◌else◌, Option, Some, None, IsTrue, List, [], ◌∷◌, All, length, slice_get}
use Rattle.rz_links.specs.declared.arena.Family.{Family}
use Rattle.rz_links.specs.declared.arena.Family.TheVariants.{Out, In}
use Rattle.rz_links.specs.Arena.{Arena}
use Rattle.rz_links.specs.Lists.{list_at}
use Rattle.rz_aset.specs.Sets.{has}
use Rattle.rz_flow.specs.Flow.{Flow, IsReachedFrom, ReachesTo, near}

-- the places from i on of the edges that pass a test
abbrev pub places : (ℕ × ℕ → Bool) → ℕ → List (ℕ × ℕ) → List ℕ
places test i [] = []
places test i (e ∷ es) = if test e then i ∷ places test (suc i) es else places test (suc i) es

-- the places of the edges of a node; without a node, none
abbrev pub edges_at : Family → List (ℕ × ℕ) → Option ℕ → List ℕ
edges_at f edges None = []
edges_at f edges (Some a) = places (λ e. near f e == a) 0 edges

-- list i of a family has the edges of node i, in the order in which they were added; further lists are empty
pub record HasLists (f : Family) (nodes : List ℕ) (edges : List (ℕ × ℕ)) (all : List (List ℕ)) : Type 0 where
  pub size : length nodes ≤ length all
  pub lists : (i : ℕ) → list_at all i ≡ edges_at f edges (slice_get nodes i)
  pub ends : All (λ e. IsTrue (has nodes (near f e))) edges

-- the arena has the edges as values, and links them at both ends
pub record IsLinked (nodes : List ℕ) (edges : List (ℕ × ℕ)) (arena : Arena (ℕ × ℕ)) : Type 0 where
  pub values : arena.values ≡ edges
  pub outs : HasLists Out nodes edges arena.outs
  pub ins : HasLists In nodes edges arena.ins

-- what walks reach along the edges; in the family In, against them
abbrev pub IsReached : Family → Flow → List ℕ → ℕ → Type 0
IsReached Out = IsReachedFrom
IsReached In = ReachesTo
