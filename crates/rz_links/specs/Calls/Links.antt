-- Links between places.
use Rattle.std.specs.Prelude.{◌≡◌, ◌≢◌, ◌<◌, ℕ, Option, Some, None, List, slice_index_or}
use Rattle.rz_links.specs.declared.links.Place.{Place}
use Rattle.rz_links.specs.declared.links.Place.TheVariants.{Head, Node}
use Rattle.rz_links.specs.declared.links.Link.{Link}

-- the node at a place, if it is one
abbrev pub node_of : Place → Option ℕ
node_of (Head l) = None
node_of (Node n) = Some n

-- a place that nothing else leads to
abbrev pub alone : Place → Link
alone r = record { prev = r; next = r }

-- the link of a place: past the ends of the two vectors, each place is alone
abbrev pub link_of : List Link → List Link → Place → Link
link_of heads nodes (Head l) = slice_index_or heads l (alone (Head l))
link_of heads nodes (Node n) = slice_index_or nodes n (alone (Node n))

abbrev pub next_of : List Link → List Link → Place → Place
next_of heads nodes r = (link_of heads nodes r).next

abbrev pub prev_of : List Link → List Link → Place → Place
prev_of heads nodes r = (link_of heads nodes r).prev

-- so many heads and nodes have this place among them
abbrev pub IsPlace : ℕ → ℕ → Place → Type 0
IsPlace heads nodes (Head l) = l < heads
IsPlace heads nodes (Node n) = n < nodes

-- more heads or nodes change no link
abbrev pub HeadsKeep : List Link → List Link → Type 0
HeadsKeep heads heads' = (nodes : List Link) (r : Place) → link_of heads' nodes r ≡ link_of heads nodes r

abbrev pub NodesKeep : List Link → List Link → Type 0
NodesKeep nodes nodes' = (heads : List Link) (r : Place) → link_of heads nodes' r ≡ link_of heads nodes r

-- `to` follows `from`, and all else is as it was
pub record Joined (next prev next' prev' : Place → Place) (from to : Place) : Type 0 where
  pub next_at : next' from ≡ to
  pub next_other : (r : Place) → r ≢ from → next' r ≡ next r
  pub prev_at : prev' to ≡ from
  pub prev_other : (r : Place) → r ≢ to → prev' r ≡ prev r

abbrev pub JoinsLinks : List Link → List Link → List Link → List Link → Place → Place → Type 0
JoinsLinks heads nodes heads' nodes' from to =
    Joined (next_of heads nodes) (prev_of heads nodes) (next_of heads' nodes') (prev_of heads' nodes') from to

-- next and prev lead back and forth between the places
pub record AreInverse (next prev : Place → Place) : Type 0 where
  pub back : (r : Place) → prev (next r) ≡ r
  pub forth : (r : Place) → next (prev r) ≡ r

abbrev pub AreTwoWay : List Link → List Link → Type 0
AreTwoWay heads nodes = AreInverse (next_of heads nodes) (prev_of heads nodes)

-- a place is taken out from between its neighbors, and is alone
pub record Detached (next next' : Place → Place) (at : Place) : Type 0 where
  pub alone : next' at ≡ at
  pub skips : (r : Place) → r ≢ at → next r ≡ at → next' r ≡ next at
  pub keeps : (r : Place) → r ≢ at → next r ≢ at → next' r ≡ next r

-- a place that was alone is put after another
pub record Attached (next next' : Place → Place) (at other : Place) : Type 0 where
  pub to : next' other ≡ at
  pub from : next' at ≡ next other
  pub keeps : (r : Place) → r ≢ other → r ≢ at → next' r ≡ next r
  pub own : (r : Place) → next r ≡ at → r ≡ at

-- a place that was alone is put before another
pub record AttachedBefore (next next' : Place → Place) (at other : Place) : Type 0 where
  pub from : next' at ≡ other
  pub to : (r : Place) → next r ≡ other → next' r ≡ at
  pub keeps : (r : Place) → next r ≢ other → r ≢ at → next' r ≡ next r
  pub own : (r : Place) → next r ≡ at → r ≡ at

-- a place is taken out and put after another, or before it
abbrev pub MovedAfter : (Place → Place) → (Place → Place) → Place → Place → Type 0
MovedAfter next next' at other = (between : Place → Place) × Detached next between at × Attached between next' at other

abbrev pub MovedBefore : (Place → Place) → (Place → Place) → Place → Place → Type 0
MovedBefore next next' at other = (between : Place → Place) × Detached next between at × AttachedBefore between next' at other
