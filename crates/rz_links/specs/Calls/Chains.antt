-- The chains of nodes that links make.
use Rattle.std.specs.Prelude.{◌≡◌, ℕ, List, [], ◌∷◌, length, slice_index_or}
use Rattle.rz_links.specs.declared.links.Place.{Place}
use Rattle.rz_links.specs.declared.links.Place.TheVariants.{Head, Node}
use Rattle.rz_links.specs.declared.links.Link.{Link}
use Rattle.rz_links.specs.Calls.Links.{next_of}

-- from a, these nodes follow one another, and then comes b
abbrev pub Path : (Place → Place) → Place → List ℕ → Place → Type 0
Path next a [] b = next a ≡ b
Path next a (x ∷ xs) b = (next a ≡ Node x) × Path next (Node x) xs b

-- each of so many heads is followed by the nodes of its list, and then by itself
abbrev pub AreChains : (Place → Place) → ℕ → List (List ℕ) → Type 0
AreChains next heads lists =
    (length lists ≡ heads) × ((l : ℕ) → Path next (Head l) (slice_index_or lists l []) (Head l))

-- the lists that links make
abbrev pub Chains : List Link → List Link → Type 0
Chains heads nodes = (lists : List (List ℕ)) × AreChains (next_of heads nodes) (length heads) lists
