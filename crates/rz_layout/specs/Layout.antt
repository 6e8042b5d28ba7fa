-- What can be laid out, and what a layout says.
use Rattle.std.specs.Prelude.{◌≡◌, ℕ, ◌^◌, ◌<◌, List, [], ◌∷◌, length, map, replicate, All, slice_index}
use Rattle.std.specs.List.{AllByRecursion}
use Rattle.rz_isa.specs.declared.rows.Row.{Row}
use Rattle.rz_isa.specs.declared.rows.Form.{Form}
use Rattle.rz_isa.specs.declared.rows.Form.TheVariants.{Near}
use Rattle.rz_isa.specs.declared.fragment_list.Fragment.{Fragment}
use Rattle.rz_isa.specs.declared.fragment_list.Fragments.{Fragments}
use Rattle.rz_isa.specs.Items.{Places, slots}
use Rattle.rz_isa.specs.Plan.{place}

-- ---- what can be laid out

-- each address is below those after it
abbrev pub IsAscending : List ℕ → Type 0
IsAscending [] = Unit {0}
IsAscending (a ∷ rest) = AllByRecursion (λ b. a < b) rest × IsAscending rest

-- the addresses that fragments stand for
abbrev pub nodes_of : List Fragment → List ℕ
nodes_of list = map (λ f. f.at) list

-- each item in the form Near
abbrev pub all_near : Fragments → List Form
all_near frags = replicate (length (slots frags)) Near

abbrev pub AreLow : List (ℕ × ℕ) → Type 0
AreLow pairs = All (λ p. p.1 < 2 ^ 31) pairs

-- ---- what a layout says

-- the first so many places, in their order
pub record AreFirst (count : ℕ) (places : Places) (list : List ℕ) : Type 0 where
  pub each : length list ≡ count
  pub at : (k : ℕ) → k < count → slice_index list k ≡ places k

-- the places of the items, in their order
abbrev pub ArePlaces : List Row → Fragments → ℕ → List Form → List ℕ → Type 0
ArePlaces rows frags base forms list = AreFirst (length (slots frags)) (place rows frags base forms) list
