-- The places of fragments, as the code finds them.
use Rattle.std.specs.Prelude.{ℕ, ◌+◌, ◌-◌, ◌==◌, if◌then◌else◌, List, [], ◌∷◌, length, slice_index}
use Rattle.rz_isa.specs.declared.fragment_list.Fragment.{Fragment}
use Rattle.rz_isa.specs.declared.item_list.Item.{Item}

-- each fragment's address with the place of its first item, the first of which has this number
abbrev pub places_from : List ℕ → ℕ → List Fragment → List (ℕ × ℕ)
places_from places first [] = []
places_from places first (f ∷ rest) = (f.at, slice_index places first) ∷ places_from places (first + length f.items) rest

-- the place of the first item of a routine, whose items stand last; 0 where it has none
abbrev pub routine_in : List ℕ → List Item → ℕ
routine_in places [] = 0
routine_in places (i ∷ rest) = slice_index places (length places - length (i ∷ rest))

-- what stands beside an address in pairs; 0 where it isn't there
abbrev pub beside_or_zero : List (ℕ × ℕ) → ℕ → ℕ
beside_or_zero [] a = 0
beside_or_zero (p ∷ rest) a = if p.0 == a then p.1 else beside_or_zero rest a
