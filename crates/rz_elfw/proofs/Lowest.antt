-- The lowest load, found from the first on.
use Rattle.std.proofs.Common.{◌≡◌, ℕ, ◌+◌, ◌-◌, ◌<◌, ◌≤◌, List, [], ◌∷◌, length, get_or, drop, take, map, min, refl, sym, ap, ◌∙◌, arith, add-one, drop-cons, take_all}
use Rattle.std.proofs.lemmas.List.{drop_all}
use Rattle.rz_elf.specs.declared.elf.Load.{Load}
use Rattle.rz_elf.specs.AddedRange.{lowest}
use Rattle.rz_elf.specs.Loaded.{loaded_region}

-- the least of an address and those of loads
abbrev pub least : ℕ → List Load → ℕ
least a [] = a
least a (l ∷ rest) = min a (least l.at rest)

-- an address more can be taken at the front
pub least-min : (a b : ℕ) (rest : List Load) → min a (least b rest) ≡ least (min a b) rest
least-min a b [] = refl
least-min a b (l ∷ rest) = omega arith

-- it is where the lowest region of the loads begins
pub lowest_least : (bytes : List ℕ) (l : Load) (rest : List Load) → lowest (map (loaded_region bytes) (l ∷ rest)) ≡ least l.at rest
lowest_least bytes l [] = refl
lowest_least bytes l (k ∷ rest) = ap (min l.at) (lowest_least bytes k rest)

-- a load more is taken in
pub least_turn : (low more : ℕ) (rest : List Load) (i : ℕ) (d : Load) → i < length rest → more ≡ min low (get_or rest i d).at → least more (drop (i + 1) rest) ≡ least low (drop i rest)
least_turn low more rest i d h e =
    let split : drop i rest ≡ get_or rest i d ∷ drop (i + 1) rest = rw add-one (drop-cons rest i d h) in
    ap (λ m. least m (drop (i + 1) rest)) e ∙ sym (least-min low (get_or rest i d).at (drop (i + 1) rest)) ∙ ap (least low) (sym split)

-- after the last one the least is found
pub lowest_found : (bytes : List ℕ) (loads : List Load) (d : Load) (low i : ℕ) → 0 < length loads
    → length (take (length loads - 1) (drop 1 loads)) ≤ i
    → least low (drop i (take (length loads - 1) (drop 1 loads))) ≡ least (get_or loads 0 d).at (take (length loads - 1) (drop 1 loads))
    → lowest (map (loaded_region bytes) loads) ≡ low
lowest_found bytes [] d low i some past e = absurd (omega arith)
lowest_found bytes (l ∷ ls) d low i some past e =
    let all : take (length (l ∷ ls) - 1) ls ≡ ls = take_all (length (l ∷ ls) - 1) ls (omega arith) in
    lowest_least bytes l ls ∙ ap (least l.at) (sym all) ∙ sym e ∙ ap (least low) (drop_all i (take (length (l ∷ ls) - 1) ls) past)
