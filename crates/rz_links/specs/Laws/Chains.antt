-- Links make no two families of lists.
use Rattle.std.specs.Prelude.{◌≡◌, ◌⊎◌, ℕ, List, [], ◌∷◌, length, refl}
use Rattle.std.specs.Coded.{Coded, Coded-set, code_by, coded_ℕ, coded⊎, ×_prop, Π_prop}
use mathlib.Core.HLevel.{Σ_prop_path}
use Rattle.std.proofs.Common.{inl, inr, sym, subst, ◌∙◌, get_or, ext_get_or}
use Rattle.rz_links.specs.declared.links.Place.{Place}
use Rattle.rz_links.specs.declared.links.Place.TheVariants.{Head, Node}
use Rattle.rz_links.specs.declared.links.Link.{Link}
use Rattle.rz_links.specs.Calls.Links.{next_of}
use Rattle.rz_links.specs.Calls.Chains.{Path, AreChains, Chains}

place_parts : Place → ℕ ⊎ ℕ
place_parts (Head l) = inl l
place_parts (Node n) = inr n

place_of : ℕ ⊎ ℕ → Place
place_of (inl l) = Head l
place_of (inr n) = Node n

place_of-parts : (r : Place) → place_of (place_parts r) ≡ r
unfolding place_of place_parts
place_of-parts (Head l) = refl
place_of-parts (Node n) = refl

place_code : Coded Place
place_code = code_by (ℕ ⊎ ℕ) (coded⊎ coded_ℕ coded_ℕ) place_parts place_of place_of-parts

Path-prop : (next : Place → Place) (a : Place) (xs : List ℕ) (b : Place) → IsProp (Path next a xs b)
Path-prop next a [] b = Coded-set place_code (next a) b
Path-prop next a (x ∷ xs) b = ×_prop (Coded-set place_code (next a) (Node x)) (Path-prop next (Node x) xs b)

-- from a to a head leads one path
pub Path-same : (next : Place → Place) (a : Place) (xs ys : List ℕ) (l m : ℕ) → Path next a xs (Head l) → Path next a ys (Head m) → xs ≡ ys
Path-same next a [] [] l m p q = refl
Path-same next a [] (y ∷ ys) l m p q = cc
Path-same next a (x ∷ xs) [] l m p q = cc
Path-same next a (x ∷ xs) (y ∷ ys) l m p q =
    let e : x ≡ y = cc in
    let rest : xs ≡ ys = Path-same next (Node x) xs ys l m p.1 (subst (λ z. Path next (Node z) ys (Head m)) (sym e) q.1) in
    cc

-- links make one family of lists
pub Chains-same : (next : Place → Place) (heads : ℕ) (L M : List (List ℕ)) → AreChains next heads L → AreChains next heads M → L ≡ M
Chains-same next heads L M p q =
    ext_get_or [] L M (p.0 ∙ sym q.0) (λ l _. Path-same next (Head l) (get_or L l []) (get_or M l []) l l (p.1 l) (q.1 l))

pub Chains-prop : (heads nodes : List Link) → IsProp (Chains heads nodes)
Chains-prop heads nodes u v =
    Σ_prop_path (λ L. ×_prop (Coded-set coded_ℕ (length L) (length heads)) (Π_prop (λ l. Path-prop (next_of heads nodes) (Head l) (get_or L l []) (Head l))))
    (Chains-same (next_of heads nodes) (length heads) u.0 v.0 u.1 v.1)
