-- Members of sets, as more are added.
use Rattle.std.proofs.Common.{◌≡◌, ℕ, Bool, true, false, ◌||◌, ◌==◌, List, [], ◌∷◌, ◌++◌, if◌then◌else◌, refl, sym, ap, ap₂, ◌∙◌, subst, eqb-true}
use Rattle.std.proofs.lemmas.Bool.{and_parts}
use Rattle.std.proofs.lemmas.List.Folds.{list_any-append}
use Rattle.std.specs.List.{list_any}
use Rattle.rz_aset.specs.Sets.{has, has_edge, is_same_edge, with_address, with_addresses, with_edge, with_edges}

or_false : (x : Bool) → (x || false) ≡ x
or_false true = refl
or_false false = refl

or_assoc : (x y z : Bool) → ((x || y) || z) ≡ (x || (y || z))
or_assoc true y z = refl
or_assoc false y z = refl

-- a list that gets a member which it lacks
module _ {K : Type 0} (eq : K → K → Bool) (exact : (x y : K) → eq x y ≡ true → x ≡ y) where
  abbrev found : List K → K → Bool
  found xs x = list_any (λ y. eq y x) xs

  abbrev with : List K → K → List K
  with xs x = if found xs x then xs else xs ++ x ∷ []

  found_with : (xs : List K) (x k : K) → found (with xs x) k ≡ (found xs k || eq x k)
  found_with xs x k = go (found xs x) refl
    where
      known : (t : Bool) → eq x k ≡ t → found xs x ≡ true → found xs k ≡ (found xs k || t)
      known true e h = let there : found xs k ≡ true = subst (λ c. found xs c ≡ true) (exact x k e) h in there ∙ ap (λ b. b || true) (sym there)
      known false e h = sym (or_false (found xs k))

      go : (v : Bool) → found xs x ≡ v → found (if v then xs else xs ++ x ∷ []) k ≡ (found xs k || eq x k)
      go true h = known (eq x k) refl h
      go false h = list_any-append (λ y. eq y k) xs (x ∷ []) ∙ ap (λ b. found xs k || b) (or_false (eq x k))

-- an address is in a set with more addresses exactly where it is in the set or among those
pub has-with_more : (xs ys : List ℕ) (a : ℕ) → has (with_addresses xs ys) a ≡ (has xs a || has ys a)
has-with_more xs [] a = sym (or_false (has xs a))
has-with_more xs (y ∷ ys) a =
    has-with_more (with_address xs y) ys a
    ∙ ap (λ b. b || has ys a) (found_with (λ p q. p == q) (λ p q e. eqb-true p q e) xs y a)
    ∙ or_assoc (has xs a) (y == a) (has ys a)

edge_exact : (x y : ℕ × ℕ) → is_same_edge x y ≡ true → x ≡ y
edge_exact x y e = let p = and_parts (x.0 == y.0) (x.1 == y.1) e in ap₂ (λ a b. (a, b)) (eqb-true x.0 y.0 p.0) (eqb-true x.1 y.1 p.1)

-- the same of edges
pub has_edge-with_more : (xs ys : List (ℕ × ℕ)) (e : ℕ × ℕ) → has_edge (with_edges xs ys) e ≡ (has_edge xs e || has_edge ys e)
has_edge-with_more xs [] e = sym (or_false (has_edge xs e))
has_edge-with_more xs (y ∷ ys) e =
    has_edge-with_more (with_edge xs y) ys e
    ∙ ap (λ b. b || has_edge ys e) (found_with is_same_edge edge_exact xs y e)
    ∙ or_assoc (has_edge xs e) (is_same_edge y e) (has_edge ys e)
