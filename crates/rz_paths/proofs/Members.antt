-- Membership in sets with more members.
use Rattle.std.proofs.Common.{◌≡◌, ℕ, Bool, true, false, ◌||◌, ◌&&◌, ◌⊎◌, List, [], ◌∷◌, refl, ap, ap₂, sym, ◌∙◌, nat_eq}
use Rattle.rz_aset.specs.Sets.{has, with_address, with_addresses, with_edge}
use Rattle.rz_aset.specs.Laws.Members.{has-with_more, has_edge-with_more}
use Rattle.rz_paths.specs.Sets.{In, Edges, joins}
use Rattle.rz_paths.specs.Laws.Booleans.{or_cases, or_left, or_right, or_false, eqb_turned}

or_assoc : (p q r : Bool) → ((p || q) || r) ≡ (p || (q || r))
or_assoc true q r = refl
or_assoc false q r = refl

pub has-with : (xs : List ℕ) (x a : ℕ) → has (with_address xs x) a ≡ (has xs a || nat_eq a x)
has-with xs x a = has-with_more xs (x ∷ []) a ∙ ap (λ v. has xs a || v) (or_false (nat_eq x a) ∙ eqb_turned x a)

pub has-with_two : (xs : List ℕ) (x y a : ℕ) → has (with_address (with_address xs x) y) a ≡ (has xs a || (nat_eq a x || nat_eq a y))
has-with_two xs x y a = has-with (with_address xs x) y a ∙ ap (λ v. v || nat_eq a y) (has-with xs x a) ∙ or_assoc (has xs a) (nat_eq a x) (nat_eq a y)

-- addresses of a list more
module _ (xs ys : List ℕ) (b : ℕ) where
  pub has-more_old : In xs b → In (with_addresses xs ys) b
  has-more_old h = has-with_more xs ys b ∙ or_left (has xs b) (has ys b) h

  pub has-more_new : In ys b → In (with_addresses xs ys) b
  has-more_new h = has-with_more xs ys b ∙ or_right (has xs b) (has ys b) h

  pub has-more_cases : In (with_addresses xs ys) b → In xs b ⊎ In ys b
  has-more_cases h = or_cases (has xs b) (has ys b) (sym (has-with_more xs ys b) ∙ h)

pub joins-with : (edges : Edges) (f t a b : ℕ) → joins (with_edge edges (f, t)) a b ≡ (joins edges a b || (nat_eq a f && nat_eq b t))
joins-with edges f t a b =
    has_edge-with_more edges ((f, t) ∷ []) (a, b)
    ∙ ap (λ v. joins edges a b || v) (or_false (nat_eq f a && nat_eq t b) ∙ ap₂ (λ x y. x && y) (eqb_turned f a) (eqb_turned t b))
