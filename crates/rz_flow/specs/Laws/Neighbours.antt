-- The neighbours of a node as members of a list.
use Rattle.std.proofs.Common.{◌≡◌, ℕ, Bool, true, false, ◌&&◌, List, [], ◌∷◌, inl, inr, refl, nat_eq, eq-eqb, ne_eqb}
use Rattle.std.proofs.lemmas.Bool.{cases_eq}
use Rattle.rz_links.specs.declared.arena.Family.TheVariants.{Out, In}
use Rattle.rz_aset.specs.Sets.{has, has_edge}
use Rattle.rz_flow.specs.Flow.{neighbours}

-- an address is among the neighbours of a node exactly where the edge is there
pub has-neighbours_out : (edges : List (ℕ × ℕ)) (a b : ℕ) → has (neighbours Out edges a) b ≡ has_edge edges (a, b)
has-neighbours_out [] a b = refl
has-neighbours_out (e ∷ edges) a b =
    let rest = has-neighbours_out edges a b in
    elim (cases_eq e.0 a) [
      | inl same ↦ rw (eq-eqb e.0 a same, rest) refl
      | inr ne ↦ rw (ne_eqb e.0 a ne, rest) refl
    ]

and_true : (p : Bool) → (p && true) ≡ p
and_true true = refl
and_true false = refl

and_false : (p : Bool) → (p && false) ≡ false
and_false true = refl
and_false false = refl

pub has-neighbours_in : (edges : List (ℕ × ℕ)) (a b : ℕ) → has (neighbours In edges b) a ≡ has_edge edges (a, b)
has-neighbours_in [] a b = refl
has-neighbours_in (e ∷ edges) a b =
    let rest = has-neighbours_in edges a b in
    elim (cases_eq e.1 b) [
      | inl same ↦ rw (eq-eqb e.1 b same, rest, and_true (nat_eq e.0 a)) refl
      | inr ne ↦ rw (ne_eqb e.1 b ne, rest, and_false (nat_eq e.0 a)) refl
    ]
