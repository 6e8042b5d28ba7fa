-- A union whose second set is what it should be.
use Rattle.std.proofs.Common.{◌≡◌, Bool, true, ◌||◌, ◌⊎◌, inl, inr, ⊎_elim, sym, ◌∙◌}
use Rattle.std.specs.Prelude.{◌↔◌}
use Rattle.rz_paths.specs.Laws.Booleans.{or_cases, or_left, or_right}

pub or_walk : {X : Type 0} (s r w : Bool) → s ≡ (r || w) → ((w ≡ true) ↔ X) → (s ≡ true) ↔ ((r ≡ true) ⊎ X)
or_walk s r w e h = (
  λ i. ⊎_elim inl (λ x. inr (h.0 x)) (or_cases r w (sym e ∙ i)),
  λ x. e ∙ ⊎_elim (λ i. or_left r w i) (λ i. or_right r w (h.1 i)) x,
)
