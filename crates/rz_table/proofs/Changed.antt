use Rattle.std.proofs.Common.{ℕ, ◌≡◌, ap, sym, ◌∙◌, map, List, Some}
use Rattle.std.specs.Prelude.{slice_get}
use Rattle.std.specs.Option.{option_map}
use Rattle.std.proofs.lemmas.Option.{slice_get-map}

-- an element of a list with each element changed

pub in_changed : {A B : Type 0} → (v : A → B) (xs : List A) (n : ℕ) (x : A) (y : B) → slice_get xs n ≡ Some x → y ≡ v x → slice_get (map v xs) n ≡ Some y
in_changed v xs n x y e is = slice_get-map v xs n ∙ (ap (option_map v) e ∙ ap Some (sym is))
