-- What an Ok answer is, by an equal value.
use Rattle.std.proofs.Common.{◌≡◌, Result, Ok, Err, IfOk, ◌∙◌}

pub if_ok_is : {A E : Type 0} (r : Result A E) (u v : A) → u ≡ v → IfOk r (λ a. a ≡ u) → IfOk r (λ a. a ≡ v)
if_ok_is (Ok a) u v e h = h ∙ e
if_ok_is (Err f) u v e h = tt
