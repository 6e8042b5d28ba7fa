-- Lists of bytes.
use Rattle.std.proofs.Common.{ℕ, suc, ◌<◌, List, [], ◌∷◌}
use Rattle.std.specs.Prelude.{slice_index}
use Rattle.std.specs.List.{AllByRecursion}

-- each item of a list of bytes is one
pub each_byte : (xs : List ℕ) → ((i : ℕ) → slice_index xs i < 256) → AllByRecursion (λ b. b < 256) xs
each_byte [] h = tt
each_byte (x ∷ xs) h = (h 0, each_byte xs (λ i. h (suc i)))
