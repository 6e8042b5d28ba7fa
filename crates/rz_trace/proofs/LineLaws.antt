-- Lines of more than three words.
use Rattle.std.proofs.Common.{◌≡◌, ℕ, List, [], ◌∷◌, Some, None, slice_get, refl}
use Rattle.rz_trace.specs.Grammar.{entry_of}

pub entry_of-more : (ws : List (List ℕ)) (w : List ℕ) → slice_get ws 3 ≡ Some w → entry_of ws ≡ None
unfolding entry_of
entry_of-more [] w h = cc
entry_of-more (a ∷ []) w h = cc
entry_of-more (a ∷ b ∷ []) w h = cc
entry_of-more (a ∷ b ∷ c ∷ []) w h = cc
entry_of-more (a ∷ b ∷ c ∷ d ∷ ws) w h = refl
