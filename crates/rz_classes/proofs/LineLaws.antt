-- Lines of four words.
use Rattle.std.proofs.Common.{◌≡◌, ℕ, List, [], ◌∷◌, length, ◌≢◌, Some, None, slice_get, refl}
use Rattle.rz_classes.specs.Grammar.{function_of, function_of_words}

-- a line of more or fewer words lists nothing
pub function_of-not_four : (ws : List (List ℕ)) → length ws ≢ 4 → function_of ws ≡ None
unfolding function_of
function_of-not_four [] other = refl
function_of-not_four (key ∷ []) other = refl
function_of-not_four (key ∷ lo ∷ []) other = refl
function_of-not_four (key ∷ lo ∷ hi ∷ []) other = refl
function_of-not_four (key ∷ lo ∷ hi ∷ class ∷ []) other = absurd (other refl)
function_of-not_four (key ∷ lo ∷ hi ∷ class ∷ next ∷ more) other = refl

-- the words by their places
pub four_words : {X : Type 0} (ws : List X) (a b c d : X) → slice_get ws 4 ≡ None → slice_get ws 0 ≡ Some a → slice_get ws 1 ≡ Some b → slice_get ws 2 ≡ Some c → slice_get ws 3 ≡ Some d → ws ≡ a ∷ b ∷ c ∷ d ∷ []
four_words [] a b c d e f g h i = cc
four_words (k ∷ []) a b c d e f g h i = cc
four_words (k ∷ l ∷ []) a b c d e f g h i = cc
four_words (k ∷ l ∷ m ∷ []) a b c d e f g h i = cc
four_words (k ∷ l ∷ m ∷ n ∷ []) a b c d e f g h i = cc
four_words (k ∷ l ∷ m ∷ n ∷ o ∷ more) a b c d e f g h i = cc

-- a line of four words lists what these list
pub function_of-four : (ws : List (List ℕ)) (a b c d : List ℕ) → ws ≡ a ∷ b ∷ c ∷ d ∷ [] → function_of ws ≡ function_of_words a b c d
unfolding function_of
function_of-four ws a b c d e = rw e refl
