-- The words of a line: of one that joins them, and by the first of them.
use Rattle.std.proofs.Common.{◌≡◌, ℕ, ◌<◌, ◌==◌, false, List, [], ◌∷◌, ◌++◌, length, Some, None, slice_get, refl, ap, ◌∙◌, append-nil, lit<, arith}
use Rattle.std.specs.List.{All, AllByRecursion, join_with_byte}
use Rattle.std.proofs.lemmas.List.Elements.{All-from_recursion}
use Rattle.std.proofs.lemmas.List.Splits.{slice_split_at, slice_split_none}
use Rattle.rz_text.specs.Lines.{words}

-- visible bytes
abbrev pub IsVisible : List ℕ → Type 0
IsVisible word = AllByRecursion (λ b. 32 < b) word

-- ---- a line that joins visible words

no_space : (word : List ℕ) → IsVisible word → AllByRecursion (λ b. (b == 32) ≡ false) word
no_space [] h = tt
no_space (b ∷ bs) h = (let above = h.0 in grind arith, no_space bs h.1)

plain : (word : List ℕ) → IsVisible word → All (λ b. (b == 32) ≡ false) word
plain word h = All-from_recursion (λ b. (b == 32) ≡ false) word (no_space word h)

-- it has these words
pub words-joined : (ws : List (List ℕ)) → 0 < length ws → AllByRecursion IsVisible ws → words (join_with_byte 32 ws) ≡ ws
words-joined [] some h = absurd (omega arith)
words-joined (w ∷ []) some h = slice_split_none (λ (b : ℕ). b == 32) w (plain w h.0)
words-joined (w ∷ v ∷ vs) some h =
    slice_split_at (λ (b : ℕ). b == 32) w 32 (join_with_byte 32 (v ∷ vs)) (plain w h.0) refl
    ∙ ap (λ (ps : List (List ℕ)). w ∷ ps) (words-joined (v ∷ vs) (omega arith) h.1)

no_end : (bytes : List ℕ) → AllByRecursion (λ b. 31 < b) bytes → AllByRecursion (λ b. (b == 10) ≡ false) bytes
no_end [] h = tt
no_end (b ∷ bs) h = (let above = h.0 in grind arith, no_end bs h.1)

above-append : (xs ys : List ℕ) → IsVisible xs → AllByRecursion (λ b. 31 < b) ys → AllByRecursion (λ b. 31 < b) (xs ++ ys)
above-append [] ys h k = k
above-append (x ∷ xs) ys h k = (let above = h.0 in omega arith, above-append xs ys h.1 k)

above-joined : (ws : List (List ℕ)) → AllByRecursion IsVisible ws → AllByRecursion (λ b. 31 < b) (join_with_byte 32 ws)
above-joined [] h = tt
above-joined (w ∷ []) h = rw (← append-nil w) (above-append w [] h.0 tt)
above-joined (w ∷ v ∷ ws) h = above-append w (32 ∷ join_with_byte 32 (v ∷ ws)) h.0 (lit< tt, above-joined (v ∷ ws) h.1)

-- it has no line end
pub joined-no_end : (ws : List (List ℕ)) → AllByRecursion IsVisible ws → All (λ b. (b == 10) ≡ false) (join_with_byte 32 ws)
joined-no_end ws h = All-from_recursion (λ b. (b == 10) ≡ false) (join_with_byte 32 ws) (no_end (join_with_byte 32 ws) (above-joined ws h))

-- ---- as many words as are got

pub no_words : (ws : List (List ℕ)) → slice_get ws 0 ≡ None → ws ≡ []
no_words [] h = refl
no_words (a ∷ ws) h = cc

pub one_word : (ws : List (List ℕ)) (a : List ℕ) → slice_get ws 0 ≡ Some a → slice_get ws 1 ≡ None → ws ≡ a ∷ []
one_word [] a h i = cc
one_word (x ∷ []) a h i = let first : x ≡ a = cc in rw first refl
one_word (x ∷ y ∷ ws) a h i = cc

pub two_words : (ws : List (List ℕ)) (a b : List ℕ) → slice_get ws 0 ≡ Some a → slice_get ws 1 ≡ Some b → slice_get ws 2 ≡ None → ws ≡ a ∷ b ∷ []
two_words [] a b h i j = cc
two_words (x ∷ []) a b h i j = cc
two_words (x ∷ y ∷ []) a b h i j =
    let first : x ≡ a = cc in
    let second : y ≡ b = cc in
    rw (first, second) refl
two_words (x ∷ y ∷ z ∷ ws) a b h i j = cc

pub three_words : (ws : List (List ℕ)) (a b c : List ℕ) → slice_get ws 0 ≡ Some a → slice_get ws 1 ≡ Some b → slice_get ws 2 ≡ Some c → slice_get ws 3 ≡ None → ws ≡ a ∷ b ∷ c ∷ []
three_words [] a b c h i j k = cc
three_words (x ∷ []) a b c h i j k = cc
three_words (x ∷ y ∷ []) a b c h i j k = cc
three_words (x ∷ y ∷ z ∷ []) a b c h i j k =
    let first : x ≡ a = cc in
    let second : y ≡ b = cc in
    let third : z ≡ c = cc in
    rw (first, second, third) refl
three_words (x ∷ y ∷ z ∷ w ∷ ws) a b c h i j k = cc
