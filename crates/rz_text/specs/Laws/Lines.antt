-- The first line of a text, how many lines it has, and texts made of lines.
use Rattle.std.proofs.Common.{◌≡◌, ℕ, ◌+◌, ◌<◌, ◌≤◌, ◌==◌, false, List, [], ◌∷◌, length, take, drop, map, append_assoc, ap, ◌∙◌, ◌++◌, Some, None, refl, arith}
use Rattle.std.specs.Prelude.{flat_map, position}
use Rattle.std.specs.List.{All, AllByRecursion, position_or_len, slice_split}
use Rattle.std.proofs.lemmas.List.Splits.{slice_split_first, slice_split_at, slice_split_none, length-slice_split}
use Rattle.std.proofs.lemmas.List.Elements.{All-from_get_or}
use Rattle.std.proofs.lemmas.List.FromFn.{length-enumerate_from}
use Rattle.std.proofs.lemmas.List.Sums.{count_by-le-length}
use Rattle.rz_text.specs.Lines.{lines, lines_from, lines_of_pieces}
use Rattle.rz_text.specs.Laws.Places.{position-some, position-none}

-- a piece with pieces behind it is a line
lines_of_pieces-cons : (piece : List ℕ) (pieces : List (List ℕ)) → 0 < length pieces → lines_of_pieces (piece ∷ pieces) ≡ piece ∷ lines_of_pieces pieces
lines_of_pieces-cons piece [] some = absurd (omega arith)
lines_of_pieces-cons piece (next ∷ more) some = refl

-- a piece alone is a line where it isn't empty
lines_of_pieces-last : (piece : List ℕ) → 0 < length piece → lines_of_pieces (piece ∷ []) ≡ piece ∷ []
lines_of_pieces-last piece some = grind arith

pub lines-end : (text : List ℕ) (i : ℕ) → position (λ b. b == 10) text ≡ Some i → lines text ≡ take i text ∷ lines (drop (i + 1) text)
lines-end text i h =
    let at = position-some (λ (b : ℕ). b == 10) text i h in
    let below : position_or_len (λ (b : ℕ). b == 10) text < length text = omega (arith, at.0, at.1) in
    let count = length-slice_split (λ (b : ℕ). b == 10) (drop (i + 1) text) in
    let split : slice_split (λ (b : ℕ). b == 10) text ≡ take i text ∷ slice_split (λ (b : ℕ). b == 10) (drop (i + 1) text) =
    rw (← at.0) (slice_split_first (λ (b : ℕ). b == 10) text 0 below) in
    rw split (lines_of_pieces-cons (take i text) (slice_split (λ (b : ℕ). b == 10) (drop (i + 1) text)) (omega (arith, count)))

pub lines-last : (text : List ℕ) → position (λ b. b == 10) text ≡ None → 0 < length text → lines text ≡ text ∷ []
lines-last text h some =
    let whole = slice_split_none (λ (b : ℕ). b == 10) text (All-from_get_or (λ (b : ℕ). (b == 10) ≡ false) text 0 (position-none (λ (b : ℕ). b == 10) text 0 h)) in
    rw whole (lines_of_pieces-last text some)

-- ---- how many lines

length-last : (piece : List ℕ) → length (lines_of_pieces (piece ∷ [])) ≤ 1
length-last piece = grind arith

length-lines_of_pieces : (pieces : List (List ℕ)) → length (lines_of_pieces pieces) ≤ length pieces
length-lines_of_pieces [] = omega arith
length-lines_of_pieces (piece ∷ []) = length-last piece
length-lines_of_pieces (piece ∷ next ∷ more) = let fewer = length-lines_of_pieces (next ∷ more) in omega (arith, fewer)

-- a text has at most one more line than bytes
pub length-lines_from : (n : ℕ) (text : List ℕ) → length (lines_from n text) ≤ length text + 1
length-lines_from n text =
    let pieces = slice_split (λ (b : ℕ). b == 10) text in
    let numbered = length-enumerate_from n (lines text) in
    let fewer = length-lines_of_pieces pieces in
    let count = length-slice_split (λ (b : ℕ). b == 10) text in
    let most = count_by-le-length (λ (b : ℕ). b == 10) text in
    omega (arith, numbered, fewer, count, most)

-- ---- texts made of lines

-- a text whose lines all have their ends
pub lines-ended : {X : Type 0} (line : X → List ℕ) (xs : List X) → AllByRecursion (λ x. All (λ b. (b == 10) ≡ false) (line x)) xs
    → lines (flat_map (λ x. line x ++ 10 ∷ []) xs) ≡ map line xs
lines-ended line [] plain = refl
lines-ended line (x ∷ xs) plain =
    let rest = flat_map (λ y. line y ++ 10 ∷ []) xs in
    let joined : (line x ++ 10 ∷ []) ++ rest ≡ line x ++ 10 ∷ rest = append_assoc (line x) (10 ∷ []) rest in
    let split = slice_split_at (λ (b : ℕ). b == 10) (line x) 10 rest plain.0 refl in
    let count = length-slice_split (λ (b : ℕ). b == 10) rest in
    rw (joined, split)
    (lines_of_pieces-cons (line x) (slice_split (λ (b : ℕ). b == 10) rest) (omega (arith, count))
    ∙ ap (λ (ls : List (List ℕ)). line x ∷ ls) (lines-ended line xs plain.1))
