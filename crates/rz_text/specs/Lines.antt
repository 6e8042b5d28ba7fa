-- Texts as lines, and lines as words. The byte 10 ends a line, 32 is the space, 35 is `#`.
use Rattle.std.specs.Prelude.{ℕ, ◌==◌, ◌||◌, not, Bool, if◌then◌else◌, List, [], ◌∷◌, length, filter, slice_index}
use Rattle.std.specs.List.{slice_split, enumerate_from}

-- the pieces of a text between its line ends, but for an empty last one
abbrev pub lines_of_pieces : List (List ℕ) → List (List ℕ)
lines_of_pieces [] = []
lines_of_pieces (piece ∷ []) = if length piece == 0 then [] else piece ∷ []
lines_of_pieces (piece ∷ next ∷ more) = piece ∷ lines_of_pieces (next ∷ more)

-- the lines of a text, without their ends
abbrev pub lines : List ℕ → List (List ℕ)
lines text = lines_of_pieces (slice_split (λ b. b == 10) text)

-- a line with its number
abbrev pub Line : Type 0
Line = ℕ × List ℕ

-- the lines with their numbers, of which the first is given
abbrev pub lines_from : ℕ → List ℕ → List Line
lines_from n text = enumerate_from n (lines text)

-- the words of a line: the pieces between its spaces, empty ones too
abbrev pub words : List ℕ → List (List ℕ)
words line = slice_split (λ b. b == 32) line

-- whether a line says anything: it isn't empty and doesn't begin with `#`
abbrev pub has_content : List ℕ → Bool
has_content line = not (length line == 0 || slice_index line 0 == 35)

-- the lines among some that say something
abbrev pub content_of : List Line → List Line
content_of numbered = filter (λ l. has_content l.1) numbered

-- the lines of a text that say something, with their numbers from 1
abbrev pub content : List ℕ → List Line
content text = content_of (lines_from 1 text)
