-- Class texts whose lines `fs NAME CLASS` name functions. The byte 10 ends a line.
use Rattle.std.specs.Prelude.{◌≡◌, ℕ, ◌==◌, Bool, false, nat_lt, if◌then◌else◌, List, [], ◌∷◌, ◌++◌, length, map, find, codes, bytes_eq, Option, Some, None}
use Rattle.std.specs.List.{AllByRecursion, slice_split, join_with_byte}
use Rattle.rz_num.specs.Texts.{hex_text}
use Rattle.rz_text.specs.Lines.{words}
use Rattle.rz_syms.specs.declared.function.Function.{Function}
use Rattle.rz_syms.specs.Symbols.{is_name}

-- the line of a range with a class
abbrev pub range_line : ℕ → ℕ → List ℕ → List ℕ
range_line lo hi class = codes "fn " ++ (hex_text lo ++ (codes " " ++ (hex_text hi ++ (codes " " ++ class))))

-- what stands for a line that can't be resolved: one that isn't in the grammar of class files
abbrev pub bad_line : List ℕ
bad_line = codes "bad"

-- the line of a function with a class, which is 1 to 64 visible ASCII characters
abbrev pub function_line : Option Function → List ℕ → List ℕ
function_line None class = bad_line
function_line (Some f) class = if is_name 64 class then range_line f.lo f.hi class else bad_line

-- the first function of a name
abbrev pub first_named : List Function → List ℕ → Option Function
first_named functions name = find (λ f. bytes_eq f.name name) functions

-- the line of the words behind `fs`
abbrev pub named_line : List Function → List (List ℕ) → List ℕ
named_line functions (name ∷ class ∷ []) = function_line (first_named functions name) class
named_line functions _ = bad_line

-- whether the first word is `fs`
abbrev pub begins_with_fs : List (List ℕ) → Bool
begins_with_fs [] = false
begins_with_fs (key ∷ rest) = bytes_eq key (codes "fs")

abbrev pub behind_first : List (List ℕ) → List (List ℕ)
behind_first [] = []
behind_first (key ∷ rest) = rest

-- a line with the range of the function that it names; it stays where it names none
unfoldable pub resolved_line : List Function → List ℕ → List ℕ
resolved_line functions line = if begins_with_fs (words line) then named_line functions (behind_first (words line)) else line

-- the lines of a text, resolved one by one
unfoldable pub resolved_lines : List Function → List ℕ → List ℕ
resolved_lines functions text = join_with_byte 10 (map (resolved_line functions) (slice_split (λ b. b == 10) text))

-- a text that is too long for a class file stays
unfoldable pub resolved : List Function → List ℕ → List ℕ
resolved functions text = if nat_lt 16777216 (length text) then text else resolved_lines functions text

-- a text in which no line begins with the word `fs`
abbrev pub NamesNone : List ℕ → Type 0
NamesNone text = AllByRecursion (λ line. begins_with_fs (words line) ≡ false) (slice_split (λ b. b == 10) text)
