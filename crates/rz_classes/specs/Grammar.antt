-- The grammar of a line: `fn LO HI CLASS`.
use Rattle.std.specs.Prelude.{ℕ, ◌&&◌, Bool, nat_le, nat_lt, if◌then◌else◌, List, [], ◌∷◌, length, codes, bytes_eq, Option, Some, None, Result, Ok}
use Rattle.std.specs.List.{list_all}
use Rattle.rz_text.specs.Number.{hexadecimal}
use Rattle.rz_classes.specs.declared.listed.Function.{Function}

-- the visible characters of ASCII
abbrev pub is_visible : ℕ → Bool
is_visible b = nat_le 0x21 b && nat_le b 0x7e

-- the name of a class: 1 to 64 visible ASCII characters
abbrev pub is_class : List ℕ → Bool
is_class word = nat_le 1 (length word) && nat_le (length word) 64 && list_all is_visible word

-- the function that two numbers and a class make
abbrev pub function_from : Result ℕ ℕ → Result ℕ ℕ → List ℕ → Option Function
function_from (Ok lo) (Ok hi) class =
    if nat_lt lo hi && is_class class then Some (record { lo = lo; hi = hi; class = class }) else None
function_from _ _ class = None

-- the function that four words list
abbrev pub function_of_words : List ℕ → List ℕ → List ℕ → List ℕ → Option Function
function_of_words key lo hi class =
    if bytes_eq key (codes "fn") then function_from (hexadecimal lo) (hexadecimal hi) class else None

-- the function that the words of a line list
unfoldable pub function_of : List (List ℕ) → Option Function
function_of (key ∷ lo ∷ hi ∷ class ∷ []) = function_of_words key lo hi class
function_of _ = None
