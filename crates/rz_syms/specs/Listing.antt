-- What is kept of each function.
use Rattle.std.specs.Prelude.{ℕ, ◌&&◌, not, Bool, false, nat_lt, nat_le, List, ◌++◌, codes, flat_map, count_by}
use Rattle.std.specs.List.{list_any}
use Rattle.std.specs.Fmt.{digits}
use Rattle.rz_num.specs.Texts.{hex_text}
use Rattle.rz_syms.specs.declared.function.Function.{Function}

-- whether an address lies in a range, and in a function
abbrev pub has : ℕ → ℕ → ℕ → Bool
has lo hi a = nat_le lo a && nat_lt a hi

abbrev pub function_has : ℕ → Function → Bool
function_has a f = has f.lo f.hi a

-- how many nodes lie in a function, and in none of some
abbrev pub kept_in : List ℕ → Function → ℕ
kept_in nodes f = count_by (has f.lo f.hi) nodes

abbrev pub outside : List Function → List ℕ → ℕ
outside functions nodes = count_by (λ a. not (list_any (function_has a) functions)) nodes

-- the line of a function with a number of nodes: its name, its first address, the one behind its last, and the number
abbrev pub function_text : Function → ℕ → List ℕ
function_text f count =
    f.name ++ (codes " " ++ (hex_text f.lo ++ (codes " " ++ (hex_text f.hi ++ (codes " " ++ (digits 10 false count ++ codes "\n"))))))

-- the last line
abbrev pub outside_text : ℕ → List ℕ
outside_text count = codes "outside " ++ (digits 10 false count ++ codes "\n")

-- a line for each function in their order, and the last one
unfoldable pub listing : List Function → List ℕ → List ℕ
listing functions nodes = flat_map (λ f. function_text f (kept_in nodes f)) functions ++ outside_text (outside functions nodes)
