-- Symbols of ELF-64 files and the functions that they name (System V gABI, chapter 4, "Symbol Table" and "String Table").
use Rattle.std.specs.Prelude.{ℕ, zero, suc, ◌+◌, ◌/◌, ◌%◌, ◌<◌, ◌≤◌, ◌==◌, ◌&&◌, not, Bool, if◌then◌else◌, nat_lt, nat_le, List, [], ◌∷◌, ◌++◌, length, map, fold, drop, Option, Some, None}
use Rattle.std.specs.List.{AllByRecursion, list_any, list_all, before_first}
use Rattle.std.specs.Ordering.{nat_cmp, ordering_then}
use Rattle.std.specs.declared.cmp.Ordering.{Ordering}
use Rattle.std.specs.BTreeSet.{insert_key}
use Rattle.rz_image.specs.Perm.{executes}
use Rattle.rz_elf.specs.Elf.{field}
use Rattle.rz_elf.specs.Loaded.{ElfFile}
use Rattle.rz_elf.specs.declared.elf.Load.{Load}
use Rattle.rz_syms.specs.declared.entry.Symbol.{Symbol}
use Rattle.rz_syms.specs.declared.place.Place.{Place}
use Rattle.rz_syms.specs.declared.section.Section.{Section}
use Rattle.rz_syms.specs.declared.function.Function.{Function}
use Rattle.rz_syms.specs.Sections.{section_bytes, symbol_table, strings}

-- the symbol whose bytes come first
abbrev pub symbol_of : List ℕ → Symbol
symbol_of h =
    record { name = field h 0 4; info = field h 4 1; section = field h 6 2; value = field h 8 8; size = field h 16 8 }

-- n symbols of 24 bytes, one after the other
abbrev pub symbols_of : ℕ → List ℕ → List Symbol
symbols_of zero t = []
symbols_of (suc n) t = symbol_of t ∷ symbols_of n (drop 24 t)

-- the whole symbols that bytes are made of
abbrev pub symbols_in : List ℕ → List Symbol
symbols_in bytes = symbols_of (length bytes / 24) bytes

-- the string at a place of a string table: the bytes up to a zero
abbrev pub string_at : List ℕ → ℕ → List ℕ
string_at table at = before_first (λ b. b == 0) (drop at table)

-- names: 1 to so many visible ASCII characters
abbrev pub is_visible : ℕ → Bool
is_visible b = nat_le 0x21 b && nat_le b 0x7e

abbrev pub is_name : ℕ → List ℕ → Bool
is_name most name = nat_le 1 (length name) && (nat_le (length name) most && list_all is_visible name)

-- the type STT_FUNC, a section (not SHN_UNDEF) and a size
abbrev pub is_defined_function : Symbol → Bool
is_defined_function s = s.info % 16 == 2 && (not (s.section == 0) && not (s.size == 0))

-- whether a range lies in one load that may be executed; those of accepted files have the flags PF_R and PF_X
abbrev pub is_in_code : List Load → ℕ → ℕ → Bool
is_in_code loads lo hi = list_any (λ l. executes l.perm && (nat_le l.at lo && nat_le hi (l.at + l.size))) loads

-- whether a symbol names a function of these loads
abbrev pub names_function : List Load → List ℕ → Symbol → Bool
names_function loads table s =
    is_defined_function s && (is_in_code loads s.value (s.value + s.size) && is_name 255 (string_at table s.name))

-- where the functions among symbols stand, which are numbered from n on
abbrev pub places_from : List Load → List ℕ → ℕ → List Symbol → List Place
places_from loads table n [] = []
places_from loads table n (s ∷ rest) =
    if names_function loads table s
    then record { lo = s.value; hi = s.value + s.size; number = n; name = s.name } ∷ places_from loads table (suc n) rest
    else places_from loads table (suc n) rest

-- ascending order: by the value, then by the size, which orders ends of one value, then by the number of the symbol
abbrev pub place_cmp : Place → Place → Ordering
place_cmp p q =
    ordering_then (nat_cmp p.lo q.lo) (ordering_then (nat_cmp p.hi q.hi) (ordering_then (nat_cmp p.number q.number) (nat_cmp p.name q.name)))

unfoldable pub ascending : List Place → List Place
ascending places = fold (insert_key place_cmp) [] places

-- the function at a place
abbrev pub function_at : List ℕ → Place → Function
function_at table p = record { name = string_at table p.name; lo = p.lo; hi = p.hi }

-- whether two ranges have an address in common
abbrev pub meets : Function → Function → Bool
meets f g = nat_lt f.lo g.hi && nat_lt g.lo f.hi

-- functions with one more, which is passed over where its range meets that of one of them
abbrev pub with_function : List Function → Function → List Function
with_function taken f = if list_any (meets f) taken then taken else taken ++ f ∷ []

-- the functions that symbols name by a string table
abbrev pub functions_among : List Load → List ℕ → List Symbol → List Function
functions_among loads table ss = fold with_function [] (map (function_at table) (ascending (places_from loads table 0 ss)))

abbrev pub functions_in : ElfFile → Option Section → List Function
functions_in elf None = []
functions_in elf (Some t) = functions_among elf.loads (strings elf.bytes t) (symbols_in (section_bytes elf.bytes t))

-- the functions of a file: none where it has no symbol table
unfoldable pub functions_of : ElfFile → List Function
functions_of elf = functions_in elf (symbol_table elf.bytes)

-- functions in ascending order: each has an address, and ends where those behind it begin or before
abbrev pub AreApart : List Function → Type 0
AreApart [] = Unit {0}
AreApart (f ∷ rest) = (f.lo < f.hi) × AllByRecursion (λ g. f.hi ≤ g.lo) rest × AreApart rest
