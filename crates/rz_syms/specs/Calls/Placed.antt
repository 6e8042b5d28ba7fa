-- Single functions among symbols.
use Rattle.std.specs.Prelude.{ℕ, ◌+◌, if◌then◌else◌, List, Option, Some, None}
use Rattle.rz_elf.specs.declared.elf.Load.{Load}
use Rattle.rz_syms.specs.declared.entry.Symbol.{Symbol}
use Rattle.rz_syms.specs.declared.place.Place.{Place}
use Rattle.rz_syms.specs.Symbols.{names_function}

-- the place of the function that symbol n names, if it does
abbrev pub place_of : List Load → List ℕ → ℕ → Symbol → Option Place
place_of loads table n s =
    if names_function loads table s then Some (record { lo = s.value; hi = s.value + s.size; number = n; name = s.name }) else None
