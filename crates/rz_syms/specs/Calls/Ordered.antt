-- Places that ascend by their first addresses.
use Rattle.std.specs.Prelude.{◌<◌, ◌≤◌, List, [], ◌∷◌}
use Rattle.std.specs.List.{AllByRecursion}
use Rattle.rz_syms.specs.declared.place.Place.{Place}

-- each place has an address, and begins where those behind it begin or before
abbrev pub AreOrdered : List Place → Type 0
AreOrdered [] = Unit {0}
AreOrdered (p ∷ rest) = (p.lo < p.hi) × AllByRecursion (λ q. p.lo ≤ q.lo) rest × AreOrdered rest
