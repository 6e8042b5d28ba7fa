use Rattle.std.proofs.Common.{◌≡◌, ◌++◌}
use Rattle.rz_syms.proofs.PlaceLaws.{places_on, all_places}
use Rattle.rz_syms.proofs.place.found_places.Given as goal

abbrev pub invariant-loop-number : goal.invariant-loop-number
invariant-loop-number l = l.places.items ++ places_on l.elf.loads l.strings l.symbols l.number ≡ all_places l.elf.loads l.strings l.symbols
