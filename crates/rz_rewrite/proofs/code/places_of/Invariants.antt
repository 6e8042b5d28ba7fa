use Rattle.std.proofs.Common.{◌≡◌, ◌+◌, ◌++◌, drop}
use Rattle.rz_isa.specs.Items.{item_count}
use Rattle.rz_rewrite.specs.Calls.Places.{places_from}
use Rattle.rz_rewrite.proofs.code.places_of.Given as goal

abbrev pub invariant-loop-fragment : goal.invariant-loop-fragment
invariant-loop-fragment l =
    record {
      value : l.pairs ++ places_from l.places l.first (drop l.fragment-index l.list) ≡ places_from l.places 0 l.list;
      count : l.first + item_count (drop l.fragment-index l.list) ≡ item_count l.list;
    }
