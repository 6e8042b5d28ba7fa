use Rattle.std.proofs.Common.{◌≡◌, drop, ◌++◌}
use Rattle.rz_machine.specs.Tables.{pairs_bytes}
use Rattle.rz_lookup.proofs.tables.push_pairs.Given as goal

abbrev pub invariant-loop-target : goal.invariant-loop-target
invariant-loop-target l = l.table.items ++ pairs_bytes (drop l.target-index l.pairs) ≡ l.fn.table.items ++ pairs_bytes l.pairs
