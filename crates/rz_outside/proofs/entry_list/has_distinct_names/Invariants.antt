use Rattle.std.proofs.Common.{◌↔◌, drop}
use Rattle.rz_outside.specs.Entries.{HasDistinctNames}
use Rattle.rz_outside.proofs.entry_list.has_distinct_names.Given as goal

abbrev pub invariant-loop-at : goal.invariant-loop-at
invariant-loop-at l = HasDistinctNames l.files ↔ HasDistinctNames (drop l.at l.files)
