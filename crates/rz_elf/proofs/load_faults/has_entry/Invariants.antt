use Rattle.std.proofs.Common.{◌≡◌, drop}
use Rattle.std.specs.Prelude.{map}
use Rattle.std.specs.List.{list_any}
use Rattle.rz_elf.specs.Elf.{Placed, has_entry}
use Rattle.rz_elf.proofs.load_faults.has_entry.Given as goal

abbrev pub invariant-loop-load : goal.invariant-loop-load
invariant-loop-load l = list_any (has_entry l.entry) (map (λ (p : Placed). p.segment) (drop l.load-index l.loads)) ≡ list_any (has_entry l.entry) (map (λ (p : Placed). p.segment) l.loads)
