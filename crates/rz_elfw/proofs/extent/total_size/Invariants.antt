use Rattle.std.proofs.Common.{◌≡◌, ◌+◌, drop}
use Rattle.std.specs.Prelude.{sum_by}
use Rattle.rz_elf.specs.declared.elf.Load.{Load}
use Rattle.rz_elfw.proofs.extent.total_size.Given as goal

abbrev pub invariant-loop-load : goal.invariant-loop-load
invariant-loop-load l = l.total + sum_by (λ (k : Load). k.size) (drop l.load-index l.loads) ≡ sum_by (λ (k : Load). k.size) l.loads
