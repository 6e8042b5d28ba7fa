use Rattle.std.proofs.Common.{drop}
use Rattle.rz_machine.specs.Traced.{kept_in}
use Rattle.rz_core.proofs.UnionLaws.{Unites}
use Rattle.rz_core.proofs.making.record_runs.Given as goal

abbrev pub invariant-loop-k : goal.invariant-loop-k
invariant-loop-k l = Unites l.limit l.elf.bytes l.k (drop l.k l.inputs) l.inputs (kept_in l.kept)
