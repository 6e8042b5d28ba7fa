use Rattle.std.proofs.Common.{◌≡◌, ◌+◌, ◌*◌, ◌^◌, ◌≤◌, drop}
use Rattle.std.specs.Prelude.{map, sum_by}
use Rattle.rz_elf.specs.Elf.{Placed, Segment}
use Rattle.rz_elf.proofs.load_faults.total_size.Given as goal

abbrev pub invariant-loop-load : goal.invariant-loop-load
invariant-loop-load l =
    record {
      small : l.total ≤ 2 ^ 64 * l.load-index;
      left : l.total + sum_by (λ (s : Segment). s.memsz) (map (λ (p : Placed). p.segment) (drop l.load-index l.loads)) ≡ sum_by (λ (s : Segment). s.memsz) (map (λ (p : Placed). p.segment) l.loads);
    }
