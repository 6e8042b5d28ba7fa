use Rattle.std.proofs.Common.{◌≡◌, ◌≤◌, max, drop, map}
use Rattle.rz_elf.specs.Elf.{Placed, highest_end}
use Rattle.rz_elf.proofs.read.highest_end.Given as goal

abbrev pub invariant-loop-load : goal.invariant-loop-load
invariant-loop-load l =
    record {
      low : l.highest ≤ 0x70000000;
      left : max l.highest (highest_end (map (λ (p : Placed). p.segment) (drop l.load-index l.loads))) ≡ highest_end (map (λ (p : Placed). p.segment) l.loads);
    }
