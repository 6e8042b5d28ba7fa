use Rattle.std.proofs.Common.{◌≡◌, ◌++◌, ◌+◌, ◌-◌, ◌≤◌, map, take}
use Rattle.rz_image.specs.Memory.{fetch}
use Rattle.rz_elf.specs.Loaded.{loaded_region}
use Rattle.rz_elf.proofs.code.fetch.Given as goal

abbrev pub invariant-loop-n : goal.invariant-loop-n
invariant-loop-n l =
    record {
      low : l.n ≤ 15;
      left : take l.n l.out ++ fetch (map (loaded_region l.file) l.loads) (l.at + l.n) (15 - l.n) ≡ fetch (map (loaded_region l.file) l.loads) l.at 15;
    }

abbrev pub decreases-loop-n : goal.decreases-loop-n
decreases-loop-n l = 15 - l.n
