use Rattle.std.proofs.Common.{◌≡◌, map, take}
use Rattle.rz_elf.specs.Loaded.{load_of}
use Rattle.rz_elf.proofs.read.kept_loads.Given as goal

abbrev pub invariant-loop-load : goal.invariant-loop-load
invariant-loop-load l = l.items.items ≡ map load_of (take l.load-index l.loads)
