use Rattle.std.proofs.Common.{◌≡◌, map, take}
use Rattle.rz_elf.specs.Loaded.{loaded_region}
use Rattle.rz_machine.proofs.start.regions_of.Given as goal

abbrev pub invariant-loop-load : goal.invariant-loop-load
invariant-loop-load l = l.regions.items ≡ map (loaded_region l.file) (take l.load-index l.loads)
