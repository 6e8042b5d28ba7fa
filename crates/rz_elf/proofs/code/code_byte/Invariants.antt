use Rattle.std.proofs.Common.{◌≡◌, drop, map}
use Rattle.rz_image.specs.Memory.{cell_at, code_of}
use Rattle.rz_elf.specs.Loaded.{loaded_region}
use Rattle.rz_elf.proofs.code.code_byte.Given as goal

abbrev pub invariant-loop-load : goal.invariant-loop-load
invariant-loop-load l = code_of (cell_at (map (loaded_region l.file) (drop l.load-index l.loads)) l.at) ≡ code_of (cell_at (map (loaded_region l.file) l.loads) l.at)
