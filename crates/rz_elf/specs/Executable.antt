-- How many bytes of a file may be executed, once it is loaded.
use Rattle.std.specs.Prelude.{ℕ, List, filter, sum_by}
use Rattle.rz_image.specs.Perm.{executes}
use Rattle.rz_elf.specs.declared.elf.Load.{Load}
use Rattle.rz_elf.specs.Loaded.{ElfFile}

-- the bytes in memory of the loads that may be executed
abbrev pub executable_in : List Load → ℕ
executable_in loads = sum_by (λ l. l.size) (filter (λ l. executes l.perm) loads)

abbrev pub executable_size : ElfFile → ℕ
executable_size elf = executable_in elf.loads
