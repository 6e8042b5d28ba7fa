-- Stamped files: accepted files with the stamp of a written file and its added loads.
use Rattle.std.specs.Prelude.{ℕ, Bool, ◌&&◌, if◌then◌else◌, nat_eq, nat_le, List, length, drop, Option, Some, None}
use Rattle.std.specs.List.{starts_with}
use Rattle.rz_elf.specs.Format.{stamp_at, stamp_with, added_loads}
use Rattle.rz_elf.specs.Loaded.{ElfFile}

-- a stamp stands where the padding of the identification begins, and there are as many loads as are added, or more
abbrev pub has_stamp : List ℕ → ElfFile → Bool
has_stamp stamp elf = starts_with nat_eq (drop stamp_at elf.bytes) stamp && nat_le added_loads (length elf.loads)

-- the number of the stamp; none where a file isn't stamped
abbrev pub stamp_of : ElfFile → Option ℕ
stamp_of elf = if has_stamp (stamp_with 1) elf then Some 1 else None
