-- Whether there is room for added parts: below the lowest load, in the header page, in the file and in memory.
use Rattle.std.specs.Prelude.{◌≡◌, ℕ, ◌+◌, ◌%◌, ◌<◌, ◌≤◌, if◌then◌else◌, nat_lt, List, length, sum_by, Option, Some, None}
use Rattle.rz_num.specs.Page.{page_up}
use Rattle.rz_elf.specs.declared.room.Extent.{Extent}
use Rattle.rz_elf.specs.declared.room.Room.{Room}
use Rattle.rz_elf.specs.declared.room.Room.TheVariants as room
use Rattle.rz_elf.specs.Format.{added_loads}
use Rattle.rz_elf.specs.Elf.{loads, image_of}
use Rattle.rz_elf.specs.AddedRange.{scratch_size, lowest, page_floor}
use Rattle.rz_elf.specs.WrittenFile.{Parts, kept_segments}

-- the page where the lowest load begins, the program headers that are kept, the bytes, and those of the loads in memory
abbrev pub extent_of : List ℕ → Extent
extent_of x =
    record {
      floor = page_floor (lowest (image_of x).loads);
      headers = length (kept_segments x);
      bytes = length x;
      memory = sum_by (λ s. s.memsz) (loads x);
    }

-- why there is no room for a scratch page and parts of so many bytes: the first of four causes that holds
abbrev pub no_room : Extent → ℕ → Option Room
no_room x size =
    if nat_lt x.floor (0x10000 + scratch_size + size) then Some room.Low
    else (if nat_lt 64 (added_loads + x.headers) then Some room.Headers
    else (if nat_lt 67108864 (4096 + page_up x.bytes + size) then Some room.Length
    else (if nat_lt 268435456 (x.memory + scratch_size + size) then Some room.Total else None)))

-- the bytes of the parts that stand in the file
abbrev pub parts_size : Parts → ℕ
parts_size p = length p.tables + length p.code + length p.stubs

-- where the parts end in memory
abbrev pub parts_end : Parts → ℕ
parts_end p = p.base + scratch_size + parts_size p

-- one or more whole pages
abbrev pub IsPages : List ℕ → Type 0
IsPages bytes = (0 < length bytes) × (length bytes % 4096 ≡ 0)

pub record ArePages (p : Parts) : Type 0 where
  pub tables : IsPages p.tables
  pub code : IsPages p.code
  pub stubs : IsPages p.stubs

-- an address of the code part
abbrev pub IsInCode : Parts → ℕ → Type 0
IsInCode p a =
    let code = p.base + scratch_size + length p.tables in
    (code ≤ a) × (a < code + length p.code)
