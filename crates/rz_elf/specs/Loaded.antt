-- What is kept of an accepted file, and what it loads.
use Rattle.std.specs.Prelude.{◌≡◌, ℕ, ◌+◌, ◌-◌, ◌^◌, ◌<◌, ◌≤◌, Bool, List, ◌++◌, length, take, drop, map, filter, Some, None}
use Rattle.std.specs.List.{AllByRecursion}
use Rattle.rz_image.specs.declared.region.Region.{Region}
use Rattle.rz_image.specs.Perm.{perm_of}
use Rattle.rz_image.specs.Memory.{zeros}
use Rattle.rz_elf.specs.declared.elf.Load.{Load}
use Rattle.rz_elf.specs.declared.fault.ElfError.{ElfError}
use Rattle.rz_elf.specs.declared.fault.ElfError.TheVariants as error
use Rattle.rz_elf.specs.Elf.{Placed, placed, is_load, file_header, fault_of, Image, image_of}

-- a file and what is loaded of it
pub record ElfFile : Type 0 where
  pub bytes : List ℕ
  pub loads : List Load
  pub entry : ℕ
  pub first_break : ℕ

-- a program header that is a load
abbrev pub is_load_header : Placed → Bool
is_load_header p = is_load p.segment

-- what is kept of a load: its header's fields and number
abbrev pub load_of : Placed → Load
load_of p =
    record {
      at = p.segment.vaddr;
      size = p.segment.memsz;
      file_at = p.segment.offset;
      file_size = p.segment.filesz;
      align = p.segment.align;
      perm = perm_of p.segment.flags;
      index = p.index;
    }

-- what is read of a file
abbrev pub elf_of : List ℕ → ElfFile
elf_of x =
    record {
      bytes = x;
      loads = map load_of (filter is_load_header (placed x));
      entry = (file_header x).entry;
      first_break = (image_of x).first_break;
    }

-- what is read of an accepted file
pub record IsRead (elf : ElfFile) : Type 0 where
  pub accepted : fault_of elf.bytes ≡ None
  pub read : elf ≡ elf_of elf.bytes

-- the bytes of a load: those of the file, and zeros past them
abbrev pub loaded_region : List ℕ → Load → Region
loaded_region bytes l =
    record { base = l.at; bytes = take l.file_size (drop l.file_at bytes) ++ zeros (l.size - l.file_size); opened = l.size; perm = l.perm }

-- what is loaded of it
abbrev pub loaded : ElfFile → Image
loaded elf =
    record { loads = map (loaded_region elf.bytes) elf.loads; entry = elf.entry; first_break = elf.first_break }

-- the bytes of a load are in the file and no more than its size, and it ends below 2^63
pub record IsLoad (len : ℕ) (l : Load) : Type 0 where
  pub inside : l.file_at + l.file_size ≤ len
  pub larger : l.file_size ≤ l.size
  pub low : l.at + l.size < 2 ^ 63

-- each load is one, and 16 MiB of heap have addresses
pub record IsLoadable (elf : ElfFile) : Type 0 where
  pub loads : AllByRecursion (IsLoad (length elf.bytes)) elf.loads
  pub heap : elf.first_break + 16777216 < 2 ^ 64

-- why a file isn't read
abbrev pub IsCause : List ℕ → ElfError → Type 0
IsCause x (error.Fault f) = fault_of x ≡ Some f
IsCause x error.OutOfMemory = Unit {0}

-- a header whose bytes in memory end at the highest address of loads or before
abbrev pub IsLow : Placed → Type 0
IsLow p = p.segment.vaddr + p.segment.memsz ≤ 0x70000000
