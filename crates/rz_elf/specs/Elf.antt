-- ELF-64 files: their headers, the faults of a file, and what is loaded of an accepted one
-- (System V gABI, chapter 4, "ELF Header", and chapter 5, "Program Header" and "Program Loading").
use Rattle.std.specs.Prelude.{ℕ, zero, suc, ◌+◌, ◌-◌, ◌*◌, ◌/◌, ◌%◌, Bool, false, not, ◌&&◌, ◌||◌, if◌then◌else◌, nat_lt, nat_le, ◌==◌, List, [], ◌∷◌, ◌++◌, length, take, drop, map, filter, sum_by, max, nat_eq, Option, Some, None}
use Rattle.std.specs.List.{list_any, starts_with}
use Rattle.std.specs.Int.{is_power_of_two}
use Rattle.byteorder.specs.Endian.{little_number}
use Rattle.rz_num.specs.Page.{page_up}
use Rattle.rz_image.specs.declared.region.Region.{Region}
pub use Rattle.rz_image.specs.Perm.{has_flag, perm_of}
use Rattle.rz_image.specs.Memory.{Regions, zeros}
use Rattle.rz_elf.specs.Format.{executable_type, x86_64, current_version, load_type, dynamic_type, interpreter_type, stack_type}
use Rattle.rz_elf.specs.declared.fault.ElfFault.{ElfFault}
use Rattle.rz_elf.specs.declared.fault.ElfFault.TheVariants as fault
pub use Rattle.rz_elf.specs.declared.header.FileHeader.{FileHeader}
pub use Rattle.rz_elf.specs.declared.segment.Segment.{Segment}
pub use Rattle.rz_elf.specs.declared.placed.Placed.{Placed}

-- the number in the field of n bytes at a place of the file, the low byte first (ELFDATA2LSB)
abbrev pub field : List ℕ → ℕ → ℕ → ℕ
field x at n = little_number n (drop at x)

-- the fields of the file header that are read
abbrev pub file_header : List ℕ → FileHeader
file_header x =
    record {
      file_type = field x 16 2;
      machine = field x 18 2;
      version = field x 20 4;
      entry = field x 24 8;
      table_at = field x 32 8;
      header_size = field x 52 2;
      entry_size = field x 54 2;
      count = field x 56 2;
    }

-- the program header whose bytes come first
abbrev pub segment_of : List ℕ → Segment
segment_of h =
    record {
      kind = field h 0 4;
      flags = field h 4 4;
      offset = field h 8 8;
      vaddr = field h 16 8;
      paddr = field h 24 8;
      filesz = field h 32 8;
      memsz = field h 40 8;
      align = field h 48 8;
    }

-- n program headers of 56 bytes, one after the other
abbrev pub segments_of : ℕ → List ℕ → List Segment
segments_of zero t = []
segments_of (suc n) t = segment_of t ∷ segments_of n (drop 56 t)

abbrev pub segments : List ℕ → List Segment
segments x = let h = file_header x in segments_of h.count (drop h.table_at x)

-- what is loaded: a size in memory; and what says how the stack may be used
abbrev pub is_load : Segment → Bool
is_load s = s.kind == load_type && not (s.memsz == 0)

abbrev pub is_stack : Segment → Bool
is_stack s = s.kind == stack_type

abbrev pub loads : List ℕ → List Segment
loads x = filter is_load (segments x)

-- each program header with its number and with the load before it
abbrev pub placed_from : ℕ → Option Segment → List Segment → List Placed
placed_from i before [] = []
placed_from i before (s ∷ rest) =
    record { index = i; before = before; segment = s } ∷ placed_from (suc i) (if is_load s then Some s else before) rest

abbrev pub placed : List ℕ → List Placed
placed x = placed_from 0 None (segments x)

-- a test of a load and the load before it; the first load has none before it
abbrev pub against : (Segment → Segment → Bool) → Placed → Bool
against test p = is_load p.segment && go p.before
  where
    go : Option Segment → Bool
    go None = false
    go (Some b) = test b p.segment

abbrev pub is_dynamic : Segment → Bool
is_dynamic s = s.kind == dynamic_type || s.kind == interpreter_type

abbrev pub is_stack_code : Segment → Bool
is_stack_code s = is_stack s && has_flag s.flags 1

abbrev pub has_other_flags : Segment → Bool
has_other_flags s = is_load s && not (nat_le 4 s.flags && nat_le s.flags 7)

abbrev pub is_writable_code : Segment → Bool
is_writable_code s = is_load s && s.flags == 7

abbrev pub is_larger_in_file : Segment → Bool
is_larger_in_file s = is_load s && nat_lt s.memsz s.filesz

abbrev pub leaves_file : ℕ → Segment → Bool
leaves_file len s = is_load s && nat_lt len (s.offset + s.filesz)

-- `p_align` is a power of two, and address and offset agree modulo it
abbrev pub is_misaligned : Segment → Bool
is_misaligned s =
    is_load s && nat_lt 1 s.align && (not (is_power_of_two s.align) || not (s.vaddr % s.align == s.offset % s.align))

abbrev pub is_far : Segment → Bool
is_far s = is_load s && not (nat_le 0x10000 s.vaddr && nat_le (s.vaddr + s.memsz) 0x70000000)

abbrev pub isnt_above : Segment → Segment → Bool
isnt_above before s = nat_le s.vaddr before.vaddr

-- the page of 4096 bytes of an address, and of the last byte of a load
abbrev pub page : ℕ → ℕ
page a = a / 4096

abbrev pub last_page : Segment → ℕ
last_page s = page (s.vaddr + s.memsz - 1)

abbrev pub shares_page : Segment → Segment → Bool
shares_page before s = nat_le (page s.vaddr) (last_page before) && nat_le (page before.vaddr) (last_page s)

abbrev pub has_entry : ℕ → Segment → Bool
has_entry entry s = s.flags == 5 && nat_le s.vaddr entry && nat_lt entry (s.vaddr + s.memsz)

-- where a condition holds, there is the fault
abbrev pub Condition : Type 0
Condition = Bool × ElfFault

abbrev pub first_of : List Condition → Option ElfFault
first_of [] = None
first_of (c ∷ rest) = if c.0 then Some c.1 else first_of rest

-- one condition for each header
abbrev pub each : (Placed → Bool) → (ℕ → ElfFault) → List Placed → List Condition
each test name ps = map (λ p. (test p, name p.index)) ps

abbrev pub of_segment : (Segment → Bool) → Placed → Bool
of_segment test p = test p.segment

-- the conditions on the file as a whole
abbrev pub file_conditions : List ℕ → List Condition
file_conditions x =
    let h = file_header x in
    (nat_lt 67108864 (length x), fault.Long)
    ∷ (nat_lt (length x) 64, fault.Short)
    ∷ (not (starts_with nat_eq x (0x7f ∷ 0x45 ∷ 0x4c ∷ 0x46 ∷ [])), fault.Magic)
    ∷ (not (field x 4 1 == 2), fault.Class)
    ∷ (not (field x 5 1 == 1), fault.Data)
    ∷ (not (field x 6 1 == current_version) || not (h.version == current_version), fault.Version)
    ∷ (not (h.file_type == executable_type), fault.FileType)
    ∷ (not (h.machine == x86_64), fault.Machine)
    ∷ (not (h.header_size == 64), fault.HeaderSize)
    ∷ (not (h.entry_size == 56), fault.EntrySize)
    ∷ (h.count == 0 || nat_lt 64 h.count, fault.Count)
    ∷ (nat_lt (length x) (h.table_at + 56 * h.count), fault.TableRange)
    ∷ []

-- the conditions on the program headers, one kind after the other
abbrev pub header_conditions : ℕ → List Placed → List Condition
header_conditions len ps =
    each (of_segment is_dynamic) fault.Dynamic ps
    ++ (each (of_segment is_stack_code) fault.StackCode ps
    ++ (each (of_segment has_other_flags) fault.Flags ps
    ++ (each (of_segment is_writable_code) fault.WritableCode ps
    ++ (each (of_segment is_larger_in_file) fault.SizeOrder ps
    ++ (each (of_segment (leaves_file len)) fault.FileRange ps
    ++ (each (of_segment is_misaligned) fault.Align ps
    ++ (each (of_segment is_far) fault.Address ps
    ++ (each (against isnt_above) fault.Order ps
    ++ each (against shares_page) fault.SharedPage ps))))))))

-- the conditions on the loads together
abbrev pub load_conditions : ℕ → List Segment → List Condition
load_conditions entry ls =
    (nat_lt 268435456 (sum_by (λ s. s.memsz) ls), fault.TotalSize)
    ∷ (length ls == 0, fault.NoLoad)
    ∷ (not (list_any (has_entry entry) ls), fault.Entry)
    ∷ []

-- the first fault of a file, or none: then it is accepted
unfoldable pub fault_of : List ℕ → Option ElfFault
fault_of x =
    first_of (file_conditions x ++ (header_conditions (length x) (placed x) ++ load_conditions (file_header x).entry (loads x)))

-- what is loaded of a file
pub record Image : Type 0 where
  pub loads : Regions
  pub entry : ℕ
  pub first_break : ℕ

-- the bytes of a load in memory: those of the file, and zeros past them
abbrev pub load_bytes : List ℕ → Segment → List ℕ
load_bytes x s = take s.filesz (drop s.offset x) ++ zeros (s.memsz - s.filesz)

abbrev pub load_region : List ℕ → Segment → Region
load_region x s = record { base = s.vaddr; bytes = load_bytes x s; opened = s.memsz; perm = perm_of s.flags }

-- where the highest load ends
abbrev pub highest_end : List Segment → ℕ
highest_end [] = 0
highest_end (s ∷ rest) = max (s.vaddr + s.memsz) (highest_end rest)

unfoldable pub image_of : List ℕ → Image
image_of x =
    record { loads = map (load_region x) (loads x); entry = (file_header x).entry; first_break = page_up (highest_end (loads x)) }
