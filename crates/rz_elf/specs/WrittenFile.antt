-- The written file, byte for byte: a fresh header page, the original, and the added parts; and what is loaded of it.
use Rattle.std.specs.Prelude.{ℕ, ◌+◌, ◌-◌, ◌*◌, ◌%◌, ◌||◌, if◌then◌else◌, List, [], ◌∷◌, ◌++◌, length, map, filter, flat_map, min}
use Rattle.byteorder.specs.Endian.{little_bytes}
use Rattle.rz_num.specs.Page.{page_up}
use Rattle.rz_image.specs.declared.region.Region.{Region}
use Rattle.rz_image.specs.Perm.{read_only, read_execute, read_write}
use Rattle.rz_image.specs.Memory.{Regions, whole_region, zeros}
use Rattle.rz_elf.specs.declared.segment.Segment.{Segment}
use Rattle.rz_elf.specs.Format.{executable_type, x86_64, current_version, load_type, stamp}
use Rattle.rz_elf.specs.Elf.{segments, is_load, is_stack, Image}
use Rattle.rz_elf.specs.AddedRange.{scratch_size}

-- the parts that are added to a file: the address of the first one, which is the scratch page, and the bytes of the
-- three others, which follow it in memory
pub record Parts : Type 0 where
  pub base : ℕ
  pub tables : List ℕ
  pub code : List ℕ
  pub stubs : List ℕ

-- the bytes of a program header (System V gABI, chapter 5, "Program Header")
abbrev pub segment_bytes : Segment → List ℕ
segment_bytes s =
    little_bytes 4 s.kind
    ++ (little_bytes 4 s.flags
    ++ (little_bytes 8 s.offset
    ++ (little_bytes 8 s.vaddr
    ++ (little_bytes 8 s.paddr
    ++ (little_bytes 8 s.filesz
    ++ (little_bytes 8 s.memsz
    ++ little_bytes 8 s.align))))))

-- ELF, 64 bits, low byte first, version 1, System V; then the stamp (System V gABI, chapter 4, "ELF Identification")
abbrev pub identity : List ℕ
identity = 0x7f ∷ 0x45 ∷ 0x4c ∷ 0x46 ∷ 2 ∷ 1 ∷ 1 ∷ 0 ∷ 0 ∷ stamp

-- the file header of an executable for x86-64 with this entry and this number of program headers, and no sections
abbrev pub header_bytes : ℕ → ℕ → List ℕ
header_bytes entry count =
    identity
    ++ (little_bytes 2 executable_type
    ++ (little_bytes 2 x86_64
    ++ (little_bytes 4 current_version
    ++ (little_bytes 8 entry
    ++ (little_bytes 8 64
    ++ (little_bytes 8 0
    ++ (little_bytes 4 0
    ++ (little_bytes 2 64
    ++ (little_bytes 2 56
    ++ (little_bytes 2 count
    ++ (little_bytes 2 64
    ++ (little_bytes 2 0
    ++ little_bytes 2 0))))))))))))

-- a load whose bytes stand whole at an offset of the file
abbrev pub added_segment : ℕ → ℕ → ℕ → ℕ → ℕ → Segment
added_segment flags offset at filesz memsz =
    record { kind = load_type; flags = flags; offset = offset; vaddr = at; paddr = at; filesz = filesz; memsz = memsz; align = 4096 }

-- the four added loads: scratch, tables, code and stubs; `offset` is where the tables stand in the file
abbrev pub added_segments : ℕ → Parts → List Segment
added_segments offset p =
    let t = length p.tables in
    let c = length p.code in
    let s = length p.stubs in
    added_segment 6 0 p.base 0 scratch_size
    ∷ added_segment 4 offset (p.base + scratch_size) t t
    ∷ added_segment 5 (offset + t) (p.base + scratch_size + t) c c
    ∷ added_segment 5 (offset + t + c) (p.base + scratch_size + t + c) s s
    ∷ []

abbrev pub without_execute : ℕ → ℕ
without_execute flags = flags - flags % 2

-- a load is one page further on in the new file, and may not be executed; a stack header stays
abbrev pub moved : Segment → Segment
moved s =
    if is_load s
    then record s { flags = without_execute s.flags; offset = s.offset + 4096; align = min s.align 4096 }
    else s

abbrev pub kept_segments : List ℕ → List Segment
kept_segments x = map moved (filter (λ s. is_load s || is_stack s) (segments x))

abbrev pub new_segments : List ℕ → Parts → List Segment
new_segments x p = added_segments (4096 + page_up (length x)) p ++ kept_segments x

-- the header page
abbrev pub header_page : List Segment → ℕ → List ℕ
header_page segs entry =
    header_bytes entry (length segs) ++ (flat_map segment_bytes segs ++ zeros (4096 - (64 + 56 * length segs)))

unfoldable pub written_file : List ℕ → Parts → ℕ → List ℕ
written_file x p entry =
    header_page (new_segments x p) entry
    ++ (x ++ (zeros (page_up (length x) - length x) ++ (p.tables ++ (p.code ++ p.stubs))))

-- the regions of the added loads
abbrev pub added_regions : Parts → Regions
added_regions p =
    whole_region p.base (zeros scratch_size) read_write
    ∷ whole_region (p.base + scratch_size) p.tables read_only
    ∷ whole_region (p.base + scratch_size + length p.tables) p.code read_execute
    ∷ whole_region (p.base + scratch_size + length p.tables + length p.code) p.stubs read_execute
    ∷ []

-- a region without the permission to execute
abbrev pub without_code : Region → Region
without_code r = record r { perm = record { 0 = without_execute r.perm.0 } }

-- the original's loads without the permission to execute, and the four added loads
abbrev pub new_image : Image → Parts → ℕ → Image
new_image x p entry = record { loads = added_regions p ++ map without_code x.loads; entry = entry; first_break = x.first_break }
