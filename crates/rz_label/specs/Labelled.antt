-- Labelled files: written files with section headers (System V gABI, chapter 4, "ELF Header", "Sections" and "String Table").
use Rattle.std.specs.Prelude.{ℕ, ◌+◌, ◌-◌, ◌*◌, ◌/◌, ◌&&◌, ◌||◌, Bool, nat_lt, List, [], ◌∷◌, ◌++◌, codes, length, take, drop, flat_map}
use Rattle.std.specs.List.{list_any}
use Rattle.byteorder.specs.Endian.{little_bytes}
use Rattle.rz_image.specs.Memory.{zeros}
use Rattle.rz_elf.specs.Elf.{file_header}
use Rattle.rz_elf.specs.Loaded.{ElfFile}
use Rattle.rz_elf.specs.declared.elf.Load.{Load}
use Rattle.rz_label.specs.declared.sections.Section.{Section}

-- the bytes of a section header
abbrev pub section_bytes : Section → List ℕ
section_bytes s =
    little_bytes 4 s.name
    ++ (little_bytes 4 s.kind
    ++ (little_bytes 8 s.flags
    ++ (little_bytes 8 s.at
    ++ (little_bytes 8 s.offset
    ++ (little_bytes 8 s.size
    ++ (little_bytes 4 0
    ++ (little_bytes 4 0
    ++ (little_bytes 8 s.align
    ++ little_bytes 8 0))))))))

-- the string table of the names, and where each of them begins in it
abbrev pub names : List ℕ
names =
    0 ∷ (codes ".razor.scratch" ++ (0 ∷ (codes ".razor.tables" ++ (0 ∷ (codes ".razor.code" ++ (0 ∷ (codes ".razor.stubs" ++ (0 ∷ (codes ".shstrtab" ++ 0 ∷ [])))))))))

-- the section of a load: SHF_WRITE, SHF_ALLOC and SHF_EXECINSTR are 1, 2 and 4
abbrev pub load_section : (name kind flags : ℕ) → Load → Section
load_section name kind flags l =
    record { name = name; kind = kind; flags = flags; at = l.at; offset = l.file_at; size = l.size; align = 4096 }

-- the sections of the four added loads: SHT_NOBITS is 8, SHT_PROGBITS 1
abbrev pub part_sections : List Load → List Section
part_sections (scratch ∷ tables ∷ code ∷ stubs ∷ rest) =
    load_section 1 8 3 scratch ∷ load_section 16 1 2 tables ∷ load_section 30 1 6 code ∷ load_section 42 1 6 stubs ∷ []
part_sections _ = []

-- the section of the names at an offset: SHT_STRTAB is 3
abbrev pub names_section : ℕ → Section
names_section at = record { name = 55; kind = 3; flags = 0; at = 0; offset = at; size = length names; align = 1 }

-- no section, which has the number 0
abbrev pub no_section : Section
no_section = record { name = 0; kind = 0; flags = 0; at = 0; offset = 0; size = 0; align = 0 }

-- all sections
abbrev pub label_sections : List Load → ℕ → List Section
label_sections loads names_at = no_section ∷ (part_sections loads ++ names_section names_at ∷ [])

-- a place, rounded up to a multiple of 8
abbrev pub round_up : ℕ → ℕ
round_up n = (n + 7) / 8 * 8

-- where the names and the section headers begin in the file, and where these end
abbrev pub names_at : ℕ → ℕ
names_at len = round_up len

abbrev pub headers_at : ℕ → ℕ
headers_at len = round_up (names_at len + 65)

abbrev pub labelled_len : ℕ → ℕ
labelled_len len = headers_at len + 64 * 6

-- a file whose header says that six section headers begin at a place, the last being that of the names:
-- `e_shoff` stands at 40, and `e_shentsize`, `e_shnum` and `e_shstrndx` at 58
abbrev pub with_sections_at : List ℕ → ℕ → List ℕ
with_sections_at x at =
    take 40 x ++ (little_bytes 8 at ++ (take 10 (drop 48 x) ++ (little_bytes 2 64 ++ (little_bytes 2 6 ++ (little_bytes 2 5 ++ drop 64 x)))))

-- what stands between a file of so many bytes and the section headers: the names
abbrev pub names_behind : ℕ → List ℕ
names_behind len = zeros (names_at len - len) ++ (names ++ zeros (headers_at len - (names_at len + 65)))

-- the labelled file
unfoldable pub labelled : ElfFile → List ℕ
labelled elf =
    let len = length elf.bytes in
    with_sections_at elf.bytes (headers_at len) ++ (names_behind len ++ flat_map section_bytes (label_sections elf.loads (names_at len)))

-- whether a load has bytes of the file header
abbrev pub load_maps_header : Load → Bool
load_maps_header l = nat_lt 0 l.file_size && nat_lt l.file_at 64

-- whether program headers or a load have bytes of the file header, so that a change of it could change what is loaded
abbrev pub maps_header : ElfFile → Bool
maps_header elf =
    nat_lt (file_header elf.bytes).table_at 64 || list_any load_maps_header elf.loads
