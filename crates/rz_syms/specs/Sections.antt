-- Section headers of ELF-64 files (System V gABI, chapter 4, "ELF Header" and "Sections").
use Rattle.std.specs.Prelude.{ℕ, zero, suc, ◌+◌, ◌*◌, ◌==◌, Bool, nat_lt, List, [], ◌∷◌, drop, take, find, Option}
use Rattle.rz_elf.specs.Elf.{field}
use Rattle.rz_syms.specs.declared.section.SectionTable.{SectionTable}
use Rattle.rz_syms.specs.declared.section.Section.{Section}

-- what the file header says of the section headers: `e_shoff`, `e_shentsize` and `e_shnum`
abbrev pub section_table_of : List ℕ → SectionTable
section_table_of x = record { at = field x 40 8; entry_size = field x 58 2; count = field x 60 2 }

-- where the section headers end
abbrev pub table_end : SectionTable → ℕ
table_end h = h.at + 64 * h.count

-- the section header whose bytes come first
abbrev pub section_of : List ℕ → Section
section_of h =
    record { kind = field h 4 4; offset = field h 24 8; size = field h 32 8; link = field h 40 4; entry_size = field h 56 8 }

-- n section headers of 64 bytes, one after the other
abbrev pub sections_of : ℕ → List ℕ → List Section
sections_of zero t = []
sections_of (suc n) t = section_of t ∷ sections_of n (drop 64 t)

abbrev pub sections : List ℕ → List Section
sections x = let h = section_table_of x in sections_of h.count (drop h.at x)

-- the section of a number, from 0
abbrev pub section_at : List ℕ → ℕ → Section
section_at x i = section_of (drop ((section_table_of x).at + 64 * i) x)

-- whether the bytes of a section go past a file of so many bytes
abbrev pub leaves : ℕ → Section → Bool
leaves len s = nat_lt len (s.offset + s.size)

-- the bytes of a section in the file
abbrev pub section_bytes : List ℕ → Section → List ℕ
section_bytes x s = take s.size (drop s.offset x)

-- `sh_type`: SHT_SYMTAB and SHT_STRTAB
abbrev pub is_symbol_table : Section → Bool
is_symbol_table s = s.kind == 2

abbrev pub is_string_table : Section → Bool
is_string_table s = s.kind == 3

-- the symbol table: the first section of its type
abbrev pub symbol_table : List ℕ → Option Section
symbol_table x = find is_symbol_table (sections x)

-- its strings: those of the section that its `sh_link` numbers
abbrev pub string_table : List ℕ → Section → Section
string_table x t = section_at x t.link

abbrev pub strings : List ℕ → Section → List ℕ
strings x t = section_bytes x (string_table x t)
