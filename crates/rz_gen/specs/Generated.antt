-- The generated file: a header page, and the code behind it as its one load
-- (System V gABI, chapter 4, "ELF Header", and chapter 5, "Program Header").
use Rattle.std.specs.Prelude.{ℕ, ◌-◌, List, [], ◌∷◌, ◌++◌, length}
use Rattle.byteorder.specs.Endian.{little_bytes}
use Rattle.rz_elf.specs.declared.segment.Segment.{Segment}
use Rattle.rz_elf.specs.WrittenFile.{segment_bytes}
use Rattle.rz_gen.specs.Places.{code_at}
use Rattle.rz_gen.specs.Code.{code, filling}

-- ELF, 64 bits, low byte first, version 1, System V
abbrev pub identity : List ℕ
identity = 0x7f ∷ 0x45 ∷ 0x4c ∷ 0x46 ∷ 2 ∷ 1 ∷ 1 ∷ 0 ∷ 0 ∷ 0 ∷ 0 ∷ 0 ∷ 0 ∷ 0 ∷ 0 ∷ 0 ∷ []

-- the file header of an executable for x86-64 whose entry is its code, with one program header, and no sections
abbrev pub header_bytes : List ℕ
header_bytes =
    identity
    ++ (little_bytes 2 2
    ++ (little_bytes 2 62
    ++ (little_bytes 4 1
    ++ (little_bytes 8 code_at
    ++ (little_bytes 8 64
    ++ (little_bytes 8 0
    ++ (little_bytes 4 0
    ++ (little_bytes 2 64
    ++ (little_bytes 2 56
    ++ (little_bytes 2 1
    ++ (little_bytes 2 0
    ++ (little_bytes 2 0
    ++ little_bytes 2 0))))))))))))

-- the load of so many bytes of code, to read and to execute
abbrev pub code_segment : ℕ → Segment
code_segment size =
    record { kind = 1; flags = 5; offset = 4096; vaddr = code_at; paddr = code_at; filesz = size; memsz = size; align = 4096 }

-- the headers, filled with zeros up to a page
unfoldable pub header_page : ℕ → List ℕ
header_page size = header_bytes ++ (segment_bytes (code_segment size) ++ filling 0 (4096 - 120))

-- the file of so many functions
unfoldable pub generated : ℕ → List ℕ
generated n = header_page (length (code n)) ++ code n
