-- Worked rows: both reports, executable bytes, and stubs counted.
use Rattle.std.proofs.Common.{◌≡◌, ℕ, List, [], ◌∷◌, ◌++◌, replicate, Some, refl}
use Rattle.std.specs.Prelude.{codes}
use Rattle.std.specs.Fmt.{digits}
use Rattle.rz_image.specs.Memory.{zeros}
use Rattle.rz_elf.specs.declared.elf.Load.{Load}
use Rattle.rz_elf.specs.Format.{int3, stub_size, stub_bytes}
use Rattle.rz_elf.specs.Loaded.{loaded_region}
use Rattle.rz_elf.specs.Executable.{executable_in}
use Rattle.rz_report.specs.Stubs.{stub_count, stubs_in, stubs_of}
use Rattle.rz_report.specs.Report.{report_text, pair_text}

eight_kept : report_text 0x3fd000 7 8 0 0 ≡ codes "{\"added\":\"0x3fd000\",\"edges\":7,\"instructions\":8,\"site_edges\":0,\"sites\":0}\n"
unfolding digits
eight_kept = refl

eight_stubs : pair_text 37 8192 8 4133 24576 ≡ codes "{\"executable\":[37,8192],\"instructions\":8,\"length\":[4133,24576]}\n"
unfolding digits
eight_stubs = refl

-- a load of so many bytes in memory and in the file, with these flags
load : ℕ → ℕ → ℕ → Load
load size file_size flags =
    record { at = 0x400000; size = size; file_at = 0; file_size = file_size; align = 4096; perm = record { 0 = flags }; index = 0 }

-- scratch, tables, code, stubs, and an original that lost its permission to execute
code_and_stubs : executable_in (load 4096 0 6 ∷ load 4096 4096 4 ∷ load 4096 4096 5 ∷ load 4096 4096 5 ∷ load 37 37 4 ∷ []) ≡ 8192
unfolding load
code_and_stubs = refl

-- bytes in memory past those of the file count
in_memory : executable_in (load 50 37 5 ∷ load 9 9 4 ∷ []) ≡ 50
unfolding load
in_memory = refl

-- a piece of INT3
abbrev filler : List ℕ
filler = replicate stub_size int3

two : stubs_in (stub_bytes 0x3ff000 0x401000 ++ (stub_bytes 0x3ff018 0x401005 ++ filler)) ≡ 2
two = refl

-- what follows a piece of other bytes isn't counted
first_alone : stubs_in (stub_bytes 0 1 ++ (filler ++ stub_bytes 48 2)) ≡ 1
first_alone = refl

-- nor a piece that isn't whole
whole_alone : stubs_in (stub_bytes 0 1 ++ (0x0f ∷ 0x0b ∷ 0 ∷ [])) ≡ 1
whole_alone = refl

-- the zeros in memory past the bytes of the file make a piece whole, and are no stub
zeros_behind : stubs_of (Some (loaded_region (stub_bytes 0 1 ++ (0x0f ∷ 0x0b ∷ [])) (load 72 26 5))) ≡ 2
unfolding load zeros
zeros_behind = refl

no_stamp : stub_count (record { bytes = stub_bytes 0 1; loads = load 24 24 5 ∷ load 24 24 5 ∷ load 24 24 5 ∷ load 24 24 5 ∷ []; entry = 0; first_break = 0 }) ≡ 0
unfolding load
no_stamp = refl
