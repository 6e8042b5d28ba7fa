-- Generated files are accepted.
use Rattle.std.proofs.Common.{◌≡◌, ℕ, ◌^◌, ◌<◌, ◌≤◌, true, List, [], ◌∷◌, ◌++◌, length, None, refl, arith}
use Rattle.std.specs.List.{list_any}
use Rattle.std.proofs.lemmas.Bool.Decides.{nat_tests}
use Rattle.byteorder.specs.Endian.{little_bytes, little_number}
use Rattle.byteorder.specs.Numbers.{little_number-reads_back}
use Rattle.rz_elf.specs.declared.segment.Segment.{Segment}
use Rattle.rz_elf.specs.Elf.{file_header, segments, has_entry, fault_of}
use Rattle.rz_elf.specs.Laws.Accepted.{executable_header, HasGoodHeaders, fault_of_none}
use Rattle.rz_gen.specs.Places.{code_at}
use Rattle.rz_gen.specs.Code.{code}
use Rattle.rz_gen.specs.Generated.{code_segment, header_page, generated}
use Rattle.rz_gen.proofs.Lengths.{length-code, length-generated}

long : (v : ℕ) → v < 2 ^ 64 → little_number 8 (little_bytes 8 v) ≡ v
long v h = little_number-reads_back 8 v [] h

-- what is read of a header page
header_read : (size : ℕ) (rest : List ℕ) → file_header (header_page size ++ rest) ≡ executable_header code_at 1
unfolding header_page
header_read size rest = refl

segments_read : (size : ℕ) (rest : List ℕ) → size < 2 ^ 64 → segments (header_page size ++ rest) ≡ code_segment size ∷ []
unfolding header_page
segments_read size rest h = λ i. let s : Segment = record {
  kind = 1;
  flags = 5;
  offset = 4096;
  vaddr = code_at;
  paddr = code_at;
  filesz = long size h i;
  memsz = long size h i;
  align = 4096;
} in s ∷ []

entered : (size : ℕ) → 0 < size → list_any (has_entry code_at) (code_segment size ∷ []) ≡ true
entered size some = grind (arith, nat_tests)

-- a generated file has good headers
good : (n : ℕ) → 1 ≤ n → n ≤ 4000 → HasGoodHeaders (generated n) (code_segment (length (code n)) ∷ []) code_at
unfolding generated header_page
good n some few =
    let size = length-code n in
    let whole = length-generated n in
    record {
      short = omega arith;
      whole = omega arith;
      magic = refl;
      class = refl;
      order = refl;
      version = refl;
      header = header_read (length (code n)) (code n);
      headers = segments_read (length (code n)) (code n) (omega arith);
      some = omega arith;
      few = omega arith;
      loads = (
        record {
          kind = refl;
          sized = omega arith;
          readable = omega arith;
          harmless = omega arith;
          small = omega arith;
          stored = omega arith;
          align = refl;
          aligned = refl;
          low = omega arith;
          high = omega arith;
        },
        tt,
        tt,
      );
      total = omega arith;
      entered = entered (length (code n)) (omega arith);
    }

pub generated_accepted : (n : ℕ) → 1 ≤ n → n ≤ 4000 → fault_of (generated n) ≡ None
generated_accepted n some few = fault_of_none (good n some few)
