-- What is read of a header page is what was written.
use Rattle.std.proofs.Common.{◌≡◌, ℕ, ◌+◌, ◌-◌, ◌*◌, ◌^◌, ◌<◌, ◌≤◌, true, List, [], ◌∷◌, ◌++◌, length, drop, refl, ap, ◌∙◌, arith, append_assoc}
use Rattle.std.specs.Prelude.{flat_map, nat_eq, slice_index}
use Rattle.std.specs.List.{AllByRecursion, starts_with}
use Rattle.std.proofs.lemmas.List.{drop_at, get_or-drop, length-append}
use Rattle.byteorder.specs.Endian.{little_bytes, little_number}
use Rattle.byteorder.specs.Numbers.{little_from-lt, little_number-reads_back}
use Rattle.rz_image.specs.Memory.{zeros}
use Rattle.rz_image.specs.Laws.Zeros.{length-zeros}
use Rattle.rz_elf.specs.declared.segment.Segment.{Segment}
use Rattle.rz_elf.specs.declared.header.FileHeader.{FileHeader}
use Rattle.rz_elf.specs.Elf.{field, file_header, segment_of, segments, segments_of}
use Rattle.rz_elf.specs.WrittenFile.{segment_bytes, header_page}
use Rattle.rz_elf.specs.Laws.Accepted.{executable_header}

-- each is a byte
abbrev pub AreBytes : List ℕ → Type 0
AreBytes x = (i : ℕ) → slice_index x i < 256

-- the fields of a program header fit their places
pub record IsEncodable (s : Segment) : Type 0 where
  pub kind : s.kind < 2 ^ 32
  pub flags : s.flags < 2 ^ 32
  pub offset : s.offset < 2 ^ 64
  pub vaddr : s.vaddr < 2 ^ 64
  pub paddr : s.paddr < 2 ^ 64
  pub filesz : s.filesz < 2 ^ 64
  pub memsz : s.memsz < 2 ^ 64
  pub align : s.align < 2 ^ 64

half : (v : ℕ) → v < 2 ^ 16 → little_number 2 (little_bytes 2 v) ≡ v
half v h = little_number-reads_back 2 v [] h

word : (v : ℕ) → v < 2 ^ 32 → little_number 4 (little_bytes 4 v) ≡ v
word v h = little_number-reads_back 4 v [] h

long : (v : ℕ) → v < 2 ^ 64 → little_number 8 (little_bytes 8 v) ≡ v
long v h = little_number-reads_back 8 v [] h

-- the program header that was written first
segment_of-segment_bytes : (s : Segment) (rest : List ℕ) → IsEncodable s → segment_of (segment_bytes s ++ rest) ≡ s
segment_of-segment_bytes s rest h = λ i. record {
  kind = word s.kind h.kind i;
  flags = word s.flags h.flags i;
  offset = long s.offset h.offset i;
  vaddr = long s.vaddr h.vaddr i;
  paddr = long s.paddr h.paddr i;
  filesz = long s.filesz h.filesz i;
  memsz = long s.memsz h.memsz i;
  align = long s.align h.align i;
}

-- all program headers that were written
segments_of-segment_bytes : (segs : List Segment) (rest : List ℕ) → AllByRecursion IsEncodable segs → segments_of (length segs) (flat_map segment_bytes segs ++ rest) ≡ segs
segments_of-segment_bytes [] rest h = refl
segments_of-segment_bytes (s ∷ segs) rest h =
    let ih = segments_of-segment_bytes segs rest h.1 in
    let one = segment_of-segment_bytes s (flat_map segment_bytes segs ++ rest) h.0 in
    λ i. one i ∷ ih i

-- bytes from a place on
pub bytes_on : (n : ℕ) (x : List ℕ) → AreBytes x → AreBytes (drop n x)
bytes_on n x h i = let e = get_or-drop n x i 0 in let b = h (n + i) in omega (arith, e, b)

-- a program header that is read of bytes fits its places
pub encodable_read : (x : List ℕ) → AreBytes x → IsEncodable (segment_of x)
encodable_read x h = record {
  kind = little_from-lt 0 4 x h;
  flags = little_from-lt 0 4 (drop 4 x) (bytes_on 4 x h);
  offset = little_from-lt 0 8 (drop 8 x) (bytes_on 8 x h);
  vaddr = little_from-lt 0 8 (drop 16 x) (bytes_on 16 x h);
  paddr = little_from-lt 0 8 (drop 24 x) (bytes_on 24 x h);
  filesz = little_from-lt 0 8 (drop 32 x) (bytes_on 32 x h);
  memsz = little_from-lt 0 8 (drop 40 x) (bytes_on 40 x h);
  align = little_from-lt 0 8 (drop 48 x) (bytes_on 48 x h);
}

length-segment_bytes : (segs : List Segment) → length (flat_map segment_bytes segs) ≡ 56 * length segs
length-segment_bytes [] = omega arith
length-segment_bytes (s ∷ segs) = let ih = length-segment_bytes segs in omega arith

-- a header page is a page
pub length-header_page : (segs : List Segment) (entry : ℕ) → length segs ≤ 64 → length (header_page segs entry) ≡ 4096
length-header_page segs entry few =
    let fill = 4096 - (64 + 56 * length segs) in
    let b = length-append (flat_map segment_bytes segs) (zeros fill) in
    let c = length-segment_bytes segs in
    let d = length-zeros fill in
    omega arith

-- a header page and what follows it
module _ (segs : List Segment) (entry : ℕ) (rest : List ℕ) where
  abbrev w : List ℕ
  w = header_page segs entry ++ rest

  pub paged_header : entry < 2 ^ 64 → length segs < 2 ^ 16 → file_header w ≡ executable_header entry (length segs)
  paged_header h k = λ i. record {
    file_type = 2;
    machine = 62;
    version = 1;
    entry = long entry h i;
    table_at = 64;
    header_size = 64;
    entry_size = 56;
    count = half (length segs) k i;
  }

  pub paged_magic : starts_with nat_eq w (0x7f ∷ 0x45 ∷ 0x4c ∷ 0x46 ∷ []) ≡ true
  paged_magic = refl

  pub paged_class : field w 4 1 ≡ 2
  paged_class = refl

  pub paged_order : field w 5 1 ≡ 1
  paged_order = refl

  pub paged_version : field w 6 1 ≡ 1
  paged_version = refl

  pub paged_segments : entry < 2 ^ 64 → length segs < 2 ^ 16 → AllByRecursion IsEncodable segs → segments w ≡ segs
  paged_segments h k encodable =
      let fill = zeros (4096 - (64 + 56 * length segs)) in
      ap (λ (f : FileHeader). segments_of f.count (drop f.table_at w)) (paged_header h k)
      ∙ ap (segments_of (length segs)) (append_assoc (flat_map segment_bytes segs) fill rest)
      ∙ segments_of-segment_bytes segs (fill ++ rest) encodable

  pub paged_rest : length segs ≤ 64 → drop 4096 w ≡ rest
  paged_rest few = drop_at (header_page segs entry) rest 4096 (length-header_page segs entry few)

  pub length-paged : length segs ≤ 64 → length w ≡ 4096 + length rest
  length-paged few = let a = length-append (header_page segs entry) rest in let b = length-header_page segs entry few in omega arith
