-- What is measured of a file that was read is what it takes.
use Rattle.std.proofs.Common.{◌≡◌, ◌+◌, ◌≤◌, List, [], ◌∷◌, map, refl, sym, ap, ◌∙◌, arith}
use Rattle.std.specs.Prelude.{filter, sum_by}
use Rattle.std.proofs.lemmas.List.Sums.{sum_by-cons}
use Rattle.std.proofs.lemmas.Bool.Decides.{nat_tests}
use Rattle.rz_elf.specs.declared.elf.Load.{Load}
use Rattle.rz_elf.specs.declared.placed.Placed.{Placed}
use Rattle.rz_elf.specs.declared.segment.Segment.{Segment}
use Rattle.rz_elf.specs.Elf.{file_header, loads, load_conditions, placed, Image, image_of}
use Rattle.rz_elf.specs.AddedRange.{lowest, page_floor}
use Rattle.rz_elf.specs.Loaded.{ElfFile, IsRead, is_load_header, load_of, loaded_region}
use Rattle.rz_elf.specs.Laws.Conditions.{none_holds}
use Rattle.rz_elf.specs.Laws.HeaderList.{loads_placed}
use Rattle.rz_elf.specs.Laws.Loads.{loaded_image}
use Rattle.rz_elf.specs.Laws.Reading.{loads_faultless}

sizes_of : (ps : List Placed) → sum_by (λ (l : Load). l.size) (map load_of ps) ≡ sum_by (λ (s : Segment). s.memsz) (map (λ (p : Placed). p.segment) ps)
sizes_of [] = refl
sizes_of (p ∷ ps) =
    sum_by-cons (λ (l : Load). l.size) (load_of p) (map load_of ps)
    ∙ ap (λ n. p.segment.memsz + n) (sizes_of ps)
    ∙ sym (sum_by-cons (λ (s : Segment). s.memsz) p.segment (map (λ (p : Placed). p.segment) ps))

-- the bytes of all loads in memory
pub memory_is : (e : ElfFile) → IsRead e → sum_by (λ (l : Load). l.size) e.loads ≡ sum_by (λ (s : Segment). s.memsz) (loads e.bytes)
memory_is e is =
    ap (λ (f : ElfFile). sum_by (λ (l : Load). l.size) f.loads) is.read
    ∙ sizes_of (filter is_load_header (placed e.bytes))
    ∙ ap (sum_by (λ (s : Segment). s.memsz)) (loads_placed e.bytes)

pub memory_small : (e : ElfFile) → IsRead e → sum_by (λ (l : Load). l.size) e.loads ≤ 268435456
memory_small e is =
    let t = (none_holds (load_conditions (file_header e.bytes).entry (loads e.bytes)) (loads_faultless e.bytes is.accepted)).0 in
    let few : sum_by (λ (s : Segment). s.memsz) (loads e.bytes) ≤ 268435456 = grind (arith, nat_tests, t) in
    let same = memory_is e is in
    omega (arith, few, same)

-- the page where the lowest load begins
pub floor_is : (e : ElfFile) → IsRead e → page_floor (lowest (map (loaded_region e.bytes) e.loads)) ≡ page_floor (lowest (image_of e.bytes).loads)
floor_is e is = ap (λ (x : Image). page_floor (lowest x.loads)) (loaded_image e is)
