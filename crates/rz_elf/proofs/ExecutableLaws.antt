-- How many bytes the executable loads of an accepted file have at most.
use Rattle.std.proofs.Common.{◌≤◌, Bool, true, false, if◌then◌else◌, List, [], ◌∷◌, map, ap, arith}
use Rattle.std.specs.Prelude.{filter, sum_by}
use Rattle.std.proofs.lemmas.List.Sums.{sum_by-cons}
use Rattle.std.proofs.lemmas.Bool.Decides.{nat_tests}
use Rattle.rz_image.specs.Perm.{executes}
use Rattle.rz_elf.specs.declared.elf.Load.{Load}
use Rattle.rz_elf.specs.declared.placed.Placed.{Placed}
use Rattle.rz_elf.specs.declared.segment.Segment.{Segment}
use Rattle.rz_elf.specs.Elf.{file_header, loads, load_conditions, placed}
use Rattle.rz_elf.specs.Loaded.{ElfFile, IsRead, is_load_header, load_of}
use Rattle.rz_elf.specs.Laws.Conditions.{none_holds}
use Rattle.rz_elf.specs.Laws.HeaderList.{loads_placed}
use Rattle.rz_elf.specs.Laws.Reading.{loads_faultless}
use Rattle.rz_elf.specs.Executable.{executable_in, executable_size}

-- no more than all loads have
executable_few : (ps : List Placed) → executable_in (map load_of ps) ≤ sum_by (λ (s : Segment). s.memsz) (map (λ (p : Placed). p.segment) ps)
executable_few [] = omega arith
executable_few (p ∷ ps) = go (executes (load_of p).perm) (executable_few ps)
  where
    rest : List Load
    rest = filter (λ (l : Load). executes l.perm) (map load_of ps)

    go : (b : Bool) → sum_by (λ (l : Load). l.size) (filter (λ (l : Load). executes l.perm) (map load_of ps)) ≤ sum_by (λ (s : Segment). s.memsz) (map (λ (p : Placed). p.segment) ps)
        → sum_by (λ (l : Load). l.size) (if b then load_of p ∷ filter (λ (l : Load). executes l.perm) (map load_of ps) else filter (λ (l : Load). executes l.perm) (map load_of ps)) ≤ sum_by (λ (s : Segment). s.memsz) (p.segment ∷ map (λ (p : Placed). p.segment) ps)
    go true few =
        let one = sum_by-cons (λ (l : Load). l.size) (load_of p) (filter (λ (l : Load). executes l.perm) (map load_of ps)) in
        let all = sum_by-cons (λ (s : Segment). s.memsz) p.segment (map (λ (p : Placed). p.segment) ps) in
        omega (arith, one, all, few)
    go false few =
        let all = sum_by-cons (λ (s : Segment). s.memsz) p.segment (map (λ (p : Placed). p.segment) ps) in
        omega (arith, all, few)

pub executable_small : (e : ElfFile) → IsRead e → executable_size e ≤ 268435456
executable_small e is =
    let t = (none_holds (load_conditions (file_header e.bytes).entry (loads e.bytes)) (loads_faultless e.bytes is.accepted)).0 in
    let small : sum_by (λ (s : Segment). s.memsz) (loads e.bytes) ≤ 268435456 = grind (arith, nat_tests, t) in
    let few = executable_few (filter is_load_header (placed e.bytes)) in
    let same = ap executable_size is.read in
    let all = ap (sum_by (λ (s : Segment). s.memsz)) (loads_placed e.bytes) in
    omega (arith, small, few, same, all)
