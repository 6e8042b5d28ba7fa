use Rattle.std.proofs.Common.{◌≡◌, ◌^◌, ◌<◌, List, length, map, sym, ap, ◌∙◌, subst, arith}
use Rattle.std.specs.Prelude.{sum_by}
use Rattle.rz_elf.specs.declared.elf.Load.{Load}
use Rattle.rz_elf.specs.declared.room.Extent.{Extent}
use Rattle.rz_elf.specs.AddedRange.{lowest, page_floor}
use Rattle.rz_elf.specs.Loaded.{ElfFile, IsRead, loaded_region}
use Rattle.rz_elfw.proofs.ExtentLaws.{memory_is, memory_small, floor_is}
use Rattle.rz_elfw.proofs.extent.extent_of.Goals as goal

-- the same loads
small_loads : (ls : List Load) (e : ElfFile) → ls ≡ e.loads → IsRead e → sum_by (λ (l : Load). l.size) ls < 2 ^ 64
small_loads ls e same is =
    let h = ap (sum_by (λ (l : Load). l.size)) same in
    let k = memory_small e is in
    omega (arith, h, k)

pub total_size-requires : goal.total_size-requires
total_size-requires c =
    small_loads c.as_slice-loads.result.now c.args.elf.now
    (c.as_slice-loads.ensures ∙ ap (λ (e : ElfFile). e.loads) c.elf.view_is)
    (subst IsRead c.elf.view_is c.elf.invariant)

pub returns : goal.returns
returns c =
    let e = c.args.elf.now in
    let is : IsRead e = subst IsRead c.elf.view_is c.elf.invariant in
    let loads : c.as_slice-loads.result.now ≡ e.loads = c.as_slice-loads.ensures ∙ ap (λ (f : ElfFile). f.loads) c.elf.view_is in
    let low = sym (c.lowest_load.ensures e.bytes) ∙ ap (λ (ls : List Load). lowest (map (loaded_region e.bytes) ls)) loads in
    let floor = c.page_floor.ensures ∙ ap page_floor low ∙ floor_is e is in
    let bytes = ap length (c.as_slice.ensures.value ∙ ap (λ (f : ElfFile). f.bytes) c.elf.view_is) in
    let memory = c.total_size.ensures ∙ ap (sum_by (λ (l : Load). l.size)) loads ∙ memory_is e is in
    let headers = c.kept_count.ensures.value in
    λ i. let x : Extent = record { floor = floor i; headers = headers i; bytes = bytes i; memory = memory i } in x
