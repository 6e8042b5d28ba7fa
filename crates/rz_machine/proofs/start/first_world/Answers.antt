use Rattle.std.proofs.Common.{◌≡◌, length, ap, sym, subst, ◌∙◌, arith}
use Rattle.std.proofs.lemmas.List.{length-map}
use Rattle.rz_elf.specs.Loaded.{ElfFile, IsRead, loaded, loaded_region}
use Rattle.rz_sys.specs.declared.world.World.{World}
use Rattle.rz_machine.proofs.StartRegions.{few_loads}
use Rattle.rz_machine.proofs.start.first_world.Goals as goal

pub returns : goal.returns
returns c =
    let elf = c.args.elf.now in
    let stdin = c.from_bytes.ensures ∙ (c.in_ok-from_slice.ensures ∙ c.as_slice-2.ensures.value) in
    let replies = c.in_ok-copy.ensures in
    let events = c.new.ensures in
    let top : c.elf.inside.first_break ≡ elf.first_break = ap (λ (e : ElfFile). e.first_break) c.elf.view_is in
    let number : length c.as_slice.result.now ≡ length (loaded elf).loads =
    ap length c.as_slice.ensures ∙ ap (λ (e : ElfFile). length e.loads) c.elf.view_is ∙ sym (length-map elf.loads (loaded_region elf.bytes)) in
    λ i. let w : World = record { stdin = stdin i; replies = replies i; events = events i; first_break = top i; brk = top i; heap = number i } in w

pub overflow_cast-heap : goal.overflow_cast-heap
overflow_cast-heap c =
    let elf = c.args.elf.now in
    let few = few_loads elf (subst IsRead c.elf.view_is c.elf.invariant) in
    let number : length c.as_slice.result.now ≡ length (loaded elf).loads =
    ap length c.as_slice.ensures ∙ ap (λ (e : ElfFile). length e.loads) c.elf.view_is ∙ sym (length-map elf.loads (loaded_region elf.bytes)) in
    omega (arith, few, number)
