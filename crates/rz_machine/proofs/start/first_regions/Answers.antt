use Rattle.std.proofs.Common.{refl, ap, ◌∙◌}
use Rattle.rz_elf.specs.Loaded.{ElfFile, loaded}
use Rattle.rz_machine.specs.Start.{heap_region}
use Rattle.rz_machine.proofs.StartRegions.{two_behind}
use Rattle.rz_machine.proofs.start.first_regions.Goals as goal

pub returns : goal.returns
returns c =
    let image = loaded c.args.elf.now in
    let heap = c.in_ok-heap.ensures ∙ ap (λ (e : ElfFile). heap_region e.first_break) c.elf.view_is in
    two_behind _ _ _ _ _ (heap_region image.first_break) c.args.stack image.loads c.in_ok-push.ensures.items c.in_ok-push-2.ensures.items c.in_ok-regions.ensures.regions heap refl
