use Rattle.std.proofs.Common.{◌≡◌, List, ℕ, length, map, ap, ap₂, sym, subst, ◌∙◌}
use Rattle.std.specs.List.{AllByRecursion}
use Rattle.rz_image.specs.Memory.{fetch}
use Rattle.rz_elf.specs.declared.elf.Load.{Load}
use Rattle.rz_elf.specs.Elf.{Image, image_of}
use Rattle.rz_elf.specs.Loaded.{ElfFile, IsLoad, loaded_region}
use Rattle.rz_elf.specs.Laws.Loads.{loadable, loaded_image}
use Rattle.rz_elf.proofs.code.code_at.Goals as goal

pub fetch-requires : goal.fetch-requires
fetch-requires c =
    let is = (loadable _ c.elf.invariant).loads in
    subst (λ (l : List Load). AllByRecursion (IsLoad (length c.as_slice.result.now)) l) (sym c.as_slice-2.ensures) (subst (λ (x : List ℕ). AllByRecursion (IsLoad (length x)) c.elf.inside.loads) (sym c.as_slice.ensures.value) is)

pub returns-clause-bytes : goal.returns-clause-bytes
returns-clause-bytes c =
    let x = c.elf.inside.bytes in
    let regions : map (loaded_region c.as_slice.result.now) c.as_slice-2.result.now ≡ (image_of c.args.elf.now.bytes).loads = ap₂ (λ b l. map (loaded_region b) l) c.as_slice.ensures.value c.as_slice-2.ensures ∙ ap (λ (y : Image). y.loads) (loaded_image _ c.elf.invariant) ∙ ap (λ (e : ElfFile). (image_of e.bytes).loads) c.elf.view_is in
    c.fetch.ensures.bytes ∙ ap (λ m. fetch m c.args.at 15) regions
