use Rattle.std.proofs.Common.{◌≡◌, List, ℕ, Result, Ok, Err, IfOk, length, map, ap, ap₂, sym, subst, ◌∙◌}
use Rattle.std.specs.List.{AllByRecursion}
use Rattle.rz_image.specs.Memory.{Ascend}
use Rattle.rz_elf.specs.declared.elf.Load.{Load}
use Rattle.rz_elf.specs.Loaded.{ElfFile, IsLoad, loaded, loaded_region}
use Rattle.rz_elf.specs.Laws.Loads.{loadable, ascend_loads}
use Rattle.rz_machine.proofs.start.load_regions.Goals as goal

pub regions_of-requires : goal.regions_of-requires
regions_of-requires c =
    let is = (loadable _ c.elf.invariant).loads in
    subst (λ (l : List Load). AllByRecursion (IsLoad (length c.as_slice.result.now)) l) (sym c.as_slice-2.ensures) (subst (λ (x : List ℕ). AllByRecursion (IsLoad (length x)) c.elf.inside.loads) (sym c.as_slice.ensures.value) is)

on_ok : {A E : Type 0} (P Q : A → Type 0) (r : Result A E) → ((a : A) → P a → Q a) → IfOk r P → IfOk r Q
on_ok P Q (Ok a) f h = f a h
on_ok P Q (Err e) f h = tt

pub returns-clause-regions : goal.returns-clause-regions
returns-clause-regions c =
    let same : map (loaded_region c.as_slice.result.now) c.as_slice-2.result.now ≡ (loaded c.args.elf.now).loads = ap₂ (λ b l. map (loaded_region b) l) c.as_slice.ensures.value c.as_slice-2.ensures ∙ ap (λ (e : ElfFile). (loaded e).loads) c.elf.view_is in
    on_ok _ _ c.regions_of.result (λ regions e. e ∙ same) c.regions_of.ensures

pub returns-clause-ascend : goal.returns-clause-ascend
returns-clause-ascend c =
    let same = ap₂ (λ b l. map (loaded_region b) l) c.as_slice.ensures.value c.as_slice-2.ensures in
    on_ok _ _ c.regions_of.result (λ regions e. subst Ascend (sym (e ∙ same)) (ascend_loads _ c.elf.invariant)) c.regions_of.ensures
