use Rattle.std.proofs.Common.{List, ℕ, length, sym, subst}
use Rattle.std.specs.List.{AllByRecursion}
use Rattle.rz_elf.specs.declared.elf.Load.{Load}
use Rattle.rz_elf.specs.Loaded.{IsLoad}
use Rattle.rz_elf.specs.Laws.Loads.{loadable, load_at}
use Rattle.rz_report.proofs.stubs.stub_count.Goals as goal

pub stubs_in-requires : goal.stubs_in-requires
stubs_in-requires c =
    let found = c.in-Some.ensures.lookup in
    let one = c.in-Some.load.now in
    let file = c.as_slice-in-Some.result.now in
    let is = (loadable _ c.elf.invariant).loads in
    let all = subst (λ (l : List Load). AllByRecursion (IsLoad (length file)) l) (sym c.as_slice.ensures) (subst (λ (x : List ℕ). AllByRecursion (IsLoad (length x)) c.elf.inside.loads) (sym c.as_slice-in-Some.ensures.value) is) in
    subst (IsLoad (length file)) (sym (found.3.1 one)) (load_at (IsLoad (length file)) c.as_slice.result.now _ one all found.3.0)
