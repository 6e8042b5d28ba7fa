use Rattle.std.proofs.Common.{List, ℕ, length, sym, subst, ap, ◌∙◌}
use Rattle.std.specs.List.{AllByRecursion}
use Rattle.rz_elf.specs.declared.elf.Load.{Load}
use Rattle.rz_elf.specs.Loaded.{ElfFile, IsLoad}
use Rattle.rz_elf.specs.Laws.Loads.{loadable, load_at}
use Rattle.rz_machine.specs.Stub.{illegal_stub}
use Rattle.rz_machine.proofs.StubLaws.{stub-in_load, stub-no_load}
use Rattle.rz_machine.proofs.stub.illegal_stub.Goals as goal

pub stub_in-requires : goal.stub_in-requires
stub_in-requires c =
    let found = c.in_ok-get-in-Illegal.ensures.lookup in
    let one = c.in_ok-get-in-Illegal.field-0.now in
    let file = c.as_slice.result.now in
    let is = (loadable _ c.elf.invariant).loads in
    let all = subst (λ (l : List Load). AllByRecursion (IsLoad (length file)) l) (sym c.as_slice-in-Illegal.ensures) (subst (λ (x : List ℕ). AllByRecursion (IsLoad (length x)) c.elf.inside.loads) (sym c.as_slice.ensures.value) is) in
    subst (IsLoad (length file)) (sym (found.3.1 one)) (load_at (IsLoad (length file)) c.as_slice-in-Illegal.result.now _ one all found.3.0)

pub returns-in_ok-get-in-Illegal : goal.returns-in_ok-get-in-Illegal
returns-in_ok-get-in-Illegal c =
    let found = c.in_ok-get-in-Illegal.ensures.lookup in
    let one = c.in_ok-get-in-Illegal.field-0.now in
    let elf = c.args.elf.now in
    c.stub_in.ensures
    ∙ stub-in_load elf c.in-Illegal.at c.as_slice.result.now c.as_slice-in-Illegal.result.now one (c.as_slice.ensures.value ∙ ap (λ (e : ElfFile). e.bytes) c.elf.view_is) (c.as_slice-in-Illegal.ensures ∙ ap (λ (e : ElfFile). e.loads) c.elf.view_is) found.3.0 (found.3.1 one)
    ∙ ap (illegal_stub elf) (sym c.in-Illegal.is)

pub returns-in_err-get-in-Illegal : goal.returns-in_err-get-in-Illegal
returns-in_err-get-in-Illegal c =
    let past = c.in_err-get-in-Illegal.ensures.lookup in
    let elf = c.args.elf.now in
    c.from_residual.ensures
    ∙ stub-no_load elf c.in-Illegal.at c.as_slice-in-Illegal.result.now (c.as_slice-in-Illegal.ensures ∙ ap (λ (e : ElfFile). e.loads) c.elf.view_is) past.3
    ∙ ap (illegal_stub elf) (sym c.in-Illegal.is)
