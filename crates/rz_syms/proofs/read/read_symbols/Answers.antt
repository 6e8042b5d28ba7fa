use Rattle.std.proofs.Common.{◌≤◌, ◌∙◌, length, List, ℕ, ap, sym, subst}
use Rattle.rz_elf.specs.Loaded.{ElfFile}
use Rattle.rz_elf.specs.Laws.Reading.{whole_header}
use Rattle.rz_syms.specs.Fault.{fault_of}
use Rattle.rz_syms.specs.Calls.Found.{found_table}
use Rattle.rz_syms.proofs.FaultLaws.{fault_found, no_fault, no_functions}
use Rattle.rz_syms.proofs.read.read_symbols.Goals as goal

pub find_table-requires : goal.find_table-requires
find_table-requires c = subst (λ (y : List ℕ). 64 ≤ length y) (sym c.as_slice.ensures.value) (whole_header c.elf.inside.bytes c.elf.invariant.accepted)

pub returns-in-Ok-None-clause-sound : goal.returns-in-Ok-None-clause-sound
returns-in-Ok-None-clause-sound c =
    let same = c.as_slice.ensures.value ∙ ap (λ (e : ElfFile). e.bytes) c.elf.view_is in
    sym (ap fault_of same) ∙ no_fault c.as_slice.result.now c.in-Ok-None.ensures.sound (sym c.in-Ok-None.ensures.value ∙ c.in-Ok-None.field-0-is)

pub returns-in-Ok-None-clause-value : goal.returns-in-Ok-None-clause-value
returns-in-Ok-None-clause-value c =
    let same = c.as_slice.ensures.value ∙ ap (λ (e : ElfFile). e.bytes) c.elf.view_is in
    c.none.ensures ∙ sym (no_functions c.args.elf.now (sym (ap found_table same) ∙ sym c.in-Ok-None.ensures.value ∙ c.in-Ok-None.field-0-is))

pub returns-in-Err-clause-fault : goal.returns-in-Err-clause-fault
returns-in-Err-clause-fault c =
    let same = c.as_slice.ensures.value ∙ ap (λ (e : ElfFile). e.bytes) c.elf.view_is in
    sym (ap fault_of same) ∙ fault_found c.as_slice.result.now c.in-Err.fault c.in-Err.ensures.fault
