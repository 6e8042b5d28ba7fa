use Rattle.std.proofs.Common.{ap, subst, ◌∙◌, refl}
use Rattle.rz_elf.specs.Loaded.{ElfFile, IsRead, loaded}
use Rattle.rz_machine.specs.Traced.{kept_in}
use Rattle.rz_trace.specs.Traced.{IsRefused}
use Rattle.rz_machine.specs.declared.machine.Machine.{Machine}
use Rattle.rz_core.specs.Decoding.{decode_profile}
use Rattle.rz_machine.specs.LeftCode.{LeavesCode, StaysInCode}
use Rattle.rz_machine.specs.Start.{start}
use Rattle.rz_core.proofs.MadeLaws.{added_is, plausible, traced_is}
use Rattle.rz_core.proofs.making.record_run.Goals as goal

pub returns-in-Ok-clause-added : goal.returns-in-Ok-clause-added
returns-in-Ok-clause-added c =
    let is : IsRead c.args.elf.now = subst IsRead c.elf.view_is c.elf.invariant in
    added_is c.args.elf.now is c.args.limit c.args.input.now (kept_in c.args.kept.now) (kept_in c.trace.new.rec) c.in-Ok.ensures.added

pub returns-in-Ok-clause-plausible : goal.returns-in-Ok-clause-plausible
returns-in-Ok-clause-plausible c =
    let is : IsRead c.args.elf.now = subst IsRead c.elf.view_is c.elf.invariant in
    plausible c.args.elf.now is c.as_slice.result.now c.args.limit (kept_in c.args.kept.now) (kept_in c.trace.new.rec)
    (c.as_slice.ensures.value ∙ ap (λ (e : ElfFile). e.bytes) c.elf.view_is) c.are_bytes.ensures.each c.requires.some c.in-Ok.ensures.plausible

pub returns-in-Ok-clause-stays : goal.returns-in-Ok-clause-stays
returns-in-Ok-clause-stays c =
    let is : IsRead c.args.elf.now = subst IsRead c.elf.view_is c.elf.invariant in
    subst (StaysInCode decode_profile c.args.limit) (traced_is c.args.elf.now is c.args.input.now) c.in-Ok.ensures.stays

pub returns-in-Err-LeftCode-clause-err : goal.returns-in-Err-LeftCode-clause-err
returns-in-Err-LeftCode-clause-err c =
    let is : IsRead c.args.elf.now = subst IsRead c.elf.view_is c.elf.invariant in
    let s : Machine = start (loaded c.args.elf.now) c.args.input.now in
    let refused = subst (IsRefused decode_profile c.args.limit s (kept_in c.args.kept.now) (kept_in c.trace.new.rec)) c.in-Err-LeftCode.field-0-is c.in-Err-LeftCode.ensures.refused in
    (refl, subst (λ (t : Machine). LeavesCode decode_profile c.args.limit t c.in-Err-LeftCode.address) (traced_is c.args.elf.now is c.args.input.now) refused.0)
