use Rattle.std.proofs.Common.{◌<◌, get_or, refl, sym, ◌∙◌, subst}
use Rattle.rz_exec.specs.declared.state.Cpu.{Cpu}
use Rattle.rz_exec.specs.Strings.{each_time}
use Rattle.rz_exec.proofs.Iterations.{one_done, one_ends}
use Rattle.rz_exec.proofs.repeats.movs_on.Goals as goal

pub returns-in-Err-clause-err : goal.returns-in-Err-clause-err
returns-in-Err-clause-err c =
    let before = c.if-movs_many.ensures in
    let some = subst (λ (x : Cpu). 0 < get_or x.regs 1 0) (sym (before.unchanged refl)) c.requires in
    one_ends (each_time _) c.movs_many.new.cpu.regs c.movs_many.new.cpu.flags c.movs_many.new.mem _ _ some c.in-Err.ensures.done refl ∙ before.same

pub returns-clause-ok : goal.returns-clause-ok
returns-clause-ok c =
    let before = c.if-movs_many.ensures in
    let some = subst (λ (x : Cpu). 0 < get_or x.regs 1 0) (sym (before.unchanged refl)) c.requires in
    one_done (each_time _) c.movs_many.new.cpu.regs c.movs_many.new.cpu.flags c.movs_many.new.mem _ some (c.in_default.ensures.count refl) c.in_default.ensures.done refl refl ∙ before.same
