use Rattle.std.proofs.Common.{true, refl, sym, ◌∙◌}
use Rattle.rz_exec.specs.Comparisons.{scas_effect, while_zero}
use Rattle.rz_exec.proofs.Iterations.{one_done, one_stops, one_ends, none_left}
use Rattle.rz_exec.proofs.comparisons.rep_scas.Goals as goal

pub returns-in-Err-clause-done : goal.returns-in-Err-clause-done
returns-in-Err-clause-done c =
    one_ends (while_zero c.args.rep (scas_effect c.args.w true)) c.loop-cpu.cpu.regs c.loop-cpu.cpu.flags c.args.mem.now _ _ c.loop-cpu-test.true c.in-Err.ensures.done refl ∙ c.loop-cpu.invariant.same

pub returns-then-not-goes_on-clause-done : goal.returns-then-not-goes_on-clause-done
returns-then-not-goes_on-clause-done c =
    one_stops (while_zero c.args.rep (scas_effect c.args.w true)) c.loop-cpu.cpu.regs c.loop-cpu.cpu.flags c.args.mem.now _ c.loop-cpu-test.true c.in_default.ensures.done refl (sym c.goes_on.ensures ∙ c.if-not-goes_on.true) ∙ c.loop-cpu.invariant.same

pub loop-cpu-preserved : goal.loop-cpu-preserved
loop-cpu-preserved c = record {
  same = one_done (while_zero c.args.rep (scas_effect c.args.w true)) c.loop-cpu.cpu.regs c.loop-cpu.cpu.flags c.args.mem.now _ c.loop-cpu-test.true (c.in_default.ensures.count refl) c.in_default.ensures.done refl (sym c.goes_on.ensures ∙ c.if-not-goes_on.false) ∙ c.loop-cpu.invariant.same;
  rip = c.in_default.ensures.rip ∙ c.loop-cpu.invariant.rip;
}

pub returns-clause-done : goal.returns-clause-done
returns-clause-done c =
    none_left (while_zero c.args.rep (scas_effect c.args.w true)) c.loop-cpu.cpu.regs c.loop-cpu.cpu.flags c.args.mem.now c.loop-cpu-test.false ∙ c.loop-cpu.invariant.same
