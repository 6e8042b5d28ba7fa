use Rattle.std.proofs.Common.{◌≡◌, true, get_or}
use Rattle.rz_exec.specs.Comparisons.{scas_effect, while_zero}
use Rattle.rz_exec.specs.Calls.Carried.{repeated_by}
use Rattle.rz_exec.proofs.comparisons.rep_scas.Given as goal

abbrev pub invariant-loop-cpu : goal.invariant-loop-cpu
invariant-loop-cpu l = record {
  same : repeated_by (while_zero l.rep (scas_effect l.w true)) l.cpu l.mem ≡ repeated_by (while_zero l.rep (scas_effect l.w true)) l.initial.cpu l.mem;
  rip : l.cpu.rip ≡ l.initial.cpu.rip;
}

abbrev pub decreases-loop-cpu : goal.decreases-loop-cpu
decreases-loop-cpu l = get_or l.cpu.regs 1 0
