use Rattle.std.proofs.Common.{◌≡◌, true, get_or}
use Rattle.rz_exec.specs.Strings.{movs_effect}
use Rattle.rz_exec.specs.Calls.Carried.{Remains}
use Rattle.rz_exec.proofs.repeats.rep_movs.Given as goal

abbrev pub invariant-loop-cpu : goal.invariant-loop-cpu
invariant-loop-cpu l = record {
  same : Remains (movs_effect l.w true) l.initial.cpu l.initial.mem l.cpu l.mem;
  rip : l.cpu.rip ≡ l.initial.cpu.rip;
}

abbrev pub decreases-loop-cpu : goal.decreases-loop-cpu
decreases-loop-cpu l = get_or l.cpu.regs 1 0
