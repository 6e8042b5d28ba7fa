use Rattle.std.proofs.Common.{true, ◌∙◌}
use Rattle.rz_exec.specs.Strings.{movs_effect, each_time}
use Rattle.rz_exec.proofs.Iterations.{none_left}
use Rattle.rz_exec.proofs.repeats.rep_movs.Goals as goal

pub returns-clause-done : goal.returns-clause-done
returns-clause-done c =
    none_left (each_time (movs_effect c.args.w true)) c.loop-cpu.cpu.regs c.loop-cpu.cpu.flags c.loop-cpu.mem c.loop-cpu-test.false ∙ c.loop-cpu.invariant.same
