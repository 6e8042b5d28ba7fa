use Rattle.std.proofs.Common.{◌≡◌, ◌++◌}
use Rattle.rz_gen.specs.Code.{call, each_below}
use Rattle.rz_gen.proofs.code.push_calls.Given as goal

abbrev pub invariant-loop-j : goal.invariant-loop-j
invariant-loop-j l = l.out.items ≡ l.initial.out.items ++ each_below (call l.n) l.j
