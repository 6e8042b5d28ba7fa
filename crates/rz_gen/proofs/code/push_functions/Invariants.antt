use Rattle.std.proofs.Common.{◌≡◌, ◌<◌, ◌^◌, ◌++◌}
use Rattle.rz_gen.specs.Sequence.{number_at}
use Rattle.rz_gen.specs.Code.{each_below, function}
use Rattle.rz_gen.proofs.code.push_functions.Given as goal

abbrev pub invariant-loop-j : goal.invariant-loop-j
invariant-loop-j l = (l.out.items ≡ l.initial.out.items ++ each_below function l._j) × (l.x ≡ number_at l._j) × (l.x < 2 ^ 31)
