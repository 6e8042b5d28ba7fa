use Rattle.std.proofs.Common.{◌≡◌, ◌++◌}
use Rattle.rz_gen.specs.Code.{each_below, table_word}
use Rattle.rz_gen.proofs.code.push_table.Given as goal

abbrev pub invariant-loop-j : goal.invariant-loop-j
invariant-loop-j l = l.out.items ≡ l.initial.out.items ++ each_below (table_word l.n) l.j
