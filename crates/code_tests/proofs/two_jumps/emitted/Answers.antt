use Rattle.code_tests.proofs.TwoJumps.{two_laid}
use Rattle.code_tests.proofs.two_jumps.emitted.Goals as goal

pub emit-requires-clause-laid : goal.emit-requires-clause-laid
emit-requires-clause-laid g c = rw (c.in_ok-frags.ensures, c.in_ok-laid.ensures) (two_laid g.T.InsnTable.rows c.emits.ensures.emits)
