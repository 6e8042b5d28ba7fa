use Rattle.std.proofs.Common.{arith}
use Rattle.std.proofs.lemmas.Grind.{common_steps}
use Rattle.rz_text.specs.Laws.Lines.{lines-end, lines-last}
use Rattle.rz_text.proofs.line.first_line.Goals as goal

pub returns-in-Some-clause-lines : goal.returns-in-Some-clause-lines
returns-in-Some-clause-lines c = grind (arith, common_steps, lines-end)

pub returns-in-None-clause-lines : goal.returns-in-None-clause-lines
returns-in-None-clause-lines c = grind (arith, common_steps, lines-last)
