use Rattle.std.proofs.Common.{rules}
use Rattle.rz_classes.proofs.LineLaws.{four_words}
use Rattle.rz_classes.proofs.line.four_words.Goals as goal

pub returns-clause-four : goal.returns-clause-four
returns-clause-four c = four_words _ _ _ _ _ (search rules) (search rules) (search rules) (search rules) (search rules)
