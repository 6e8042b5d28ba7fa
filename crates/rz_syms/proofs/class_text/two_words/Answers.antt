use Rattle.std.proofs.Common.{rules, ap}
use Rattle.rz_text.specs.Laws.Words.{three_words}
use Rattle.rz_text.specs.Lines.{words}
use Rattle.rz_syms.specs.Resolved.{behind_first}
use Rattle.rz_syms.proofs.class_text.two_words.Goals as goal

pub returns-clause-two : goal.returns-clause-two
returns-clause-two c =
    ap behind_first (three_words (words c.args.line.now) c.in_ok-word.field-0.now c.in_ok-word-2.field-0.now c.in_ok-word-3.field-0.now (search rules) (search rules) (search rules) (search rules))
