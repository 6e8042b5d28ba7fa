use Rattle.std.proofs.Common.{sym}
use Rattle.rz_text.specs.Lines.{words}
use Rattle.rz_classes.proofs.LineLaws.{function_of-four, function_of-not_four}
use Rattle.rz_classes.proofs.line.entry_of.Goals as goal

pub returns-in-Some-clause-value : goal.returns-in-Some-clause-value
returns-in-Some-clause-value c =
    let four = function_of-four (words c.args.line.now) c.in-Some.key.now c.in-Some.lo.now c.in-Some.hi.now c.in-Some.class.now c.in-Some.ensures.four in
    rw four c.entry_of_words.ensures.value

pub returns-in-None-clause-value : goal.returns-in-None-clause-value
returns-in-None-clause-value c = sym (function_of-not_four (words c.args.line.now) c.in-None.ensures.other)
