use Rattle.std.proofs.Common.{sym, ap, rules, ◌∙◌}
use Rattle.rz_text.specs.Lines.{words}
use Rattle.rz_text.specs.Laws.Words.{no_words, one_word, two_words, three_words}
use Rattle.rz_input.specs.Grammar.{entry_of}
use Rattle.rz_input.proofs.LineLaws.{entry_of-more}
use Rattle.rz_input.proofs.line.entry_of.Goals as goal

pub returns-in_default : goal.returns-in_default
unfolding entry_of
returns-in_default c = sym (ap entry_of (no_words (words c.args.line.now) (search rules)))

pub returns-in_default-word : goal.returns-in_default-word
unfolding entry_of
returns-in_default-word c =
    let one = ap entry_of (one_word (words c.args.line.now) c.in-Some.key.now (search rules) (search rules)) in
    rw one c.entry_of_one.ensures

pub returns-in_default-word-2 : goal.returns-in_default-word-2
unfolding entry_of
returns-in_default-word-2 c =
    let two = ap entry_of (two_words (words c.args.line.now) c.in-Some.key.now c.in-Some-word.value.now (search rules) (search rules) (search rules)) in
    rw two c.entry_of_two.ensures

pub returns-in-None : goal.returns-in-None
unfolding entry_of
returns-in-None c =
    let three = ap entry_of (three_words (words c.args.line.now) c.in-Some.key.now c.in-Some-word.value.now c.in-Some-word-2.number.now (search rules) (search rules) (search rules) (search rules)) in
    c.entry_of_three.ensures ∙ sym three

pub returns-in-Some-word-3 : goal.returns-in-Some-word-3
returns-in-Some-word-3 c = sym (entry_of-more (words c.args.line.now) c.in-Some-word-3.field-0.now (search rules))
