use Rattle.rz_flags.specs.Laws.Word.{flags_in-flags_word}
use Rattle.rz_flags.proofs.to_word.Goals as goal

pub returns-clause-again : goal.returns-clause-again
returns-clause-again c =
    rw (c.bit.ensures, c.bit-2.ensures, c.bit-3.ensures, c.bit-4.ensures, c.bit-5.ensures, c.bit-6.ensures, c.bit-7.ensures)
    (flags_in-flags_word c.args.flags)
