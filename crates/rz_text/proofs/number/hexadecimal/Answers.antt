use Rattle.std.proofs.Common.{sym, arith}
use Rattle.std.proofs.lemmas.Grind.{common_steps}
use Rattle.rz_text.specs.Laws.Numbers.{hexadecimal_digits}
use Rattle.rz_text.proofs.number.hexadecimal.Goals as goal

pub value-requires-clause-digits : goal.value-requires-clause-digits
value-requires-clause-digits c =
    let digits = hexadecimal_digits c.args.word.now (sym c.in-None.ensures) in
    grind (arith, common_steps, digits)
