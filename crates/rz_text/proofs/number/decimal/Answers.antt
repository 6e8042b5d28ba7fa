use Rattle.std.proofs.Common.{sym}
use Rattle.rz_text.specs.Laws.Numbers.{decimal_digits}
use Rattle.rz_text.proofs.number.decimal.Goals as goal

pub value-requires-clause-digits : goal.value-requires-clause-digits
value-requires-clause-digits c = decimal_digits _ (sym c.in-None.ensures)
