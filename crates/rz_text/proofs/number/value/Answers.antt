use Rattle.std.proofs.Common.{arith}
use Rattle.std.proofs.lemmas.Str.{IsUtf8-from_ascii}
use Rattle.rz_text.specs.Laws.Numbers.{IsAscii-digits}
use Rattle.rz_text.proofs.number.value.Goals as goal

pub returns-in_default : goal.returns-in_default
returns-in_default c =
    λ _. c.in_default.ensures.cases.0 (IsUtf8-from_ascii _ (IsAscii-digits c.args.radix c.args.digits.now (omega arith) c.requires.digits))
