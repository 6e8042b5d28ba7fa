-- Arithmetic and logic with one operand at a width (Intel SDM, volume 2, "INC", "DEC", "NOT", "NEG").
use Rattle.std.specs.Prelude.{ℕ, ◌-◌, false}
use Rattle.rz_num.specs.declared.width.Width.{Width}
use Rattle.rz_num.specs.Width.{size, low_bits}
use Rattle.rz_flags.specs.declared.Flags.{Flags}
use Rattle.rz_flags.specs.declared.UnaryOp.{UnaryOp}
use Rattle.rz_flags.specs.declared.UnaryOp.TheVariants.{Inc, Dec, Not, Neg}
use Rattle.rz_alu.specs.Answer.{Answer}
use Rattle.rz_alu.specs.Arith.{addition, subtraction}

-- an answer with CF as it was
abbrev pub with_old_carry : Flags → Answer → Answer
with_old_carry old x = record x { flags = record x.flags { cf = old.cf } }

-- of an operand below the size of the width: INC adds 1 and DEC subtracts it, NOT inverts each bit, NEG subtracts from 0
abbrev pub unary_of : UnaryOp → Width → ℕ → Flags → Answer
unary_of Inc w a old = with_old_carry old (addition w a 1 false old)
unary_of Dec w a old = with_old_carry old (subtraction w a 1 false old)
unary_of Not w a old = record { value = size w - 1 - a; flags = old }
unary_of Neg w a old = subtraction w 0 a false old

-- of any operand: it is cut to the width
abbrev pub unary : UnaryOp → Width → ℕ → Flags → Answer
unary op w a old = unary_of op w (low_bits w a) old
