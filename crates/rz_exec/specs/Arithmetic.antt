-- Arithmetic and logic with two operands and with one
-- (Intel SDM, volume 2, "ADD", "CMP", "TEST", "INC", "DEC", "NOT", "NEG" and the others).
use Rattle.std.specs.Prelude.{ℕ, Bool, true, false, if◌then◌else◌, List, None, Ok}
use Rattle.rz_num.specs.declared.width.Width.{Width}
use Rattle.rz_flags.specs.declared.Flags.{Flags}
use Rattle.rz_flags.specs.declared.ArithOp.{ArithOp}
use Rattle.rz_flags.specs.declared.ArithOp.TheVariants.{And, Cmp}
use Rattle.rz_flags.specs.declared.UnaryOp.{UnaryOp}
use Rattle.rz_alu.specs.Answer.{Answer}
use Rattle.rz_alu.specs.Arith.{arith}
use Rattle.rz_alu.specs.Unary.{unary}
use Rattle.rz_isa.specs.declared.instruction.Place.{Place}
use Rattle.rz_isa.specs.declared.instruction.Operand.{Operand}
use Rattle.rz_exec.specs.Form.{NewValues, Effect}
use Rattle.rz_exec.specs.Operands.{word_of, operand_word, value_of, operand_value, put, on_word}

-- CMP alone writes nothing
abbrev pub is_written : ArithOp → Bool
is_written Cmp = false
is_written op = true

-- an answer, put into a place where it is written
abbrev pub new_answer : Bool → Width → Place → List ℕ → Answer → NewValues
new_answer written w dst regs x = record { regs = if written then put w regs dst x.value else regs; flags = x.flags; word = x.value }

abbrev pub binary_effect : Bool → ArithOp → Width → Place → Operand → List ℕ → Flags → Effect
binary_effect written op w dst src regs flags = record {
  accesses = record { first = word_of w regs dst; second = operand_word w regs src; write = if written then word_of w regs dst else None };
  gives = λ a b. Ok (new_answer written w dst regs (arith op w (value_of w regs dst a) (operand_value w regs src b) flags));
}

abbrev pub arith_effect : ArithOp → Width → Place → Operand → List ℕ → Flags → Effect
arith_effect op w dst src regs flags = binary_effect (is_written op) op w dst src regs flags

-- TEST is AND, and writes nothing
abbrev pub test_effect : Width → Place → Operand → List ℕ → Flags → Effect
test_effect w dst src regs flags = binary_effect false And w dst src regs flags

abbrev pub unary_effect : UnaryOp → Width → Place → List ℕ → Flags → Effect
unary_effect op w dst regs flags =
    on_word (word_of w regs dst) (λ a. new_answer true w dst regs (unary op w (value_of w regs dst a) flags))
