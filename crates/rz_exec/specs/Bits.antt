-- Bit tests, scans and counts (Intel SDM, volume 2, "BT", "BTS", "BTR", "BTC", "BSF", "BSR", "TZCNT", "LZCNT", "POPCNT").
use Rattle.std.specs.Prelude.{ℕ, Bool, true, false, not, ◌==◌, if◌then◌else◌, List, get_or, None, Ok}
use Rattle.rz_num.specs.declared.width.Width.{Width}
use Rattle.rz_num.specs.Width.{low_bits}
use Rattle.rz_flags.specs.declared.Flags.{Flags}
use Rattle.rz_flags.specs.declared.BitOp.{BitOp}
use Rattle.rz_flags.specs.declared.BitOp.TheVariants as bits
use Rattle.rz_flags.specs.declared.ScanOp.{ScanOp}
use Rattle.rz_flags.specs.declared.ScanOp.TheVariants as scans
use Rattle.rz_alu.specs.Answer.{Answer}
use Rattle.rz_alu.specs.Bits.{bit_test}
use Rattle.rz_alu.specs.Scans.{scan}
use Rattle.rz_isa.specs.declared.instruction.Place.{Place}
use Rattle.rz_isa.specs.declared.instruction.BitIndex.{BitIndex}
use Rattle.rz_isa.specs.declared.instruction.BitIndex.TheVariants as indexes
use Rattle.rz_exec.specs.Form.{NewValues, Effect}
use Rattle.rz_exec.specs.Registers.{get_reg, put_reg}
use Rattle.rz_exec.specs.Operands.{word_of, value_of, from_word}
use Rattle.rz_exec.specs.Arithmetic.{new_answer}

-- the place of a bit, not yet taken modulo the width
abbrev pub index_in : Width → List ℕ → BitIndex → ℕ
index_in w regs (indexes.Reg n) = get_reg w regs n
index_in w regs (indexes.Imm n) = n

-- BT alone writes nothing
abbrev pub is_changed : BitOp → Bool
is_changed bits.Test = false
is_changed op = true

abbrev pub bit_test_effect : BitOp → Width → Place → BitIndex → List ℕ → Flags → Effect
bit_test_effect op w dst index regs flags = record {
  accesses = record { first = word_of w regs dst; second = None; write = if is_changed op then word_of w regs dst else None };
  gives = λ a b. Ok (new_answer (is_changed op) w dst regs (bit_test op w (value_of w regs dst a) (index_in w regs index) flags));
}

-- BSF and BSR of 0 find nothing, and leave their whole register
abbrev pub is_found : ScanOp → ℕ → Bool
is_found scans.Bsf source = not (source == 0)
is_found scans.Bsr source = not (source == 0)
is_found op source = true

abbrev pub found : Bool → Width → ℕ → List ℕ → Answer → NewValues
found changes w dst regs x = record { regs = if changes then put_reg w regs dst x.value else regs; flags = x.flags; word = 0 }

abbrev pub scan_effect : ScanOp → Width → ℕ → Place → List ℕ → Flags → Effect
scan_effect op w dst src regs flags =
    from_word (word_of w regs src) (λ a. (let v = value_of w regs src a in found (is_found op (low_bits w v)) w dst regs (scan op w (get_or regs dst 0) v flags)))
