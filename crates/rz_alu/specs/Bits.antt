-- One bit of a number of a width (Intel SDM, volume 2, "BT", "BTC", "BTR", "BTS").
use Rattle.std.specs.Prelude.{ℕ, ◌+◌, ◌-◌, ◌%◌, ◌^◌, Bool, true, false, not}
use Rattle.rz_num.specs.declared.width.Width.{Width}
use Rattle.rz_num.specs.Width.{bits, low_bits}
use Rattle.rz_flags.specs.declared.Flags.{Flags}
use Rattle.rz_flags.specs.declared.BitOp.{BitOp}
use Rattle.rz_flags.specs.declared.BitOp.TheVariants.{Test, Set, Reset, Complement}
use Rattle.rz_flags.specs.Word.{is_set, bit_of}
use Rattle.rz_alu.specs.Answer.{Answer}

-- a bit after an operation
abbrev pub bit_after : BitOp → Bool → Bool
bit_after Test on = on
bit_after Set on = true
bit_after Reset on = false
bit_after Complement on = not on

-- a number with the bit at a place set or cleared
abbrev pub with_bit : ℕ → ℕ → Bool → ℕ
with_bit a place on = a - bit_of (is_set a place) (2 ^ place) + bit_of on (2 ^ place)

-- CF is the bit, and the other flags are left, which is razor's own
abbrev pub bit_test_at : BitOp → ℕ → ℕ → Flags → Answer
bit_test_at op a place old =
    record { value = with_bit a place (bit_after op (is_set a place)); flags = record old { cf = is_set a place } }

-- of any operand and index: they are cut to the width and taken modulo its bits
abbrev pub bit_test : BitOp → Width → ℕ → ℕ → Flags → Answer
bit_test op w a index old = bit_test_at op (low_bits w a) (index % bits w) old
