-- Exchanges of operands and of bytes (Intel SDM, volume 2, "XCHG", "CMPXCHG", "XADD", "BSWAP").
use Rattle.std.specs.Prelude.{ℕ, if◌then◌else◌, List, reverse, get_or}
use Rattle.byteorder.specs.Endian.{little_bytes, little_number}
use Rattle.rz_num.specs.declared.width.Width.{Width}
use Rattle.rz_flags.specs.declared.Flags.{Flags}
use Rattle.rz_flags.specs.declared.ArithOp.TheVariants.{Add, Cmp}
use Rattle.rz_alu.specs.Answer.{Answer}
use Rattle.rz_alu.specs.Arith.{arith}
use Rattle.rz_image.specs.Word.{byte_count}
use Rattle.rz_isa.specs.declared.instruction.Reg.{Reg}
use Rattle.rz_isa.specs.declared.instruction.Place.{Place}
use Rattle.rz_exec.specs.Form.{NewValues, Effect}
use Rattle.rz_exec.specs.Registers.{get_reg, get_named, put_reg, put_named}
use Rattle.rz_exec.specs.Operands.{word_of, value_of, put, to_regs, on_word}

-- the address and both values are those by the registers before
abbrev pub xchg_effect : Width → Place → Reg → List ℕ → Flags → Effect
xchg_effect w dst src regs flags =
    let v = get_named w regs src in
    on_word (word_of w regs dst) (λ a. record { regs = put_named w (put w regs dst v) src (value_of w regs dst a); flags = flags; word = v })

-- the accumulator is compared with the destination, which takes the source where they are equal; else the accumulator takes
-- the destination, and the destination its own value where it is memory. That a register which isn't taken is left whole is
-- razor's own
abbrev pub cmpxchg_values : Width → Place → Reg → List ℕ → Flags → ℕ → NewValues
cmpxchg_values w dst src regs flags old =
    let f = (arith Cmp w (get_reg w regs 0) old flags).flags in
    let v = get_named w regs src in
    if f.zf then record { regs = put w regs dst v; flags = f; word = v } else record { regs = put_reg w regs 0 old; flags = f; word = old }

abbrev pub cmpxchg_effect : Width → Place → Reg → List ℕ → Flags → Effect
cmpxchg_effect w dst src regs flags = on_word (word_of w regs dst) (λ a. cmpxchg_values w dst src regs flags (value_of w regs dst a))

-- the source takes the destination, and then the destination their sum
abbrev pub xadd_values : Width → Place → Reg → List ℕ → Flags → ℕ → NewValues
xadd_values w dst src regs flags old =
    let x = arith Add w old (get_named w regs src) flags in
    record { regs = put w (put_named w regs src old) dst x.value; flags = x.flags; word = x.value }

abbrev pub xadd_effect : Width → Place → Reg → List ℕ → Flags → Effect
xadd_effect w dst src regs flags = on_word (word_of w regs dst) (λ a. xadd_values w dst src regs flags (value_of w regs dst a))

-- the bytes of a number in the other order
abbrev pub swapped : Width → ℕ → ℕ
swapped w v = little_number (byte_count w) (reverse (little_bytes (byte_count w) v))

abbrev pub bswap_effect : Width → ℕ → List ℕ → Flags → Effect
bswap_effect w reg regs flags = to_regs (put_reg w regs reg (swapped w (get_or regs reg 0))) flags
