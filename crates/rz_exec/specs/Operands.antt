-- Operands: where they stand, what they hold, and how a value is put there (Intel SDM, volume 1, section 3.7,
-- "Operand Addressing").
use Rattle.std.specs.Prelude.{ℕ, ◌+◌, ◌*◌, List, get_or, Option, Some, None, Ok}
use Rattle.std.specs.Int.{cast_unsigned, w64}
use Rattle.rz_num.specs.declared.width.Width.{Width}
use Rattle.rz_flags.specs.declared.Flags.{Flags}
use Rattle.rz_image.specs.Memory.{wrap}
use Rattle.rz_isa.specs.declared.instruction.Mem.{Mem}
use Rattle.rz_isa.specs.declared.instruction.Place.{Place}
use Rattle.rz_isa.specs.declared.instruction.Place.TheVariants as places
use Rattle.rz_isa.specs.declared.instruction.Operand.{Operand}
use Rattle.rz_isa.specs.declared.instruction.Operand.TheVariants as operands
use Rattle.rz_exec.specs.Form.{WordAt, NewValues, Effect}
use Rattle.rz_exec.specs.Registers.{get_named, put_named}

-- ---- addresses: the sum of base, index times scale and displacement, modulo 2^64 (section 3.7.5)

abbrev pub reg_or_zero : List ℕ → Option ℕ → ℕ
reg_or_zero regs None = 0
reg_or_zero regs (Some n) = get_or regs n 0

abbrev pub address : List ℕ → Mem → ℕ
address regs m = wrap (reg_or_zero regs m.base + reg_or_zero regs m.index * m.scale + cast_unsigned w64 m.disp)

-- a register has none
abbrev pub address_of : List ℕ → Place → Option ℕ
address_of regs (places.Reg r) = None
address_of regs (places.Mem m) = Some (address regs m)
address_of regs (places.At a) = Some a

-- an immediate has none, either
abbrev pub operand_address : List ℕ → Operand → Option ℕ
operand_address regs (operands.Place p) = address_of regs p
operand_address regs (operands.Imm i) = None

-- ---- words of memory

abbrev pub word_at : Width → Option ℕ → Option WordAt
word_at w None = None
word_at w (Some a) = Some (record { at = a; width = w })

abbrev pub word_of : Width → List ℕ → Place → Option WordAt
word_of w regs p = word_at w (address_of regs p)

abbrev pub operand_word : Width → List ℕ → Operand → Option WordAt
operand_word w regs x = word_at w (operand_address regs x)

-- ---- values, where the word that was read stands for memory

abbrev pub value_of : Width → List ℕ → Place → ℕ → ℕ
value_of w regs (places.Reg r) word = get_named w regs r
value_of w regs (places.Mem m) word = word
value_of w regs (places.At a) word = word

abbrev pub operand_value : Width → List ℕ → Operand → ℕ → ℕ
operand_value w regs (operands.Place p) word = value_of w regs p word
operand_value w regs (operands.Imm i) word = i

-- registers after a value is put into a place; memory is written apart
abbrev pub put : Width → List ℕ → Place → ℕ → List ℕ
put w regs (places.Reg r) v = put_named w regs r v
put w regs (places.Mem m) v = regs
put w regs (places.At a) v = regs

-- ---- effects by the words that they read and write

abbrev pub new_regs : List ℕ → Flags → NewValues
new_regs regs flags = record { regs = regs; flags = flags; word = 0 }

-- registers and flags alone
abbrev pub to_regs : List ℕ → Flags → Effect
to_regs regs flags = record { accesses = record { first = None; second = None; write = None }; gives = λ a b. Ok (new_regs regs flags) }

-- registers and flags by a word
abbrev pub from_word : Option WordAt → (ℕ → NewValues) → Effect
from_word word new = record { accesses = record { first = word; second = None; write = None }; gives = λ a b. Ok (new a) }

-- a word written by the one that stood there
abbrev pub on_word : Option WordAt → (ℕ → NewValues) → Effect
on_word word new = record { accesses = record { first = word; second = None; write = word }; gives = λ a b. Ok (new a) }

-- a value put into a place
abbrev pub new_value : Width → Place → List ℕ → ℕ → Flags → NewValues
new_value w dst regs v flags = record { regs = put w regs dst v; flags = flags; word = v }
