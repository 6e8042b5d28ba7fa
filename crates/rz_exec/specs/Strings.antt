-- Strings, and their repeats (Intel SDM, volume 1, section 7.3.9, "String Operations"; volume 2, "MOVS/MOVSB/MOVSW/MOVSD/MOVSQ",
-- "STOS/STOSB/STOSW/STOSD/STOSQ", "REP/REPE/REPZ/REPNE/REPNZ").
use Rattle.std.specs.Prelude.{ℕ, ◌+◌, ◌-◌, ◌^◌, Bool, true, false, if◌then◌else◌, List, get_or, Some, None, Ok}
use Rattle.rz_num.specs.declared.width.Width.{Width}
use Rattle.rz_num.specs.declared.width.Width.TheVariants.{W64}
use Rattle.rz_flags.specs.declared.Flags.{Flags}
use Rattle.rz_image.specs.Word.{byte_count}
use Rattle.rz_exec.specs.Form.{Effect, Repeat, PlainEffect, Once, Repeats}
use Rattle.rz_exec.specs.Registers.{get_reg, put_reg}
use Rattle.rz_exec.specs.Operands.{word_at}

-- registers 1, 6 and 7 are RCX, RSI and RDI

-- a pointer register moved by the width in bytes, down where DF is set
abbrev pub moved : Width → Flags → ℕ → List ℕ → List ℕ
moved w flags n regs = put_reg W64 regs n (get_or regs n 0 + (if flags.df then 2 ^ 64 - byte_count w else byte_count w))

-- an iteration of a repeat counts RCX down
abbrev pub counted : Bool → List ℕ → List ℕ
counted true regs = put_reg W64 regs 1 (get_or regs 1 0 - 1)
counted false regs = regs

-- the element at RSI is stored at RDI
abbrev pub movs_effect : Width → Bool → List ℕ → Flags → Effect
movs_effect w rep regs flags = record {
  accesses = record { first = word_at w (Some (get_or regs 6 0)); second = None; write = word_at w (Some (get_or regs 7 0)) };
  gives = λ a b. Ok (record { regs = counted rep (moved w flags 7 (moved w flags 6 regs)); flags = flags; word = a });
}

-- the accumulator is stored at RDI
abbrev pub stos_effect : Width → Bool → List ℕ → Flags → Effect
stos_effect w rep regs flags = record {
  accesses = record { first = None; second = None; write = word_at w (Some (get_or regs 7 0)) };
  gives = λ a b. Ok (record { regs = counted rep (moved w flags 7 regs); flags = flags; word = get_reg w regs 0 });
}

-- an effect repeated, which no flag ends (REP)
abbrev pub each_time : (List ℕ → Flags → Effect) → Repeat
each_time each = record { each = each; follows = λ f. true }

-- one element, or as many as RCX says
abbrev pub elements : (Bool → List ℕ → Flags → Effect) → Bool → List ℕ → Flags → PlainEffect
elements each false regs flags = Once (each false regs flags)
elements each true regs flags = Repeats (each_time (each true))
