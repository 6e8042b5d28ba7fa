-- Moves and bytes by a condition (Intel SDM, volume 2, "CMOVcc", "SETcc").
use Rattle.std.specs.Prelude.{ℕ, if◌then◌else◌, List, get_or, None, Ok}
use Rattle.rz_num.specs.declared.width.Width.{Width}
use Rattle.rz_num.specs.declared.width.Width.TheVariants.{W8}
use Rattle.rz_flags.specs.declared.Flags.{Flags}
use Rattle.rz_flags.specs.declared.Cond.{Cond}
use Rattle.rz_flags.specs.Cond.{holds}
use Rattle.rz_isa.specs.declared.instruction.Place.{Place}
use Rattle.rz_exec.specs.Form.{Effect}
use Rattle.rz_exec.specs.Registers.{put_reg}
use Rattle.rz_exec.specs.Operands.{word_of, value_of, new_regs, from_word, new_value}

-- the source is read whatever the condition; where it fails the destination is written with itself
abbrev pub cmov_effect : Cond → Width → ℕ → Place → List ℕ → Flags → Effect
cmov_effect cond w dst src regs flags =
    from_word (word_of w regs src) (λ a. new_regs (put_reg w regs dst (if holds cond flags then value_of w regs src a else get_or regs dst 0)) flags)

abbrev pub set_effect : Cond → Place → List ℕ → Flags → Effect
set_effect cond dst regs flags = record {
  accesses = record { first = None; second = None; write = word_of W8 regs dst };
  gives = λ a b. Ok (new_value W8 dst regs (if holds cond flags then 1 else 0) flags);
}
