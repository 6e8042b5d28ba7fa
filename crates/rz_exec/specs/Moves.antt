-- Moves (Intel SDM, volume 2, "MOV", "LEA", "MOVZX", "MOVSX/MOVSXD", "CBW/CWDE/CDQE", "CWD/CDQ/CQO").
use Rattle.std.specs.Prelude.{ℕ, Bool, true, if◌then◌else◌, List, get_or, None, Ok, unwrap_or}
use Rattle.rz_num.specs.declared.width.Width.{Width}
use Rattle.rz_num.specs.declared.width.Width.TheVariants.{W8, W16, W32, W64}
use Rattle.rz_num.specs.Width.{low_bits, sign_extended}
use Rattle.rz_flags.specs.declared.Flags.{Flags}
use Rattle.rz_alu.specs.Multiply.{extension}
use Rattle.rz_isa.specs.declared.instruction.Place.{Place}
use Rattle.rz_isa.specs.declared.instruction.Operand.{Operand}
use Rattle.rz_exec.specs.Form.{Effect}
use Rattle.rz_exec.specs.Registers.{get_reg, put_reg}
use Rattle.rz_exec.specs.Operands.{address_of, word_of, operand_word, value_of, operand_value, new_regs, to_regs, from_word, new_value}

abbrev pub mov_effect : Width → Place → Operand → List ℕ → Flags → Effect
mov_effect w dst src regs flags = record {
  accesses = record { first = operand_word w regs src; second = None; write = word_of w regs dst };
  gives = λ a b. Ok (new_value w dst regs (operand_value w regs src a) flags);
}

abbrev pub lea_effect : Width → ℕ → Place → List ℕ → Flags → Effect
lea_effect w dst src regs flags = to_regs (put_reg w regs dst (unwrap_or (address_of regs src) 0)) flags

abbrev pub extended : Bool → Width → ℕ → ℕ
extended signed from v = if signed then sign_extended from v else low_bits from v

abbrev pub extend_effect : Bool → Width → Width → ℕ → Place → List ℕ → Flags → Effect
extend_effect signed to from dst src regs flags =
    from_word (word_of from regs src) (λ a. new_regs (put_reg to regs dst (extended signed from (value_of from regs src a))) flags)

-- half a width; no instruction converts to 8 bits
abbrev pub narrower : Width → Width
narrower W64 = W32
narrower W32 = W16
narrower w = W8

-- the accumulator from half its width by its sign
abbrev pub convert_effect : Width → List ℕ → Flags → Effect
convert_effect w regs flags = to_regs (put_reg w regs 0 (sign_extended (narrower w) (get_or regs 0 0))) flags

-- RDX filled with the sign of RAX
abbrev pub sign_fill_effect : Width → List ℕ → Flags → Effect
sign_fill_effect w regs flags = to_regs (put_reg w regs 2 (extension w true (get_reg w regs 0))) flags
