-- The stack (Intel SDM, volume 1, section 6.2, "Stacks"; volume 2, "PUSH", "POP", "LEAVE", "PUSHF/PUSHFQ", "POPF/POPFQ").
use Rattle.std.specs.Prelude.{ℕ, ◌+◌, ◌-◌, ◌^◌, List, get_or, Option, Some, None, Result, Ok, Err}
use Rattle.rz_num.specs.declared.width.Width.TheVariants.{W64}
use Rattle.rz_flags.specs.declared.Flags.{Flags}
use Rattle.rz_flags.specs.Word.{flags_word, flags_in}
use Rattle.rz_image.specs.Memory.{wrap}
use Rattle.rz_isa.specs.declared.instruction.Place.{Place}
use Rattle.rz_isa.specs.declared.instruction.Operand.{Operand}
use Rattle.rz_exec.specs.Form.{NewValues, Stop, Popped, Effect}
use Rattle.rz_exec.specs.Registers.{put_reg}
use Rattle.rz_exec.specs.Operands.{word_at, word_of, operand_word, operand_value, new_regs, from_word, new_value}

-- registers 4 and 5 are RSP and RBP; the top of the stack is the word at RSP

abbrev pub top_of : List ℕ → ℕ
top_of regs = get_or regs 4 0

-- the word below the top
abbrev pub below_top : List ℕ → ℕ
below_top regs = wrap (top_of regs + (2 ^ 64 - 8))

-- the value is that by the registers before
abbrev pub push_effect : Operand → List ℕ → Flags → Effect
push_effect src regs flags = record {
  accesses = record { first = operand_word W64 regs src; second = None; write = word_at W64 (Some (below_top regs)) };
  gives = λ a b. Ok (record { regs = put_reg W64 regs 4 (below_top regs); flags = flags; word = operand_value W64 regs src a });
}

-- registers after the word at an address was popped
abbrev pub popped : ℕ → List ℕ → List ℕ
popped top regs = put_reg W64 regs 4 (top + 8)

-- the address of the destination is that by the registers after the growth
abbrev pub pop_effect : Place → List ℕ → Flags → Effect
pop_effect dst regs flags =
    let grown = popped (top_of regs) regs in record {
      accesses = record { first = word_at W64 (Some (top_of regs)); second = None; write = word_of W64 grown dst };
      gives = λ a b. Ok (new_value W64 dst grown a flags);
    }

-- RSP becomes RBP, and then RBP is popped
abbrev pub leave_effect : List ℕ → Flags → Effect
leave_effect regs flags =
    let top = get_or regs 5 0 in
    from_word (word_at W64 (Some top)) (λ a. new_regs (put_reg W64 (popped top regs) 5 a) flags)

abbrev pub push_flags_effect : List ℕ → Flags → Effect
push_flags_effect regs flags = record {
  accesses = record { first = None; second = None; write = word_at W64 (Some (below_top regs)) };
  gives = λ a b. Ok (record { regs = put_reg W64 regs 4 (below_top regs); flags = flags; word = flags_word flags });
}

-- a flags word that can't be taken stops the instruction
abbrev pub taken_flags : List ℕ → Option Flags → Result NewValues Stop
taken_flags regs None = Err Popped
taken_flags regs (Some flags) = Ok (new_regs regs flags)

abbrev pub pop_flags_effect : List ℕ → Flags → Effect
pop_flags_effect regs flags = record {
  accesses = record { first = word_at W64 (Some (top_of regs)); second = None; write = None };
  gives = λ a b. taken_flags (popped (top_of regs) regs) (flags_in a);
}
