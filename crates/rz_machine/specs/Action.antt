-- What each instruction does, and where it leads
-- (Intel SDM, volume 1, sections 6.4 and 7.3.8; volume 2, the entry of each transfer).
use Rattle.std.specs.Prelude.{ℕ, Bool, true, ◌+◌, ◌==◌, if◌then◌else◌, List, get_or, Option, Some, None, Ok}
use Rattle.rz_num.specs.declared.width.Width.TheVariants.{W64}
use Rattle.rz_flags.specs.declared.Flags.{Flags}
use Rattle.rz_flags.specs.Cond.{holds}
use Rattle.rz_isa.specs.declared.instruction.Insn.{Insn}
use Rattle.rz_machine.specs.declared.way.Transfer.{Transfer}
use Rattle.rz_machine.specs.declared.way.Transfer.TheVariants as transfer
use Rattle.rz_machine.specs.declared.way.Halt.{Halt}
use Rattle.rz_machine.specs.declared.way.Halt.TheVariants as halt
use Rattle.rz_machine.specs.declared.way.Way.{Way}
use Rattle.rz_machine.specs.declared.way.Way.TheVariants.{Onward, Jumps, Branches, BranchesOnRcx, Transfers, Calls, Halts}
use Rattle.rz_machine.specs.declared.machine.End.{End}
use Rattle.rz_machine.specs.declared.machine.End.TheVariants as end
use Rattle.rz_image.specs.Memory.{Regions, wrap}
use Rattle.rz_exec.specs.declared.state.Cpu.{Cpu}
use Rattle.rz_exec.specs.declared.state.Fault.{Fault}
use Rattle.rz_exec.specs.Form.{WordAt, Effect, PlainEffect, first_word}
use Rattle.rz_exec.specs.Registers.{put_reg}
use Rattle.rz_exec.specs.Operands.{word_at, word_of, value_of, to_regs, from_word, new_regs}
use Rattle.rz_exec.specs.Stack.{top_of, below_top}
use Rattle.rz_exec.specs.Effect.{plain_effect, is_named_place}

-- what an instruction does, and where it leads
pub data Action : Type 0 where
  -- a plain effect, and then on to the next address
  Passes : (effect : PlainEffect) → Action
  -- an effect, and then to an address by the first word that it reads
  Leads : (effect : Effect) (to : ℕ → ℕ) → Action
  -- what the outside answers
  Asks : Action
  -- the end of the run
  Ends : (why : End) → Action

-- the end by an instruction that halts at the address `here`
abbrev pub end_by : Halt → ℕ → End
end_by halt.Ud2 here = end.Illegal here
end_by halt.Hlt here = end.Halted
end_by halt.Int3 here = end.Break

-- ---- calls, returns and jumps by an operand (volume 1, sections 6.4 and 7.3.8; volume 2, "CALL", "JMP", "RET")

-- a word is read, and then the next address is pushed
abbrev pub call_effect : Option WordAt → ℕ → List ℕ → Flags → Effect
call_effect first next regs flags =
    record {
      accesses = record { first = first; second = None; write = word_at W64 (Some (below_top regs)) };
      gives = λ a b. Ok (record { regs = put_reg W64 regs 4 (below_top regs); flags = flags; word = next });
    }

-- the word on top of the stack is popped, and so many bytes more
abbrev pub return_effect : ℕ → List ℕ → Flags → Effect
return_effect pop regs flags =
    from_word (word_at W64 (Some (top_of regs))) (λ a. new_regs (put_reg W64 regs 4 (top_of regs + 8 + pop)) flags)

abbrev pub transfer_effect : Transfer → ℕ → List ℕ → Flags → Effect
transfer_effect (transfer.Call target) next regs flags = call_effect None next regs flags
transfer_effect (transfer.CallInd src) next regs flags = call_effect (word_of W64 regs src) next regs flags
transfer_effect (transfer.JmpInd src) next regs flags = from_word (word_of W64 regs src) (λ a. new_regs regs flags)
transfer_effect (transfer.Ret pop) next regs flags = return_effect pop regs flags

-- where it leads, by the word that is read first; RIP has 64 bits (volume 1, section 3.5.1)
abbrev pub transfer_to : Transfer → List ℕ → ℕ → ℕ
transfer_to (transfer.Call target) regs word = target
transfer_to (transfer.CallInd src) regs word = wrap (value_of W64 regs src word)
transfer_to (transfer.JmpInd src) regs word = wrap (value_of W64 regs src word)
transfer_to (transfer.Ret pop) regs word = wrap word

-- RIP after it: a fault leaves it
abbrev pub rip_after : Option Fault → Transfer → ℕ → Cpu → Regions → ℕ
rip_after None t next cpu m = transfer_to t cpu.regs (first_word (transfer_effect t next cpu.regs cpu.flags) m)
rip_after (Some fault) t next cpu m = cpu.rip

-- its operand's registers are named
abbrev pub is_named_transfer : Transfer → Bool
is_named_transfer (transfer.CallInd src) = is_named_place src
is_named_transfer (transfer.JmpInd src) = is_named_place src
is_named_transfer t = true

-- ---- every instruction

-- an instruction of a way, at the address `here` and before `next`; RCX is register 1
abbrev pub action_by : Way → Insn → (here next : ℕ) → List ℕ → Flags → Action
action_by Onward x here next regs flags = Passes (plain_effect x regs flags)
action_by (Jumps target) x here next regs flags = Leads (to_regs regs flags) (λ word. target)
action_by (Branches cond target) x here next regs flags =
    Leads (to_regs regs flags) (λ word. if holds cond flags then target else next)
action_by (BranchesOnRcx target) x here next regs flags =
    Leads (to_regs regs flags) (λ word. if get_or regs 1 0 == 0 then target else next)
action_by (Transfers t) x here next regs flags = Leads (transfer_effect t next regs flags) (transfer_to t regs)
action_by Calls x here next regs flags = Asks
action_by (Halts how) x here next regs flags = Ends (end_by how here)
