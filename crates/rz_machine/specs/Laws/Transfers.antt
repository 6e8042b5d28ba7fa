-- What a return, an indirect jump and an indirect call of the original do, by what their accesses give.
use Rattle.std.proofs.Common.{◌≡◌, ℕ, ◌+◌, ◌%◌, ◌^◌, get_or, set, Option, Some, None, Result, Ok, Err, refl, ap, ◌∙◌}
use Rattle.byteorder.specs.Endian.{little_bytes}
use Rattle.rz_num.specs.declared.width.Width.TheVariants.{W64}
use Rattle.rz_isa.specs.declared.instruction.Insn.TheVariants as insn
use Rattle.rz_isa.specs.declared.instruction.Place.{Place}
use Rattle.rz_image.specs.Memory.{refused, is_writable, put_bytes, wrap}
use Rattle.rz_exec.specs.Form.{NewValues, Exception, Memory, Effect, allowed, read_word, word_or_zero, after_write, after_first, carry}
use Rattle.rz_exec.specs.Operands.{word_of, value_of}
use Rattle.rz_exec.specs.Stack.{below_top}
use Rattle.rz_machine.specs.declared.machine.Machine.{Machine}
use Rattle.rz_machine.specs.declared.way.Transfer.TheVariants as transfer
use Rattle.rz_machine.specs.Action.{transfer_effect}
use Rattle.rz_machine.specs.State.{perform, after_effect}
use Rattle.rz_machine.specs.Laws.States.{now, fault_at}
use Rattle.rz_machine.specs.Laws.Stored.{word}

-- by the operand's word
abbrev pub jumped : Place → Machine → Result ℕ Exception → Machine
jumped src s (Ok w) = now s s.cpu.regs s.cpu.flags (wrap (value_of W64 s.cpu.regs src w)) s.mem
jumped src s (Err x) = fault_at x s

pub jump_is : (src : Place) (n : ℕ) (s : Machine) (o : Result ℕ Exception) → read_word s.mem (word_of W64 s.cpu.regs src) ≡ o → perform (insn.JmpInd src) n s ≡ jumped src s o
unfolding carry
jump_is src n s o h = ap P h ∙ cases o
  where
    e : Effect
    e = transfer_effect (transfer.JmpInd src) n s.cpu.regs s.cpu.flags

    P : Result ℕ Exception → Machine
    P o = after_effect (after_first e s.cpu.regs s.cpu.flags s.mem o) (wrap (value_of W64 s.cpu.regs src (word_or_zero o))) s

    cases : (o : Result ℕ Exception) → P o ≡ jumped src s o
    cases (Ok w) = refl
    cases (Err x) = refl

-- by the word on top of the stack
abbrev pub returned : ℕ → Machine → Result ℕ Exception → Machine
returned bytes s (Ok w) = now s (set s.cpu.regs 4 ((get_or s.cpu.regs 4 0 + 8 + bytes) % 2 ^ 64)) s.cpu.flags (wrap w) s.mem
returned bytes s (Err x) = fault_at x s

pub return_is : (bytes n : ℕ) (s : Machine) (o : Result ℕ Exception) → read_word s.mem (word (get_or s.cpu.regs 4 0)) ≡ o → perform (insn.Ret bytes) n s ≡ returned bytes s o
unfolding carry
return_is bytes n s o h = ap P h ∙ cases o
  where
    e : Effect
    e = transfer_effect (transfer.Ret bytes) n s.cpu.regs s.cpu.flags

    P : Result ℕ Exception → Machine
    P o = after_effect (after_first e s.cpu.regs s.cpu.flags s.mem o) (wrap (word_or_zero o)) s

    cases : (o : Result ℕ Exception) → P o ≡ returned bytes s o
    cases (Ok w) = refl
    cases (Err x) = refl

-- by the operand's word, and the first byte below the stack that may not be written
abbrev pub called_by : Place → ℕ → Machine → ℕ → Option ℕ → Machine
called_by src n s w (Some bad) = fault_at (Memory bad) s
called_by src n s w None =
    let top = below_top s.cpu.regs in now s (set s.cpu.regs 4 (top % 2 ^ 64)) s.cpu.flags (wrap (value_of W64 s.cpu.regs src w)) (put_bytes s.mem top (little_bytes 8 n))

abbrev pub called : Place → ℕ → Machine → Option ℕ → Result ℕ Exception → Machine
called src n s o (Ok w) = called_by src n s w o
called src n s o (Err x) = fault_at x s

pub call_is : (src : Place) (n : ℕ) (s : Machine) (o : Result ℕ Exception) (p : Option ℕ) → read_word s.mem (word_of W64 s.cpu.regs src) ≡ o → refused is_writable s.mem (below_top s.cpu.regs) 8 ≡ p
    → perform (insn.CallInd src) n s ≡ called src n s p o
unfolding carry
call_is src n s o p h k = ap P h ∙ cases o
  where
    e : Effect
    e = transfer_effect (transfer.CallInd src) n s.cpu.regs s.cpu.flags

    P : Result ℕ Exception → Machine
    P o = after_effect (after_first e s.cpu.regs s.cpu.flags s.mem o) (wrap (value_of W64 s.cpu.regs src (word_or_zero o))) s

    v : NewValues
    v = record { regs = set s.cpu.regs 4 (below_top s.cpu.regs % 2 ^ 64); flags = s.cpu.flags; word = n }

    Q : ℕ → Option ℕ → Machine
    Q w p = after_effect (after_write s.cpu.regs s.cpu.flags s.mem v (allowed p (put_bytes s.mem (below_top s.cpu.regs) (little_bytes 8 n)))) (wrap (value_of W64 s.cpu.regs src w)) s

    pushed : (w : ℕ) (p : Option ℕ) → Q w p ≡ called_by src n s w p
    pushed w None = refl
    pushed w (Some bad) = refl

    cases : (o : Result ℕ Exception) → P o ≡ called src n s p o
    cases (Ok w) = ap (Q w) k ∙ pushed w p
    cases (Err x) = refl
