-- Registers stay sixteen words below 2^64.
use Rattle.std.proofs.Common.{ℕ, ◌+◌, ◌≤◌, true, false, Option, Some, None, arith}
use Rattle.rz_num.specs.declared.width.Width.TheVariants.{W64}
use Rattle.rz_flags.specs.declared.Flags.{Flags}
use Rattle.rz_flags.specs.Word.{flags_word, bit_of}
use Rattle.rz_isa.specs.declared.instruction.Insn.{Insn}
use Rattle.rz_isa.specs.declared.decoding.Decoded.{Decoded}
use Rattle.rz_isa.specs.declared.decoding.Decoded.TheVariants as decoded
use Rattle.rz_isa.specs.Nodes.{Decoder}
use Rattle.rz_image.specs.Memory.{wrap}
use Rattle.rz_exec.specs.Registers.{IsWord, AreRegs, put_reg}
use Rattle.rz_exec.specs.Form.{Exception, Effect, Completion, carry}
use Rattle.rz_exec.specs.Stack.{top_of, below_top}
use Rattle.rz_exec.specs.Laws.Registers.{GivesRegs, set_regs, put_reg_regs, carry_regs, complete_regs}
use Rattle.rz_sys.specs.Heap.{HasHeap}
use Rattle.rz_sys.specs.Answer.{Called, answer}
use Rattle.rz_sys.specs.Laws.Answers.{answer_word}
use Rattle.rz_machine.specs.declared.machine.End.{End}
use Rattle.rz_machine.specs.declared.machine.Machine.{Machine}
use Rattle.rz_machine.specs.declared.way.Transfer.TheVariants as transfer
use Rattle.rz_machine.specs.declared.way.Way.{Way}
use Rattle.rz_machine.specs.declared.way.Way.TheVariants.{Onward, Jumps, Branches, BranchesOnRcx, Transfers, Calls, Halts}
use Rattle.rz_machine.specs.Way.{way_of}
use Rattle.rz_machine.specs.State.{step, act, perform_by, running, after_exception, after_effect, after_exit, decoded_at}

-- the flags word is one
flags_fit : (f : Flags) → IsWord (flags_word f)
flags_fit f =
    let a = bit f.cf 1 in let b = bit f.pf 4 in let c = bit f.af 16 in let d = bit f.zf 64 in let e = bit f.sf 128 in let g = bit f.df 1024 in let h = bit f.of 2048 in
    omega arith
  where
    bit : (b : _) (n : ℕ) → bit_of b n ≤ n
    bit true n = omega arith
    bit false n = omega arith

-- one step
pub step_regs : (dec : Decoder) (s : Machine) → HasHeap s.mem s.world → AreRegs s.cpu.regs → AreRegs (step dec s).cpu.regs
unfolding step
step_regs dec s heap h = run s.end
  where
    call : (o : Option ℕ) (c : Called) (next : ℕ) → IsWord c.answer → IsWord next → AreRegs (after_exit o c next s).cpu.regs
    call (Some status) c next a n = h
    call None c next a n = set_regs _ 11 _ (set_regs _ 1 _ (set_regs s.cpu.regs 0 _ h a) n) (flags_fit s.cpu.flags)

    effect : (o : Option Exception) (c : Completion) (to : ℕ) → AreRegs c.regs → AreRegs (after_exception o c to s).cpu.regs
    effect None c to k = k
    effect (Some x) c to k = k

    leads : (e : Effect) (to : ℕ) → ((a b : ℕ) → GivesRegs (e.gives a b)) → AreRegs (after_effect (carry e s.cpu.regs s.cpu.flags s.mem) to s).cpu.regs
    leads e to k = effect _ _ to (carry_regs e s.cpu.regs s.cpu.flags s.mem h k)

    moved_top : (v : ℕ) → AreRegs (put_reg W64 s.cpu.regs 4 v)
    moved_top v = put_reg_regs W64 s.cpu.regs 4 v h

    does : (x : Insn) (w : Way) (next : ℕ) → IsWord next → AreRegs (perform_by w x next s).cpu.regs
    does x Onward next n = effect _ _ next (complete_regs x s.cpu.regs s.cpu.flags s.mem h)
    does x (Jumps target) next n = leads _ _ (λ a b. h)
    does x (Branches cond target) next n = leads _ _ (λ a b. h)
    does x (BranchesOnRcx target) next n = leads _ _ (λ a b. h)
    does x (Transfers (transfer.Call target)) next n = leads _ _ (λ a b. moved_top (below_top s.cpu.regs))
    does x (Transfers (transfer.CallInd src)) next n = leads _ _ (λ a b. moved_top (below_top s.cpu.regs))
    does x (Transfers (transfer.JmpInd src)) next n = leads _ _ (λ a b. h)
    does x (Transfers (transfer.Ret pop)) next n = leads _ _ (λ a b. moved_top (top_of s.cpu.regs + 8 + pop))
    does x Calls next n = call _ (answer s.cpu.regs s.mem s.world) next (answer_word s.cpu.regs s.mem s.world heap) n
    does x (Halts how) next n = h

    acts : (d : Decoded) → AreRegs (act d s).cpu.regs
    acts (decoded.Insn x len) = does x (way_of x) (wrap (s.cpu.rip + len)) (omega arith)
    acts decoded.Short = h
    acts decoded.Unknown = h

    run : (o : Option End) → AreRegs (running o dec s).cpu.regs
    run None = acts (decoded_at dec s)
    run (Some why) = h
