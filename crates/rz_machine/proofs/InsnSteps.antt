-- The step of a running state where an instruction stands.
use Rattle.std.proofs.Common.{◌≡◌, ℕ, ◌+◌, false, is_some, Option, Some, None, Result, Ok, Err, OnOk, refl, sym, ap, subst, ◌∙◌}
use Rattle.rz_isa.specs.declared.instruction.Insn.{Insn}
use Rattle.rz_isa.specs.declared.decoding.Decoded.TheVariants as decoded
use Rattle.rz_isa.specs.Nodes.{Decoder}
use Rattle.rz_image.specs.Memory.{Regions, wrap}
use Rattle.rz_exec.specs.declared.state.Cpu.{Cpu}
use Rattle.rz_exec.specs.Form.{Completion}
use Rattle.rz_exec.specs.Effect.{plain_effect}
use Rattle.rz_exec.specs.Fault.{plain_completion}
use Rattle.rz_exec.specs.Laws.FormStands.{carry_stands, complete_stands}
use Rattle.rz_sys.specs.declared.world.World.{World}
use Rattle.rz_sys.specs.Heap.{HasHeap}
use Rattle.rz_sys.specs.Laws.Heap.{has_heap_put}
use Rattle.rz_machine.specs.declared.way.Transfer.{Transfer}
use Rattle.rz_machine.specs.Action.{transfer_effect}
use Rattle.rz_machine.specs.Calls.Transfers.{carried}
use Rattle.rz_machine.specs.declared.machine.End.{End}
use Rattle.rz_machine.specs.declared.machine.Machine.{Machine}
use Rattle.rz_machine.specs.State.{step, act, perform, running, decoded_at}

none_of : (o : Option End) → is_some o ≡ false → o ≡ None
none_of None h = refl
none_of (Some why) h = cc

pub step_insn : (dec : Decoder) (s : Machine) (x : Insn) (len : ℕ) → is_some s.end ≡ false → decoded_at dec s ≡ decoded.Insn x len → step dec s ≡ perform x (wrap (s.cpu.rip + len)) s
unfolding step
step_insn dec s x len runs at = ap (λ o. running o dec s) (none_of s.end runs) ∙ ap (λ d. act d s) at

-- what a result gives by one of two equal values
pub on_ok_equal : {A E B : Type 0} (x y z : B) (r : Result A E) → y ≡ z → OnOk r (x ≡ z) → OnOk r (x ≡ y)
on_ok_equal x y z (Ok a) e h = h ∙ sym e
on_ok_equal x y z (Err f) e h = tt

-- a plain instruction keeps the heap
pub plain_heap : (x : Insn) (cpu : Cpu) (m : Regions) (w : World) (c : Completion) → c ≡ plain_completion x cpu m → HasHeap m w → HasHeap c.mem w
plain_heap x cpu m w c e h =
    let kept = complete_stands (λ n. HasHeap n w) (has_heap_put w) (plain_effect x cpu.regs cpu.flags) cpu.regs cpu.flags m h in
    subst (λ (k : Completion). HasHeap k.mem w) (sym e) kept

-- so does a transfer
pub transfer_heap : (t : Transfer) (next : ℕ) (cpu : Cpu) (m : Regions) (w : World) (c : Completion) → c ≡ carried t next cpu m → HasHeap m w → HasHeap c.mem w
transfer_heap t next cpu m w c e h =
    let kept = carry_stands (λ n. HasHeap n w) (has_heap_put w) (transfer_effect t next cpu.regs cpu.flags) cpu.regs cpu.flags m h in
    subst (λ (k : Completion). HasHeap k.mem w) (sym e) kept
