-- What a step does to memory: puts of bytes, and opening the heap.
use Rattle.std.proofs.Common.{◌≡◌, ℕ, zero, suc, List, Option, Some, None, refl, subst}
use Rattle.rz_isa.specs.declared.decoding.Decoded.{Decoded}
use Rattle.rz_isa.specs.declared.decoding.Decoded.TheVariants as decoded
use Rattle.rz_machine.specs.declared.machine.End.{End}
use Rattle.rz_machine.specs.declared.machine.Machine.{Machine}
use Rattle.rz_image.specs.Memory.{Regions}
use Rattle.rz_image.specs.Laws.Alike.{StandsPut}
use Rattle.rz_isa.specs.Nodes.{Decoder}
use Rattle.rz_machine.specs.Way.{way_of}
use Rattle.rz_exec.specs.Form.{Exception, Completion}
use Rattle.rz_machine.specs.Action.{Action, Passes, Leads, Asks, Ends, action_by}
use Rattle.rz_sys.specs.declared.world.World.{World}
use Rattle.rz_sys.specs.Heap.{HasHeap}
use Rattle.rz_sys.specs.Answer.{Called, answer, world_after}
use Rattle.rz_sys.specs.Laws.Heap.{StandsOpen, has_heap_put}
use Rattle.rz_sys.specs.Laws.Answers.{answer_stands, answer_heap, exit_mem}
use Rattle.rz_machine.specs.State.{step, after, act, perform_action, running, after_exception, after_exit}
use Rattle.rz_exec.specs.Laws.FormStands.{carry_stands, complete_stands}

module _ (P : Regions → World → Type 0) (puts : (w : World) → StandsPut (λ m. P m w)) (calls : (regs : List ℕ) (m : Regions) (w : World) → P m w → P (answer regs m w).mem (world_after regs w (answer regs m w))) where
  -- one step
  pub step_stands : (dec : Decoder) (s : Machine) → P s.mem s.world → P (step dec s).mem (step dec s).world
  unfolding step
  step_stands dec s h = run s.end
    where
      Holds : Machine → Type 0
      Holds t = P t.mem t.world

      effect : (o : Option Exception) (c : Completion) (to : ℕ) → P c.mem s.world → Holds (after_exception o c to s)
      effect None c to k = k
      effect (Some x) c to k = k

      call : (o : Option ℕ) (c : Called) (next : ℕ) → ((status : ℕ) → o ≡ Some status → c.mem ≡ s.mem) → P c.mem (world_after s.cpu.regs s.world c) → Holds (after_exit o c next s)
      call (Some status) c next e k = subst (λ m. P m (world_after s.cpu.regs s.world c)) (e status refl) k
      call None c next e k = k

      does : (a : Action) (next : ℕ) → Holds (perform_action a next s)
      does (Passes p) next = effect _ _ next (complete_stands (λ m. P m s.world) (puts s.world) p s.cpu.regs s.cpu.flags s.mem h)
      does (Leads e to) next = effect _ _ _ (carry_stands (λ m. P m s.world) (puts s.world) e s.cpu.regs s.cpu.flags s.mem h)
      does Asks next = call _ _ next (exit_mem s.cpu.regs s.mem s.world) (calls s.cpu.regs s.mem s.world h)
      does (Ends why) next = h

      acts : (d : Decoded) → Holds (act d s)
      acts (decoded.Insn x len) = does (action_by (way_of x) x s.cpu.rip _ s.cpu.regs s.cpu.flags) _
      acts decoded.Short = h
      acts decoded.Unknown = h

      run : (o : Option End) → Holds (running o dec s)
      run None = acts _
      run (Some why) = h

  -- any number of steps
  pub after_stands : (dec : Decoder) (n : ℕ) (s : Machine) → P s.mem s.world → P (after dec n s).mem (after dec n s).world
  unfolding after
  after_stands dec zero s h = h
  after_stands dec (suc n) s h = after_stands dec n (step dec s) (step_stands dec s h)

-- the heap stays one
pub step_heap : (dec : Decoder) (s : Machine) → HasHeap s.mem s.world → HasHeap (step dec s).mem (step dec s).world
step_heap = step_stands HasHeap has_heap_put answer_heap

pub after_heap : (dec : Decoder) (n : ℕ) (s : Machine) → HasHeap s.mem s.world → HasHeap (after dec n s).mem (after dec n s).world
after_heap = after_stands HasHeap has_heap_put answer_heap

-- the first break stays
pub step_break : (fb : ℕ) (dec : Decoder) (s : Machine) → s.world.first_break ≡ fb → (step dec s).world.first_break ≡ fb
step_break fb = step_stands (λ m w. w.first_break ≡ fb) (λ w m a b h. h) (λ regs m w h. h)

pub after_break : (fb : ℕ) (dec : Decoder) (n : ℕ) (s : Machine) → s.world.first_break ≡ fb → (after dec n s).world.first_break ≡ fb
after_break fb = after_stands (λ m w. w.first_break ≡ fb) (λ w m a b h. h) (λ regs m w h. h)

-- what stands under puts of bytes, and where the heap is opened, stands through steps
module _ (fb : ℕ) (P : Regions → Type 0) (puts : StandsPut P) (opens : (w : World) → w.first_break ≡ fb → StandsOpen P w) where
  record Stands (m : Regions) (w : World) : Type 0 where
    heap : HasHeap m w
    first_break : w.first_break ≡ fb
    holds : P m

  stands_put : (w : World) → StandsPut (λ m. Stands m w)
  stands_put w m a b h =
      record { heap = has_heap_put w m a b h.heap; first_break = h.first_break; holds = puts m a b h.holds }

  stands_called : (regs : List ℕ) (m : Regions) (w : World) → Stands m w → Stands (answer regs m w).mem (world_after regs w (answer regs m w))
  stands_called regs m w h =
      record {
        heap = answer_heap regs m w h.heap;
        first_break = h.first_break;
        holds = answer_stands P w puts (opens w h.first_break) regs m h.heap h.holds;
      }

  pub step_keeps : (dec : Decoder) (s : Machine) → HasHeap s.mem s.world → s.world.first_break ≡ fb → P s.mem → P (step dec s).mem
  step_keeps dec s heap e h =
      (step_stands Stands stands_put stands_called dec s (record { heap = heap; first_break = e; holds = h })).holds

  pub after_keeps : (dec : Decoder) (n : ℕ) (s : Machine) → HasHeap s.mem s.world → s.world.first_break ≡ fb → P s.mem → P (after dec n s).mem
  after_keeps dec n s heap e h =
      (after_stands Stands stands_put stands_called dec n s (record { heap = heap; first_break = e; holds = h })).holds
