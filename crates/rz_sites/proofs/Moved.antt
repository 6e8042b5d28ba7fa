-- The new run's steps over the items of a site, and how both runs end or go on.
use Rattle.std.proofs.Common.{◌≡◌, ℕ, suc, ◌+◌, ◌%◌, ◌^◌, ◌<◌, ◌≤◌, List, get_or, Some, None, refl, sym, ap, ◌∙◌, subst, arith, mod-eq_of_lt}
use Rattle.byteorder.specs.Endian.{little_bytes}
use Rattle.rz_flags.specs.declared.Flags.{Flags}
use Rattle.rz_isa.specs.declared.decoding.Decoded.{Decoded}
use Rattle.rz_isa.specs.declared.instruction.Insn.{Insn}
use Rattle.rz_isa.specs.Nodes.{Decoder}
use Rattle.rz_image.specs.Memory.{Regions, Range, RangeStands, put_bytes, wrap}
use Rattle.rz_exec.specs.Form.{Exception, Memory, Own, Divide, Popped}
use Rattle.rz_sys.specs.Heap.{HasHeap}
use Rattle.rz_machine.specs.declared.machine.End.{End}
use Rattle.rz_machine.specs.declared.machine.Machine.{Machine}
use Rattle.rz_machine.specs.declared.way.Way.{Way}
use Rattle.rz_machine.specs.Way.{way_of}
use Rattle.rz_machine.specs.Added.{Layout}
use Rattle.rz_machine.specs.Keeps.{Same, AlikeEnds}
use Rattle.rz_machine.specs.State.{step, after, perform, end_of}
use Rattle.rz_machine.specs.Touches.{StepClear, InsnClear, WayClear}
use Rattle.rz_machine.specs.Simulates.{InsnAt, HasCode, HasScratch, Follows}
use Rattle.rz_machine.specs.Laws.Code.{step_code, after_range}
use Rattle.rz_machine.specs.Laws.Comes.{decodes_to, step_is, Comes}
use Rattle.rz_machine.specs.Laws.Steps.{step_heap}
use Rattle.rz_machine.specs.Laws.Stored.{IsOpen, is_open, allowed_write}
use Rattle.rz_machine.specs.Laws.States.{now}
use Rattle.rz_sites.proofs.Steps.{save_insn, save_is}

-- ---- both runs end or go on

module _ (dec : Decoder) (lay : Layout) (to : ℕ → ℕ) (bound : ℕ) where
  -- both go on
  pub goes_on : (s t : Machine) (least most : ℕ) → s.end ≡ None → 0 < least → most ≤ bound → Comes dec lay.added s t least most (to s.cpu.rip) → Follows dec lay to bound s t
  goes_on s t least most runs some room c =
      record {
        goes = λ r. (c.steps, omega (arith, c.enough), omega (arith, c.few), c.runs, c.there, c.same);
        ends = λ w over. absurd (let f : None ≡ Some w = sym runs ∙ over in cc);
      }

  same_ends : (x : Exception) → AlikeEnds lay.code (Some (end_of x)) (Some (end_of x))
  same_ends (Memory bad) = refl
  same_ends (Own Divide) = refl
  same_ends (Own Popped) = refl

  -- both end by the same exception
  pub both_end : (s t t' : Machine) (k : ℕ) (x : Exception) → 0 < k → k ≤ bound → after dec k t ≡ t' → s.end ≡ Some (end_of x) → t'.end ≡ Some (end_of x) → Same lay.added s t' → Follows dec lay to bound s t
  both_end s t t' k x some room e over over' same =
      record {
        goes = λ runs. absurd (let f : Some (end_of x) ≡ None = sym over ∙ runs in cc);
        ends = λ w over2.
            let f : Some (end_of x) ≡ Some w = sym over ∙ over2 in
            let g : end_of x ≡ w = cc in
            let P : End → Type 0 = λ v. AlikeEnds lay.code (Some v) (Some (end_of x)) in
            (k, some, room, end_of x, ap (λ u. u.end) e ∙ over', subst P g (same_ends x), subst (Same lay.added s) (sym e) same);
      }

pub none_after : (dec : Decoder) (t : Machine) → after dec 0 t ≡ t
unfolding after
none_after dec t = refl

pub after_more : (dec : Decoder) (k : ℕ) (t t' u : Machine) → step dec t ≡ t' → after dec k t' ≡ u → after dec (suc k) t ≡ u
unfolding after
after_more dec k t t' u e f = ap (after dec k) e ∙ f

-- ---- the old run's step

-- its accesses are clear of what is added
pub insn_clear : (dec : Decoder) (r : Range) (xm : Regions) (x : Insn) (w : Way) (a n : ℕ) (s : Machine) → way_of x ≡ w → (at : InsnAt dec xm a x n) → s.cpu.rip ≡ a → s.end ≡ None → HasCode xm s.mem → StepClear r dec s
    → WayClear r w x (wrap (s.cpu.rip + at.len)) s
unfolding StepClear
insn_clear dec r xm x w a n s is at rip runs code clear =
    let P : Decoded → Type 0 = λ d. InsnClear r d s in
    let W : Way → Type 0 = λ v. WayClear r v x (wrap (s.cpu.rip + at.len)) s in
    subst W is (subst P (decodes_to dec xm a x n at s rip code) (clear runs))

-- ---- the new run's steps

module _ (dec : Decoder) (lay : Layout) (wm : Regions) (scratch : ℕ) (low : scratch + 16 < 2 ^ 31) (page : HasScratch scratch lay.added wm) where
  -- what each step of the new run leaves
  pub record Ready (t : Machine) : Type 0 where
    pub runs : t.end ≡ None
    pub code : HasCode wm t.mem
    pub heap : HasHeap t.mem t.world
    pub below : lay.added.high ≤ t.world.first_break
    pub added : RangeStands lay.added wm t.mem

  pub ready_to : (t : Machine) (regs : List ℕ) (flags : Flags) (p : ℕ) (m : Regions) → Ready t → step dec t ≡ now t regs flags p m → Ready (now t regs flags p m)
  unfolding after
  ready_to t regs flags p m h e =
      record {
        runs = h.runs;
        code = subst (λ (u : Machine). HasCode wm u.mem) e (step_code wm dec t h.heap h.code);
        heap = subst (λ (u : Machine). HasHeap u.mem u.world) e (step_heap dec t h.heap);
        below = h.below;
        added = subst (λ (u : Machine). RangeStands lay.added wm u.mem) e (after_range lay.added wm dec 1 t h.heap h.below h.added);
      }

  pub steps_by : (x : Insn) (t : Machine) (next : ℕ) (u : Machine) → Ready t → InsnAt dec wm t.cpu.rip x next → perform x next t ≡ u → step dec t ≡ u
  steps_by x t next u h at e = step_is dec wm t.cpu.rip x next at t h.runs refl h.code ∙ e

  pub open_word : (t : Machine) (i : ℕ) → Ready t → i + 8 ≤ 24 → IsOpen t.mem (scratch + i)
  open_word t i h few = is_open scratch i lay.added wm t.mem page h.added (omega arith)

  -- RCX is saved
  pub saves : (t : Machine) (i a u next : ℕ) → scratch + i ≡ a → i + 8 ≤ 24 → Ready t → get_or t.cpu.regs 1 0 ≡ u → u < 2 ^ 64 → InsnAt dec wm t.cpu.rip (save_insn a) next
      → step dec t ≡ now t t.cpu.regs t.cpu.flags next (put_bytes t.mem a (little_bytes 8 u))
  saves t i a u next e few h rcx fits at =
      let open' : IsOpen t.mem a = subst (IsOpen t.mem) e (open_word t i h few) in
      steps_by (save_insn a) t next _ h at
      (save_is a next t t.cpu.regs t.cpu.flags t.cpu.rip t.mem (omega (arith, page.last, page.top, few, e)) (allowed_write t.mem a open')
      ∙ ap (λ v. now t t.cpu.regs t.cpu.flags next (put_bytes t.mem a (little_bytes 8 v))) (ap (λ v. v % 2 ^ 64) rcx ∙ mod-eq_of_lt fits))
