-- The new run follows one instruction of the old one: what stands at the instruction's place does the same.
use Rattle.std.proofs.Common.{◌≡◌, ℕ, ◌+◌, Bool, true, false, if◌then◌else◌, ◌%◌, ◌^◌, ◌<◌, ◌≤◌, inr, List, [], ◌∷◌, ◌==◌, get_or, set, Option, Some, None, refl, sym, ap, ap₂, ◌∙◌, subst, arith, mod-eq_of_lt}
use Rattle.rz_flags.specs.declared.Cond.{Cond}
use Rattle.rz_flags.specs.declared.Flags.{Flags}
use Rattle.rz_flags.specs.Cond.{holds}
use Rattle.rz_flags.specs.Word.{flags_word}
use Rattle.rz_isa.specs.declared.instruction.Insn.{Insn}
use Rattle.rz_isa.specs.declared.instruction.Insn.TheVariants as insn
use Rattle.rz_isa.specs.declared.decoding.Decoded.{Decoded}
use Rattle.rz_machine.specs.declared.machine.End.{End}
use Rattle.rz_machine.specs.declared.machine.End.TheVariants as end
use Rattle.rz_machine.specs.declared.machine.Machine.{Machine}
use Rattle.rz_image.specs.Memory.{Regions, Range, IsInside, wrap}
use Rattle.rz_isa.specs.Nodes.{Decoder}
use Rattle.rz_machine.specs.declared.way.Way.{Way}
use Rattle.rz_machine.specs.declared.way.Way.TheVariants.{Onward, Jumps, Branches, BranchesOnRcx, Transfers, Calls, Halts}
use Rattle.rz_machine.specs.declared.way.Halt.{Halt}
use Rattle.rz_machine.specs.declared.way.Halt.TheVariants as halt
use Rattle.rz_machine.specs.Way.{way_of}
use Rattle.rz_exec.specs.Form.{Exception, Memory, Own, Divide, Popped, Completion, carry, complete}
use Rattle.rz_exec.specs.Attempts.{PlainClear}
use Rattle.rz_exec.specs.Effect.{plain_effect}
use Rattle.rz_machine.specs.declared.way.Transfer.TheVariants as transfer
use Rattle.rz_machine.specs.Action.{call_effect, end_by}
use Rattle.rz_sys.specs.Answer.{Called, answer}
use Rattle.rz_machine.specs.State.{step, after, perform, perform_by, end_of, after_exception, after_effect, after_call, after_exit, end_with}
use Rattle.rz_machine.specs.Touches.{StepClear, InsnClear, WayClear}
use Rattle.rz_machine.specs.Added.{Layout}
use Rattle.rz_machine.specs.Keeps.{Same, AlikeEnds}
use Rattle.rz_machine.specs.Laws.Code.{step_code}
use Rattle.rz_sys.specs.Laws.Alike.{CalledAlike, answer_alike, world_after_alike}
use Rattle.rz_exec.specs.Laws.OneForm.{CompletionAlike, carry_alike, complete_alike}
use Rattle.rz_machine.specs.Simulates.{InsnAt, HasCode, Stand, Follows}
use Rattle.rz_machine.specs.Laws.Comes.{decodes_to, step_is, moved, jump_is, branch_is, count_is, halt_is, Comes, stay, one_more, weaker, jump_comes}
use Rattle.rz_machine.specs.Sequence.{mov_number, push_number}

-- from p a run comes to q: the two are one, or a jump stands there
pub data Onto (dec : Decoder) (m : Regions) (p q : ℕ) : Type 0 where
  Falls : p ≡ q → Onto dec m p q
  ByJump : (next : ℕ) → InsnAt dec m p (insn.Jmp q) next → Onto dec m p q

-- by no step or by one
onto : (dec : Decoder) (r : Range) (m : Regions) (p q : ℕ) → Onto dec m p q → (s t : Machine) → t.end ≡ None → t.cpu.rip ≡ p → HasCode m t.mem → Same r s t → Comes dec r s t 0 1 q
onto dec r m p q (Falls e) s t runs rip h same = weaker dec r s t 0 0 0 1 q (omega arith) (omega arith) (stay dec r s t q runs (rip ∙ e) same)
onto dec r m p q (ByJump next at) s t runs rip h same = weaker dec r s t 1 1 0 1 q (omega arith) (omega arith) (jump_comes dec r m p q next at s t runs rip h same)

-- RCX is set anew
rcx_again : (regs : List ℕ) (x y z w : ℕ) → set (set (set (set regs 0 x) 1 y) 11 z) 1 w ≡ set (set (set regs 0 x) 1 w) 11 z
rcx_again [] x y z w = refl
rcx_again (a ∷ []) x y z w = refl
rcx_again (a ∷ b ∷ regs) x y z w = refl

-- a number moved to a register
mov_is : (r v next : ℕ) (t : Machine) → v < 2 ^ 32 → perform (mov_number r v) next t ≡ record t { cpu = record t.cpu { regs = set t.cpu.regs r v; rip = next } }
unfolding carry plain_effect
mov_is r v next t low =
    let P : ℕ → Machine = λ u. record t { cpu = record t.cpu { regs = set t.cpu.regs r u; rip = next } } in
    let e : v % 2 ^ 32 ≡ v = mod-eq_of_lt low in
    ap P e

-- a number pushed
push_is : (n next : ℕ) (t : Machine) → perform (push_number n) next t ≡ after_effect (carry (call_effect None n t.cpu.regs t.cpu.flags) t.cpu.regs t.cpu.flags t.mem) next t
unfolding plain_effect
push_is n next t = refl

module _ (dec : Decoder) (lay : Layout) (place to : ℕ → ℕ) (bound : ℕ) (room : 3 ≤ bound) (xm wm : Regions) where
  -- the ends by an exception are alike where they are equal
  same_ends : (x : Exception) → AlikeEnds lay.code (Some (end_of x)) (Some (end_of x))
  same_ends (Memory bad) = refl
  same_ends (Own Divide) = refl
  same_ends (Own Popped) = refl

  -- both runs end
  ends_now : (s t t' : Machine) (why why' : End) → step dec t ≡ t' → s.end ≡ Some why → t'.end ≡ Some why' → AlikeEnds lay.code (Some why) (Some why') → Same lay.added s t' → Follows dec lay to bound s t
  unfolding after
  ends_now s t t' why why' e over over' alike same =
      record {
        goes = λ runs. absurd (let f : Some why ≡ None = sym over ∙ runs in cc);
        ends = λ w over2.
            let f : Some why ≡ Some w = sym over ∙ over2 in
            let g : why ≡ w = cc in
            let P : End → Type 0 = λ v. AlikeEnds lay.code (Some v) (Some why') in
            (1, omega arith, omega (arith, room), why', ap (λ u. u.end) e ∙ over', subst P g alike, subst (Same lay.added s) (sym e) same);
      }

  -- both runs go on
  goes_now : (s t : Machine) → s.end ≡ None → Comes dec lay.added s t 1 3 (to s.cpu.rip) → Follows dec lay to bound s t
  goes_now s t runs c =
      record {
        goes = λ r. (c.steps, omega (arith, c.enough), omega (arith, c.few, room), c.runs, c.there, c.same);
        ends = λ w over. absurd (let f : None ≡ Some w = sym runs ∙ over in cc);
      }

  -- after alike effects
  effect_follows : (n p : ℕ) (s t : Machine) (c d : Completion) → CompletionAlike lay.added c d → Stand lay place xm wm s t → step dec t ≡ after_effect d p t
      → HasCode wm (after_effect d p t).mem → Onto dec wm p (to n) → Follows dec lay to bound (after_effect c n s) t
  effect_follows n p s t c d alike st e code ahead =
      let P : Option Exception → Type 0 = λ o. step dec t ≡ after_exception o d p t in
      let Q : Option Exception → Type 0 = λ o. HasCode wm (after_exception o d p t).mem in
      go c.exception (subst P (sym alike.exception) e) (subst Q (sym alike.exception) code)
    where
      go : (o : Option Exception) → step dec t ≡ after_exception o d p t → HasCode wm (after_exception o d p t).mem → Follows dec lay to bound (after_exception o c n s) t
      go (Some x) e code =
          let s1 = after_exception (Some x) c n s in
          let t1 = after_exception (Some x) d p t in
          let same : Same lay.added s1 t1 = record { regs = alike.regs; flags = alike.flags; world = st.same.world; mem = alike.mem } in
          ends_now s1 t t1 (end_of x) (end_of x) e refl refl (same_ends x) same
      go None e code =
          let s1 = after_exception None c n s in
          let t1 = after_exception None d p t in
          let same : Same lay.added s1 t1 = record { regs = alike.regs; flags = alike.flags; world = st.same.world; mem = alike.mem } in
          let q = to n in
          let last = onto dec lay.added wm p q ahead s1 t1 st.new_runs refl code same in
          let all : Comes dec lay.added s1 t 1 2 q = one_more dec lay.added s1 t t1 0 1 q e last in
          goes_now s1 t st.old_runs (weaker dec lay.added s1 t 1 2 1 3 q (omega arith) (omega arith) all)

  -- a plain instruction as it is, whatever its effect
  pub plain_follows : (x : Insn) (a n p : ℕ) (s t : Machine) → way_of x ≡ Onward → InsnAt dec xm a x n → InsnAt dec wm (place a) x p → Onto dec wm p (to n)
      → PlainClear lay.added (plain_effect x s.cpu.regs s.cpu.flags) s.cpu.regs s.cpu.flags s.mem
      → s.cpu.rip ≡ a → Stand lay place xm wm s t → Follows dec lay to bound (step dec s) t
  plain_follows x a n p s t is old new ahead clear rip st =
      let there : t.cpu.rip ≡ place a = st.there ∙ ap place rip in
      let K : List ℕ → Flags → Completion = λ regs flags. complete (plain_effect x regs flags) regs flags t.mem in
      let c : Completion = complete (plain_effect x s.cpu.regs s.cpu.flags) s.cpu.regs s.cpu.flags s.mem in
      let d : Completion = K t.cpu.regs t.cpu.flags in
      let e : step dec t ≡ after_effect d p t = step_is dec wm (place a) x p new t st.new_runs there st.new_code ∙ ap (λ w. perform_by w x p t) is in
      let f : step dec s ≡ after_effect c n s = step_is dec xm a x n old s st.old_runs rip st.old_code ∙ ap (λ w. perform_by w x n s) is in
      let one : CompletionAlike lay.added c (K s.cpu.regs s.cpu.flags) =
      complete_alike lay.added (plain_effect x s.cpu.regs s.cpu.flags) s.cpu.regs s.cpu.flags s.mem t.mem clear st.same.mem in
      let alike : CompletionAlike lay.added c d = subst (CompletionAlike lay.added c) (ap₂ K st.same.regs st.same.flags) one in
      let C : Machine → Type 0 = λ u. HasCode wm u.mem in
      let code : HasCode wm (after_effect d p t).mem = subst C e (step_code wm dec t st.new_heap st.new_code) in
      let Q : Machine → Type 0 = λ u. Follows dec lay to bound u t in
      subst Q (sym f) (effect_follows n p s t c d alike st e code ahead)

  -- what the step's accesses say of the instruction that stands there
  pub insn_clear : (x : Insn) (w : Way) (a n : ℕ) (s : Machine) → way_of x ≡ w → (at : InsnAt dec xm a x n) → s.cpu.rip ≡ a → s.end ≡ None → HasCode xm s.mem → StepClear lay.added dec s
      → WayClear lay.added w x (wrap (s.cpu.rip + at.len)) s
  unfolding StepClear
  insn_clear x w a n s is at rip runs code clear =
      let P : Decoded → Type 0 = λ d. InsnClear lay.added d s in
      let W : Way → Type 0 = λ v. WayClear lay.added v x (wrap (s.cpu.rip + at.len)) s in
      subst W is (subst P (decodes_to dec xm a x n at s rip code) (clear runs))

  -- states that are the same but for RIP
  moved_same : (s t : Machine) (p q : ℕ) → Same lay.added s t → Same lay.added (moved p s) (moved q t)
  moved_same s t p q same = record { regs = same.regs; flags = same.flags; world = same.world; mem = same.mem }

  -- a jump becomes one to its label
  pub jump_follows : (x : Insn) (a b n p : ℕ) (s t : Machine) → way_of x ≡ Jumps b → InsnAt dec xm a x n → InsnAt dec wm (place a) (insn.Jmp (to b)) p → s.cpu.rip ≡ a → Stand lay place xm wm s t → Follows dec lay to bound (step dec s) t
  jump_follows x a b n p s t is old new rip st =
      let there : t.cpu.rip ≡ place a = st.there ∙ ap place rip in
      let s1 : Machine = moved b s in
      let f : step dec s ≡ s1 = step_is dec xm a x n old s st.old_runs rip st.old_code ∙ jump_is x b n s is in
      let Q : Machine → Type 0 = λ u. Follows dec lay to bound u t in
      let same : Same lay.added s1 t = record { regs = st.same.regs; flags = st.same.flags; world = st.same.world; mem = st.same.mem } in
      let c = jump_comes dec lay.added wm (place a) (to b) p new s1 t st.new_runs there st.new_code same in
      subst Q (sym f) (goes_now s1 t st.old_runs (weaker dec lay.added s1 t 1 1 1 3 (to b) (omega arith) (omega arith) c))

  -- a conditional jump becomes one to its label, and then the way to the next address
  pub branch_follows : (x : Insn) (c : Cond) (a b n p : ℕ) (s t : Machine) → way_of x ≡ Branches c b → InsnAt dec xm a x n → InsnAt dec wm (place a) (insn.Jcc c (to b)) p → Onto dec wm p (to n)
      → s.cpu.rip ≡ a → Stand lay place xm wm s t → Follows dec lay to bound (step dec s) t
  branch_follows x c a b n p s t is old new ahead rip st =
      let there : t.cpu.rip ≡ place a = st.there ∙ ap place rip in
      let v : Bool = holds c s.cpu.flags in
      let f : step dec s ≡ moved (if v then b else n) s = step_is dec xm a x n old s st.old_runs rip st.old_code ∙ branch_is x c b n s is in
      let e : step dec t ≡ moved (if v then to b else p) t =
      step_is dec wm (place a) (insn.Jcc c (to b)) p new t st.new_runs there st.new_code ∙ branch_is (insn.Jcc c (to b)) c (to b) p t refl
      ∙ ap (λ g. moved (if holds c g then to b else p) t) (sym st.same.flags) in
      let Q : Machine → Type 0 = λ u. Follows dec lay to bound u t in
      subst Q (sym f) (go v e)
    where
      go : (v : Bool) → step dec t ≡ moved (if v then to b else p) t → Follows dec lay to bound (moved (if v then b else n) s) t
      go true e =
          let s1 : Machine = moved b s in
          let t1 : Machine = moved (to b) t in
          let here = stay dec lay.added s1 t1 (to b) st.new_runs refl (moved_same s t b (to b) st.same) in
          let k = one_more dec lay.added s1 t t1 0 0 (to b) e here in
          goes_now s1 t st.old_runs (weaker dec lay.added s1 t 1 1 1 3 (to b) (omega arith) (omega arith) k)
      go false e =
          let s1 : Machine = moved n s in
          let t1 : Machine = moved p t in
          let last = onto dec lay.added wm p (to n) ahead s1 t1 st.new_runs refl st.new_code (moved_same s t n p st.same) in
          let k = one_more dec lay.added s1 t t1 0 1 (to n) e last in
          goes_now s1 t st.old_runs (weaker dec lay.added s1 t 1 2 1 3 (to n) (omega arith) (omega arith) k)

  -- a jump on RCX goes over a jump to the next address's label, and then the way to its target's
  pub count_follows : (x : Insn) (a b n p q r : ℕ) (s t : Machine) → way_of x ≡ BranchesOnRcx b → InsnAt dec xm a x n → InsnAt dec wm (place a) (insn.Jrcxz q) p → InsnAt dec wm p (insn.Jmp (to n)) r → Onto dec wm q (to b)
      → s.cpu.rip ≡ a → Stand lay place xm wm s t → Follows dec lay to bound (step dec s) t
  count_follows x a b n p q r s t is old new jump ahead rip st =
      let there : t.cpu.rip ≡ place a = st.there ∙ ap place rip in
      let v : Bool = get_or s.cpu.regs 1 0 == 0 in
      let f : step dec s ≡ moved (if v then b else n) s = step_is dec xm a x n old s st.old_runs rip st.old_code ∙ count_is x b n s is in
      let e : step dec t ≡ moved (if v then q else p) t =
      step_is dec wm (place a) (insn.Jrcxz q) p new t st.new_runs there st.new_code ∙ count_is (insn.Jrcxz q) q p t refl
      ∙ ap (λ g. moved (if get_or g 1 0 == 0 then q else p) t) (sym st.same.regs) in
      let Q : Machine → Type 0 = λ u. Follows dec lay to bound u t in
      subst Q (sym f) (go v e)
    where
      go : (v : Bool) → step dec t ≡ moved (if v then q else p) t → Follows dec lay to bound (moved (if v then b else n) s) t
      go true e =
          let s1 : Machine = moved b s in
          let t1 : Machine = moved q t in
          let last = onto dec lay.added wm q (to b) ahead s1 t1 st.new_runs refl st.new_code (moved_same s t b q st.same) in
          let k = one_more dec lay.added s1 t t1 0 1 (to b) e last in
          goes_now s1 t st.old_runs (weaker dec lay.added s1 t 1 2 1 3 (to b) (omega arith) (omega arith) k)
      go false e =
          let s1 : Machine = moved n s in
          let t1 : Machine = moved p t in
          let last = jump_comes dec lay.added wm p (to n) r jump s1 t1 st.new_runs refl st.new_code (moved_same s t n p st.same) in
          let k = one_more dec lay.added s1 t t1 1 1 (to n) e last in
          goes_now s1 t st.old_runs (weaker dec lay.added s1 t 2 2 1 3 (to n) (omega arith) (omega arith) k)

  -- the ends of an instruction that halts are alike, where the new one lies in the code part
  halts_alike : (how : Halt) (b c : ℕ) → IsInside lay.code c → AlikeEnds lay.code (Some (end_by how b)) (Some (end_by how c))
  halts_alike halt.Ud2 b c inside = inr inside
  halts_alike halt.Hlt b c inside = refl
  halts_alike halt.Int3 b c inside = refl

  -- what ends the run stays, and its address lies in the code part
  pub halt_follows : (x : Insn) (how : Halt) (a n p : ℕ) (s t : Machine) → way_of x ≡ Halts how → InsnAt dec xm a x n → InsnAt dec wm (place a) x p → IsInside lay.code (place a) → s.cpu.rip ≡ a → Stand lay place xm wm s t
      → Follows dec lay to bound (step dec s) t
  halt_follows x how a n p s t is old new inside rip st =
      let there : t.cpu.rip ≡ place a = st.there ∙ ap place rip in
      let old_end : End = end_by how s.cpu.rip in
      let new_end : End = end_by how t.cpu.rip in
      let s1 : Machine = end_with old_end s in
      let t1 : Machine = end_with new_end t in
      let f : step dec s ≡ s1 = step_is dec xm a x n old s st.old_runs rip st.old_code ∙ halt_is x how n s is in
      let e : step dec t ≡ t1 = step_is dec wm (place a) x p new t st.new_runs there st.new_code ∙ halt_is x how p t is in
      let Q : Machine → Type 0 = λ u. Follows dec lay to bound u t in
      let in_code : IsInside lay.code t.cpu.rip = subst (IsInside lay.code) (sym there) inside in
      let same : Same lay.added s1 t1 = record { regs = st.same.regs; flags = st.same.flags; world = st.same.world; mem = st.same.mem } in
      subst Q (sym f) (ends_now s1 t t1 old_end new_end e refl refl (halts_alike how s.cpu.rip t.cpu.rip in_code) same)

  -- after a call, which ends the run or goes on with RCX set to the old next address
  call_follows : (n p : ℕ) (s t : Machine) (c d : Called) (o : Option ℕ) → c.exit ≡ o → CalledAlike lay.added c d → Stand lay place xm wm s t → step dec t ≡ after_call d p t
      → (q : ℕ) → n < 2 ^ 32 → InsnAt dec wm p (mov_number 1 n) q → Onto dec wm q (to n)
      → Follows dec lay to bound (after_exit o c n s) t
  call_follows n p s t c d (Some status) exit alike st e q low mov ahead =
      let e2 : step dec t ≡ after_exit (Some status) d p t = e ∙ ap (λ o. after_exit o d p t) (sym alike.exit ∙ exit) in
      ends_now (after_exit (Some status) c n s) t (after_exit (Some status) d p t) (end.Exit status) (end.Exit status) e2 refl refl refl
      (record { regs = st.same.regs; flags = st.same.flags; world = world_after_alike lay.added s.cpu.regs t.cpu.regs s.world t.world c d st.same.regs st.same.world alike; mem = st.same.mem })
  call_follows n p s t c d None exit alike st e q low mov ahead =
      let s1 = after_exit None c n s in
      let t1 = after_exit None d p t in
      let e1 : step dec t ≡ t1 = e ∙ ap (λ o. after_exit o d p t) (sym alike.exit ∙ exit) in
      let C : Machine → Type 0 = λ u. HasCode wm u.mem in
      let code1 : HasCode wm t1.mem = subst C e1 (step_code wm dec t st.new_heap st.new_code) in
      let t2 : Machine = record t1 { cpu = record t1.cpu { regs = set t1.cpu.regs 1 n; rip = q } } in
      let e2 : step dec t1 ≡ t2 = step_is dec wm p (mov_number 1 n) q mov t1 st.new_runs refl code1 ∙ mov_is 1 n q t1 low in
      let code2 : HasCode wm t2.mem = code1 in
      let regs : s1.cpu.regs ≡ t2.cpu.regs =
      ap₂ (λ r f. set (set (set r 0 c.answer) 1 n) 11 (flags_word f)) st.same.regs st.same.flags
      ∙ ap (λ x. set (set (set t.cpu.regs 0 x) 1 n) 11 (flags_word t.cpu.flags)) alike.answer
      ∙ sym (rcx_again t.cpu.regs d.answer p (flags_word t.cpu.flags) n) in
      let same : Same lay.added s1 t2 = record { regs = regs; flags = st.same.flags; world = world_after_alike lay.added s.cpu.regs t.cpu.regs s.world t.world c d st.same.regs st.same.world alike; mem = alike.mem } in
      let there = to n in
      let last : Comes dec lay.added s1 t2 0 1 there = onto dec lay.added wm q there ahead s1 t2 st.new_runs refl code2 same in
      let all : Comes dec lay.added s1 t 2 3 there = one_more dec lay.added s1 t t1 1 2 there e1 (one_more dec lay.added s1 t1 t2 0 1 there e2 last) in
      goes_now s1 t st.old_runs (weaker dec lay.added s1 t 2 3 1 3 there (omega arith) (omega arith) all)

  -- a system call is made as it is, and RCX set to the old next address
  pub syscall_follows : (x : Insn) (a n p q : ℕ) (s t : Machine) → way_of x ≡ Calls → InsnAt dec xm a x n → n < 2 ^ 32 → InsnAt dec wm (place a) x p → InsnAt dec wm p (mov_number 1 n) q → Onto dec wm q (to n)
      → WayClear lay.added Calls x n s → s.cpu.rip ≡ a → Stand lay place xm wm s t → Follows dec lay to bound (step dec s) t
  syscall_follows x a n p q s t is old low new mov ahead clear rip st =
      let there : t.cpu.rip ≡ place a = st.there ∙ ap place rip in
      let c = answer s.cpu.regs s.mem s.world in
      let d = answer t.cpu.regs t.mem t.world in
      let f : step dec s ≡ after_call c n s = step_is dec xm a x n old s st.old_runs rip st.old_code ∙ ap (λ w. perform_by w x n s) is in
      let e : step dec t ≡ after_call d p t = step_is dec wm (place a) x p new t st.new_runs there st.new_code ∙ ap (λ w. perform_by w x p t) is in
      let alike : CalledAlike lay.added c d = answer_alike lay.added s.cpu.regs t.cpu.regs s.mem t.mem s.world t.world clear st.old_heap st.new_heap st.same.regs st.same.world st.same.mem in
      let Q : Machine → Type 0 = λ u. Follows dec lay to bound u t in
      subst Q (sym f) (call_follows n p s t c d c.exit refl alike st e q low mov ahead)

  -- a call pushes the old next address, and then goes on as a jump
  pub push_follows : (x : Insn) (target a n p : ℕ) (s t : Machine) → way_of x ≡ Transfers (transfer.Call target) → InsnAt dec xm a x n → InsnAt dec wm (place a) (push_number n) p → Onto dec wm p (to target)
      → WayClear lay.added (Transfers (transfer.Call target)) x n s → s.cpu.rip ≡ a → Stand lay place xm wm s t → Follows dec lay to bound (step dec s) t
  push_follows x target a n p s t is old new ahead clear rip st =
      let there : t.cpu.rip ≡ place a = st.there ∙ ap place rip in
      let K : List ℕ → Flags → Completion = λ regs flags. carry (call_effect None n regs flags) regs flags t.mem in
      let c : Completion = carry (call_effect None n s.cpu.regs s.cpu.flags) s.cpu.regs s.cpu.flags s.mem in
      let d : Completion = K t.cpu.regs t.cpu.flags in
      let e : step dec t ≡ after_effect d p t = step_is dec wm (place a) (push_number n) p new t st.new_runs there st.new_code ∙ push_is n p t in
      let f : step dec s ≡ after_effect c target s = step_is dec xm a x n old s st.old_runs rip st.old_code ∙ ap (λ w. perform_by w x n s) is in
      let one : CompletionAlike lay.added c (K s.cpu.regs s.cpu.flags) =
      carry_alike lay.added s.mem t.mem (call_effect None n s.cpu.regs s.cpu.flags) s.cpu.regs s.cpu.flags clear st.same.mem in
      let alike : CompletionAlike lay.added c d = subst (CompletionAlike lay.added c) (ap₂ K st.same.regs st.same.flags) one in
      let C : Machine → Type 0 = λ u. HasCode wm u.mem in
      let code : HasCode wm (after_effect d p t).mem = subst C e (step_code wm dec t st.new_heap st.new_code) in
      let Q : Machine → Type 0 = λ u. Follows dec lay to bound u t in
      subst Q (sym f) (effect_follows target p s t c d alike st e code ahead)
