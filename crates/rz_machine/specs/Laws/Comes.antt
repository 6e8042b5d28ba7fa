-- The new run comes to a place, by one instruction after the other.
use Rattle.std.proofs.Common.{◌≡◌, ℕ, suc, ◌+◌, ◌≤◌, if◌then◌else◌, ◌==◌, get_or, None, refl, sym, ap, ◌∙◌, subst, arith}
use Rattle.rz_flags.specs.declared.Cond.{Cond}
use Rattle.rz_flags.specs.Cond.{holds}
use Rattle.rz_isa.specs.declared.instruction.Insn.{Insn}
use Rattle.rz_isa.specs.declared.instruction.Insn.TheVariants as insn
use Rattle.rz_isa.specs.declared.decoding.Decoded.TheVariants as decoded
use Rattle.rz_machine.specs.declared.machine.Machine.{Machine}
use Rattle.rz_image.specs.Memory.{Regions, Range, fetch, wrap}
use Rattle.rz_isa.specs.Nodes.{Decoder}
use Rattle.rz_machine.specs.declared.way.Way.TheVariants.{Jumps, Branches, BranchesOnRcx, Halts}
use Rattle.rz_machine.specs.declared.way.Halt.{Halt}
use Rattle.rz_machine.specs.Way.{way_of}
use Rattle.rz_exec.specs.Form.{carry}
use Rattle.rz_machine.specs.Action.{end_by}
use Rattle.rz_machine.specs.State.{step, after, running, act, perform, perform_by, end_with, decoded_at}
use Rattle.rz_machine.specs.Keeps.{Same}
use Rattle.rz_machine.specs.Simulates.{InsnAt, HasCode}
use Rattle.rz_machine.specs.Laws.Code.{fetch_same}

-- what is decoded where an instruction stands
pub decodes_to : (dec : Decoder) (m : Regions) (p : ℕ) (x : Insn) (next : ℕ) (at : InsnAt dec m p x next) (t : Machine) → t.cpu.rip ≡ p → HasCode m t.mem → decoded_at dec t ≡ decoded.Insn x at.len
decodes_to dec m p x next at t r h =
    ap (λ a. dec (fetch t.mem a 15) a) r ∙ ap (λ bs. dec bs p) (sym (fetch_same m t.mem p 15 h.same)) ∙ at.spelled

-- the step where an instruction stands
pub step_is : (dec : Decoder) (m : Regions) (p : ℕ) (x : Insn) (next : ℕ) → InsnAt dec m p x next → (t : Machine) → t.end ≡ None → t.cpu.rip ≡ p → HasCode m t.mem → step dec t ≡ perform x next t
unfolding step
step_is dec m p x next at t runs r h =
    ap (λ o. running o dec t) runs ∙ ap (λ d. act d t) (decodes_to dec m p x next at t r h) ∙ ap (λ n. perform x n t) (ap (λ a. wrap (a + at.len)) r ∙ at.ends)

-- with RIP at another address
abbrev pub moved : ℕ → Machine → Machine
moved q t = record t { cpu = record t.cpu { rip = q } }

-- a jump moves RIP alone
pub jump_is : (x : Insn) (q next : ℕ) (t : Machine) → way_of x ≡ Jumps q → perform x next t ≡ moved q t
unfolding carry
jump_is x q next t is = ap (λ w. perform_by w x next t) is

-- a conditional one too
pub branch_is : (x : Insn) (c : Cond) (q next : ℕ) (t : Machine) → way_of x ≡ Branches c q → perform x next t ≡ moved (if holds c t.cpu.flags then q else next) t
unfolding carry
branch_is x c q next t is = ap (λ w. perform_by w x next t) is

-- one on RCX too
pub count_is : (x : Insn) (q next : ℕ) (t : Machine) → way_of x ≡ BranchesOnRcx q → perform x next t ≡ moved (if get_or t.cpu.regs 1 0 == 0 then q else next) t
unfolding carry
count_is x q next t is = ap (λ w. perform_by w x next t) is

-- what ends the run leaves the rest
pub halt_is : (x : Insn) (how : Halt) (next : ℕ) (t : Machine) → way_of x ≡ Halts how → perform x next t ≡ end_with (end_by how t.cpu.rip) t
halt_is x how next t is = ap (λ w. perform_by w x next t) is

-- the new run comes to a place, in a state the same as one of the old run's, after `least` to `most` steps
pub record Comes (dec : Decoder) (r : Range) (s t : Machine) (least most q : ℕ) : Type 0 where
  pub steps : ℕ
  pub enough : least ≤ steps
  pub few : steps ≤ most
  pub runs : (after dec steps t).end ≡ None
  pub there : (after dec steps t).cpu.rip ≡ q
  pub same : Same r s (after dec steps t)

-- it is there
pub stay : (dec : Decoder) (r : Range) (s t : Machine) (q : ℕ) → t.end ≡ None → t.cpu.rip ≡ q → Same r s t → Comes dec r s t 0 0 q
unfolding after
stay dec r s t q runs rip same = record { steps = 0; enough = omega arith; few = omega arith; runs = runs; there = rip; same = same }

-- one step more in front
pub one_more : (dec : Decoder) (r : Range) (s t t' : Machine) (least most q : ℕ) → step dec t ≡ t' → Comes dec r s t' least most q → Comes dec r s t (suc least) (suc most) q
unfolding after
one_more dec r s t t' least most q e c =
    let f : after dec (suc c.steps) t ≡ after dec c.steps t' = ap (after dec c.steps) e in
    record {
      steps = suc c.steps;
      enough = omega (arith, c.enough);
      few = omega (arith, c.few);
      runs = ap (λ u. u.end) f ∙ c.runs;
      there = ap (λ u. u.cpu.rip) f ∙ c.there;
      same = subst (Same r s) (sym f) c.same;
    }

-- with weaker bounds
pub weaker : (dec : Decoder) (r : Range) (s t : Machine) (least most least' most' q : ℕ) → least' ≤ least → most ≤ most' → Comes dec r s t least most q → Comes dec r s t least' most' q
weaker dec r s t least most least' most' q l m c = record { steps = c.steps; enough = omega (arith, c.enough); few = omega (arith, c.few); runs = c.runs; there = c.there; same = c.same }

-- the same but for RIP
pub same_moved : (r : Range) (s t : Machine) (p q : ℕ) → Same r s t → Same r (record s { cpu = record s.cpu { rip = p } }) (record t { cpu = record t.cpu { rip = q } })
same_moved r s t p q h = record { regs = h.regs; flags = h.flags; world = h.world; mem = h.mem }

-- by a jump
pub jump_comes : (dec : Decoder) (r : Range) (m : Regions) (p q next : ℕ) → InsnAt dec m p (insn.Jmp q) next → (s t : Machine) → t.end ≡ None → t.cpu.rip ≡ p → HasCode m t.mem → Same r s t → Comes dec r s t 1 1 q
jump_comes dec r m p q next at s t runs rip h same =
    let t' : Machine = moved q t in
    one_more dec r s t t' 0 0 q (step_is dec m p (insn.Jmp q) next at t runs rip h ∙ jump_is (insn.Jmp q) q next t refl) (stay dec r s t' q runs refl (record { regs = same.regs; flags = same.flags; world = same.world; mem = same.mem }))
