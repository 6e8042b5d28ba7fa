-- Addresses and conditions in the lookup routine, and where steps lead.
use Rattle.std.proofs.Common.{◌≡◌, ℕ, suc, ◌+◌, ◌*◌, ◌^◌, ◌<◌, ◌≤◌, Bool, true, false, not, List, get_or, refl, ap, ◌∙◌, arith}
use Rattle.rz_num.specs.Signs.{differ}
use Rattle.rz_flags.specs.declared.Flags.{Flags}
use Rattle.rz_flags.specs.declared.Cond.TheVariants.{B, E, NE}
use Rattle.rz_flags.specs.Cond.{holds}
use Rattle.rz_isa.specs.Nodes.{Decoder}
use Rattle.rz_exec.specs.Operands.{address}
use Rattle.rz_machine.specs.declared.machine.Machine.{Machine}
use Rattle.rz_machine.specs.State.{step, after}
use Rattle.rz_lookup.specs.Routine.{based, paired}

-- ---- addresses

pub based_is : (regs : List ℕ) (r disp b : ℕ) → get_or regs r 0 ≡ b → b < 2 ^ 31 → disp < 2 ^ 31 → address regs (based r disp) ≡ b + disp
based_is regs r disp b e h k = omega (arith, e)

pub paired_is : (regs : List ℕ) (disp b h : ℕ) → get_or regs 4 0 ≡ b → get_or regs 0 0 ≡ h → b + 8 * h < 2 ^ 31 → disp < 2 ^ 31 → address regs (paired disp) ≡ b + 8 * h + disp
paired_is regs disp b h e f k l = omega (arith, e, f)

-- ---- conditions

left_alone : (b : Bool) → differ false b ≡ b
left_alone true = refl
left_alone false = refl

turned : (b : Bool) → differ true b ≡ not b
turned true = refl
turned false = refl

pub equal_is : (f : Flags) (b : Bool) → f.zf ≡ b → holds E f ≡ b
equal_is f b e = ap (differ false) e ∙ left_alone b

pub unequal_is : (f : Flags) (b : Bool) → f.zf ≡ b → holds NE f ≡ not b
unequal_is f b e = ap (differ true) e ∙ turned b

pub below_is : (f : Flags) (b : Bool) → f.cf ≡ b → holds B f ≡ b
below_is f b e = ap (differ false) e ∙ left_alone b

-- ---- where steps lead

pub record Leads (dec : Decoder) (t u : Machine) (most : ℕ) : Type 0 where
  pub steps : ℕ
  pub few : steps ≤ most
  pub is : after dec steps t ≡ u

module _ (dec : Decoder) where
  pub there : (t : Machine) → Leads dec t t 0
  unfolding after
  there t = record { steps = 0; few = omega arith; is = refl }

  pub first : (t t' u : Machine) (most : ℕ) → step dec t ≡ t' → Leads dec t' u most → Leads dec t u (suc most)
  unfolding after
  first t t' u most e l = record { steps = suc l.steps; few = let f = l.few in omega (arith, f); is = ap (after dec l.steps) e ∙ l.is }

  pub in_more : (t u : Machine) (most most' : ℕ) → most ≤ most' → Leads dec t u most → Leads dec t u most'
  in_more t u most most' le l = record { steps = l.steps; few = let f = l.few in omega (arith, f, le); is = l.is }
