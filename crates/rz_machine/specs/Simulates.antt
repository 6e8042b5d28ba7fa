-- Simulation: that items do what one instruction does, in all states.
pub use Rattle.rz_machine.specs.Standing.{HasCode, HasScratch}
use Rattle.std.specs.Prelude.{◌≡◌, ℕ, suc, ◌+◌, ◌<◌, ◌≤◌, ◌⊎◌, Bool, if◌then◌else◌, IsTrue, List, [], ◌∷◌, Some, None, IsSomeAnd}
use Rattle.rz_isa.specs.declared.decoding.Decoded.TheVariants as decoded
use Rattle.rz_isa.specs.declared.instruction.Insn.{Insn}
use Rattle.rz_isa.specs.declared.item_list.Item.{Item}
use Rattle.rz_isa.specs.declared.item_list.Item.TheVariants as item
use Rattle.rz_isa.specs.declared.item_list.Label.TheVariants as label
use Rattle.rz_isa.specs.Items.{Addresses, resolved}
use Rattle.rz_isa.specs.Insn.{kind_of}
use Rattle.rz_isa.specs.Nodes.{Decoder, is_site}
use Rattle.rz_image.specs.Memory.{Regions, IsInside, RangeStands, fetch, wrap}
use Rattle.rz_exec.specs.Registers.{AreRegs}
use Rattle.rz_sys.specs.Heap.{HasHeap}
use Rattle.rz_machine.specs.declared.machine.End.{End}
use Rattle.rz_machine.specs.declared.machine.Machine.{Machine}
use Rattle.rz_machine.specs.State.{step, after}
use Rattle.rz_machine.specs.Touches.{StepClear}
use Rattle.rz_machine.specs.Added.{Layout, Places}
use Rattle.rz_machine.specs.Keeps.{Same, AlikeEnds}
use Rattle.rz_machine.specs.Kept.{has_node}
use Rattle.rz_machine.specs.Lookup.{HasLookup}

-- ---- items in memory, in any spelling

-- the executable bytes at p spell x, and the address behind them is `next`
pub record InsnAt (dec : Decoder) (m : Regions) (p : ℕ) (x : Insn) (next : ℕ) : Type 0 where
  pub len : ℕ
  pub spelled : dec (fetch m p 15) p ≡ decoded.Insn x len
  pub ends : wrap (p + len) ≡ next

-- instructions of these lengths stand one after the other from p on
abbrev pub InsnsFrom : Decoder → Regions → ℕ → List (Insn × ℕ) → Type 0
InsnsFrom dec m p [] = Unit {0}
InsnsFrom dec m p (i ∷ rest) = InsnAt dec m p i.0 (p + i.1) × InsnsFrom dec m (p + i.1) rest

-- what labels name, where `own` are the places of the items of the same list
abbrev pub label_at : Layout → Places → (own : ℕ → ℕ) → Addresses
label_at lay places own (label.Place a) = Some (places.fragment a)
label_at lay places own (label.Stub a) = Some (lay.stub a)
label_at lay places own (label.Item k) = Some (own k)
label_at lay places own (label.Table a) = Some (places.table a)
label_at lay places own label.Routine = Some places.routine

abbrev pub ItemAt : Decoder → Regions → Addresses → ℕ → Item → ℕ → Type 0
ItemAt dec m at p i next = IsSomeAnd (resolved at i) (λ x. InsnAt dec m p x next)

-- a jump that always leads to an address
abbrev pub LeadsTo : Addresses → ℕ → Item → Type 0
LeadsTo at p (item.Jump None to) = at to ≡ Some p
LeadsTo at p i = ⊥

-- a last jump of several items may be missing, where its target is the address reached
abbrev pub MayBeMissing : Addresses → ℕ → ℕ → List Item → Type 0
MayBeMissing at k p (i ∷ []) = (0 < k) × LeadsTo at p i
MayBeMissing at k p items = ⊥

-- items stand one after the other from p on, the first of them the k-th of its list
abbrev pub ItemsFrom : Decoder → Regions → Addresses → (own : ℕ → ℕ) → ℕ → ℕ → List Item → Type 0
ItemsFrom dec m at own k p [] = own k ≡ p
ItemsFrom dec m at own k p (i ∷ rest) =
    (own k ≡ p) × (((next : ℕ) × ItemAt dec m at p i next × ItemsFrom dec m at own (suc k) next rest) ⊎ MayBeMissing at k p (i ∷ rest))

-- ---- states

-- the old run stands at an address and the new one at its place, in the same state; xm and wm are the memories of before
pub record Stand (lay : Layout) (place : ℕ → ℕ) (xm wm : Regions) (s t : Machine) : Type 0 where
  pub old_runs : s.end ≡ None
  pub new_runs : t.end ≡ None
  pub there : t.cpu.rip ≡ place s.cpu.rip
  pub same : Same lay.added s t
  pub regs : AreRegs s.cpu.regs
  pub old_code : HasCode xm s.mem
  pub new_code : HasCode wm t.mem
  pub added : RangeStands lay.added wm t.mem
  pub old_heap : HasHeap s.mem s.world
  pub new_heap : HasHeap t.mem t.world
  pub below : lay.added.high ≤ t.world.first_break

-- the old run's step led to s; one to `bound` steps of the new one from t lead to the same,
-- standing where the address reached leads
pub record Follows (dec : Decoder) (lay : Layout) (to : ℕ → ℕ) (bound : ℕ) (s t : Machine) : Type 0 where
  pub goes : s.end ≡ None
      → (m : ℕ) × (0 < m) × (m ≤ bound) × ((after dec m t).end ≡ None) × ((after dec m t).cpu.rip ≡ to s.cpu.rip) × Same lay.added s (after dec m t)
  pub ends : (why : End) → s.end ≡ Some why
      → (m : ℕ) × (0 < m) × (m ≤ bound) × (why' : End) × ((after dec m t).end ≡ Some why') × AlikeEnds lay.code (Some why) (Some why') × Same lay.added s (after dec m t)

-- ---- simulation

-- where the new run goes where the old one goes from a to b: to the fragment of b where that is kept, else to the stub of a
abbrev pub leads : (keeps : ℕ → Bool) → (place stub : ℕ → ℕ) → ℕ → ℕ → ℕ
leads keeps place stub a b = if keeps b then place b else stub a

-- the items do what the instruction y at a, before n, does, of whose successors these are kept: wherever they stand in the
-- code part, in whatever spelling, and whatever looks a site's value up in its table, from every state whose next step
-- touches nothing that is added, in one to `bound` steps
unfoldable pub Simulates : Decoder → (scratch bound : ℕ) → (targets : List ℕ) → (a n : ℕ) → Insn → List Item → Type 0
Simulates dec scratch bound targets a n y items =
    (lay : Layout) (places : Places) (own : ℕ → ℕ) (xm wm : Regions) → InsnAt dec xm a y n
    → ItemsFrom dec wm (label_at lay places own) own 0 (places.fragment a) items → IsInside lay.code (places.fragment a)
    → HasScratch scratch lay.added wm → (IsTrue (is_site (kind_of y)) → HasLookup dec scratch lay places targets a wm)
    → (s t : Machine) → s.cpu.rip ≡ a → Stand lay places.fragment xm wm s t → StepClear lay.added dec s
    → Follows dec lay (leads (has_node targets) places.fragment lay.stub a) bound (step dec s) t
