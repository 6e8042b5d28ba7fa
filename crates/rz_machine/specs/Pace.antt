-- How many steps a new file takes for each step of the old one.
use Rattle.std.specs.Prelude.{◌≡◌, ℕ, zero, suc, ◌+◌, ◌<◌, ◌≤◌, ◌⊎◌, Some, None}
use Rattle.rz_machine.specs.declared.machine.End.{End}
use Rattle.rz_machine.specs.declared.machine.Machine.{Machine}
use Rattle.rz_image.specs.Memory.{Range}
use Rattle.rz_isa.specs.Nodes.{Decoder}
use Rattle.rz_machine.specs.State.{after}
use Rattle.rz_machine.specs.Touches.{RunClear}
use Rattle.rz_machine.specs.Added.{Layout}
use Rattle.rz_machine.specs.Keeps.{Same, IsCut, NoCut, AlikeEnds}
use Rattle.rz_machine.specs.Kept.{Edges}

-- m steps of the new run from w stand for n steps of the old one from x: one to `bound a` steps for a step at a
abbrev pub IsMoment : Decoder → Range → (ℕ → ℕ) → Machine → Machine → ℕ → ℕ → Type 0
IsMoment dec r bound x w zero m = m ≡ 0
IsMoment dec r bound x w (suc n) m =
    (k : ℕ) × IsMoment dec r bound x w n k × (k < m) × (m ≤ k + bound (after dec n x).cpu.rip) × Same r (after dec (suc n) x) (after dec m w)

-- each step of the old run is followed within its bound, up to the end or the cut
pub record Paced (dec : Decoder) (edges : Edges) (lay : Layout) (bound : ℕ → ℕ) (x w : Machine) : Type 0 where
  pub goes_on : (n : ℕ) → RunClear lay.added dec x n → NoCut dec edges x n → (after dec n x).end ≡ None
      → (m : ℕ) × IsMoment dec lay.added bound x w n m × ((after dec m w).end ≡ None) × Same lay.added (after dec n x) (after dec m w)
  -- the step that ends the old run
  pub ends : (j : ℕ) (why : End) → RunClear lay.added dec x (suc j) → NoCut dec edges x (suc j) → (after dec j x).end ≡ None → (after dec (suc j) x).end ≡ Some why
      → (m : ℕ) × (why' : End) × IsMoment dec lay.added bound x w (suc j) m × ((after dec m w).end ≡ Some why') × AlikeEnds lay.code (Some why) (Some why')
  -- the step that leaves the kept edges
  pub cut : (j : ℕ) → RunClear lay.added dec x (suc j) → IsCut dec edges x j
      → (m : ℕ) × IsMoment dec lay.added bound x w (suc j) m × ((after dec m w).end ≡ None) × ((after dec m w).cpu.rip ≡ lay.stub (after dec j x).cpu.rip)

-- ---- costs: the moments of the steps before any touch, up to the first end or cut

-- the old run has taken all of n steps, and neither ended nor been cut
pub record HasAll (dec : Decoder) (edges : Edges) (x w : Machine) (n k m : ℕ) : Type 0 where
  pub all : k ≡ n
  pub no_cut : NoCut dec edges x n
  pub old_runs : (after dec n x).end ≡ None
  pub new_runs : (after dec m w).end ≡ None

-- step k ended it, and the new run ended alike
pub record HasEnded (dec : Decoder) (lay : Layout) (x w : Machine) (k m : ℕ) : Type 0 where
  pub why : End
  pub new_why : End
  pub old_ends : (after dec k x).end ≡ Some why
  pub new_ends : (after dec m w).end ≡ Some new_why
  pub alike : AlikeEnds lay.code (Some why) (Some new_why)

-- step k was the cut, and the new run stands at the stub of its source
pub record HasCut (dec : Decoder) (edges : Edges) (lay : Layout) (x w : Machine) (k m : ℕ) : Type 0 where
  pub before : ℕ
  pub last : k ≡ suc before
  pub cut : IsCut dec edges x before
  pub new_runs : (after dec m w).end ≡ None
  pub there : (after dec m w).cpu.rip ≡ lay.stub (after dec before x).cpu.rip

-- of any n steps that touch nothing that is added, each up to the first end or cut has its moment
abbrev pub Costs : Decoder → Edges → Layout → (ℕ → ℕ) → Machine → Machine → Type 0
Costs dec edges lay bound x w =
    (n : ℕ) → RunClear lay.added dec x n → (k : ℕ) × (k ≤ n) × (m : ℕ) × IsMoment dec lay.added bound x w k m
    × (HasAll dec edges x w n k m ⊎ HasEnded dec lay x w k m ⊎ HasCut dec edges lay x w k m)
