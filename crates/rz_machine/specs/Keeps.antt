-- What it means that a new file keeps an old one's runs, up to the first edge that isn't kept.
use Rattle.std.specs.Prelude.{◌≡◌, ℕ, suc, ◌<◌, ◌≤◌, ◌⊎◌, false, List, Option, Some, None}
use Rattle.rz_machine.specs.declared.machine.End.{End}
use Rattle.rz_machine.specs.declared.machine.End.TheVariants as end
use Rattle.rz_machine.specs.declared.machine.Machine.{Machine}
use Rattle.rz_sys.specs.declared.input.Input.{Input}
use Rattle.rz_image.specs.Memory.{Range, IsInside, Alike}
use Rattle.rz_sys.specs.World.{SameWorld}
use Rattle.rz_isa.specs.Nodes.{Decoder}
use Rattle.rz_machine.specs.Kept.{Edges, Kept, has_edge}
use Rattle.rz_elf.specs.Elf.{image_of}
use Rattle.rz_machine.specs.State.{step, after}
use Rattle.rz_sys.specs.Input.{IsValid}
use Rattle.rz_machine.specs.Start.{start}
use Rattle.rz_machine.specs.Touches.{RunClear}
use Rattle.rz_machine.specs.Added.{Layout, layout_of}

-- equal registers, flags, input, replies, events and breaks, and alike memory outside the range;
-- RIP, the permission to execute and the number of the heap's region are aside
pub record Same (r : Range) (s t : Machine) : Type 0 where
  pub regs : s.cpu.regs ≡ t.cpu.regs
  pub flags : s.cpu.flags ≡ t.cpu.flags
  pub world : SameWorld s.world t.world
  pub mem : Alike r s.mem t.mem

-- the next step is that of an instruction, doesn't end the run, and takes an edge that isn't kept
pub record Leaves (dec : Decoder) (edges : Edges) (s : Machine) : Type 0 where
  pub runs : (step dec s).end ≡ None
  pub left : has_edge edges s.cpu.rip (step dec s).cpu.rip ≡ false

-- step j + 1 is the cut: the first that leaves the kept edges
pub record IsCut (dec : Decoder) (edges : Edges) (s : Machine) (j : ℕ) : Type 0 where
  pub leaves : Leaves dec edges (after dec j s)
  pub first : (i : ℕ) → i < j → Leaves dec edges (after dec i s) → ⊥

-- none of the first n steps is the cut
abbrev pub NoCut : Decoder → Edges → Machine → ℕ → Type 0
NoCut dec edges s n = (j : ℕ) → j < n → IsCut dec edges s j → ⊥

-- equal ends; or both Illegal, and the new one's address in the code part
abbrev pub AlikeEnds : Range → Option End → Option End → Type 0
AlikeEnds code (Some (end.Illegal a)) (Some (end.Illegal b)) = (a ≡ b) ⊎ IsInside code b
AlikeEnds code e f = e ≡ f

-- the old run leaves the kept edges by its next step, and the new one stands at the stub of the instruction that it leaves:
-- its own next step ends it there
abbrev pub StopsAtStub : Decoder → Layout → (s t : Machine) → Type 0
StopsAtStub dec lay s t = (step dec t).end ≡ Some (end.Illegal (lay.stub s.cpu.rip))

-- the new file's run from w keeps the old file's run from x
pub record KeepsRun (dec : Decoder) (edges : Edges) (lay : Layout) (x w : Machine) : Type 0 where
  -- before the cut and the end, the new run comes to the same state, with no fewer steps
  pub goes_on : (n : ℕ) → RunClear lay.added dec x n → NoCut dec edges x n → (after dec n x).end ≡ None
      → (m : ℕ) × (n ≤ m) × ((after dec m w).end ≡ None) × Same lay.added (after dec n x) (after dec m w)
  -- where the old run ended, the new one ends alike
  pub ends : (n : ℕ) (why : End) → RunClear lay.added dec x n → NoCut dec edges x n → (after dec n x).end ≡ Some why
      → (m : ℕ) × (why' : End) × ((after dec m w).end ≡ Some why') × AlikeEnds lay.code (Some why) (Some why') × Same lay.added (after dec n x) (after dec m w)
  -- at the cut, the new run comes to the stub of the cut's source, and ends there at its next step
  pub cut : (j : ℕ) → RunClear lay.added dec x (suc j) → IsCut dec edges x j
      → (m : ℕ) × (j < m) × ((after dec m w).end ≡ None) × Same lay.added (after dec (suc j) x) (after dec m w)
      × ((after dec m w).cpu.rip ≡ lay.stub (after dec j x).cpu.rip)
      × StopsAtStub dec lay (after dec j x) (after dec m w)

-- the file w keeps each run of the file x, for the kept nodes and edges
abbrev pub Keeps : Decoder → List ℕ → List ℕ → Kept → Type 0
Keeps dec x w kept =
    (input : Input) → IsValid input → KeepsRun dec kept.edges (layout_of dec (image_of x) kept) (start (image_of x) input) (start (image_of w) input)
