-- Runs of neighbouring bytes that one region opens.
use Rattle.std.specs.Prelude.{◌≡◌, ℕ, ◌+◌, ◌-◌, ◌^◌, ◌<◌, ◌≤◌, Bool, true, false, if◌then◌else◌, List, [], length, take, drop, slice_index, slice_index_or}
use Rattle.rz_image.specs.declared.access.Access.{Access}
use Rattle.rz_image.specs.declared.access.Access.TheVariants.{Execute, Write, Read}
use Rattle.rz_image.specs.declared.perm.Perm.{Perm}
use Rattle.rz_image.specs.declared.region.Region.{Region}
use Rattle.rz_image.specs.Perm.{executes, writes, reads}
use Rattle.rz_image.specs.Memory.{Cell, Regions, contains, cell_at}

-- whether a permission allows an access
abbrev pub permits : Access → Perm → Bool
permits Execute p = executes p
permits Write p = writes p
permits Read p = reads p

-- whether a cell allows an access
abbrev pub allows : Access → Cell → Bool
allows Execute c = c.execute
allows Write c = c.write
allows Read c = c.read

-- the bytes from a place of a region on that are open to an access
abbrev pub run_in : Access → Region → ℕ → List ℕ
run_in access r place = if permits access r.perm then take (r.opened - place) (drop place r.bytes) else []

-- the region of a number has an address
pub record HasRegion (m : Regions) (i a : ℕ) : Type 0 where
  pub there : i < length m
  pub holds : (d : Region) → contains (slice_index_or m i d) a ≡ true

-- bytes that stand from an address on and allow an access; where there are none, the first byte doesn't
pub record IsRun (access : Access) (m : Regions) (a : ℕ) (bytes : List ℕ) : Type 0 where
  pub allowed : (k : ℕ) → k < length bytes → allows access (cell_at m (a + k)) ≡ true
  pub same : (k : ℕ) → k < length bytes → (cell_at m (a + k)).byte ≡ slice_index bytes k
  pub fits : a + length bytes ≤ 2 ^ 64
  pub none : length bytes ≡ 0 → allows access (cell_at m a) ≡ false

-- there are so many bytes that stand from an address on and allow an access, as a run
abbrev pub HasRun : Access → Regions → ℕ → ℕ → Type 0
HasRun access m a n = (bytes : List ℕ) × IsRun access m a bytes × (length bytes ≡ n)

-- the first bytes of others: one at least, where there is one
pub record IsFront (front whole : List ℕ) : Type 0 where
  pub same : front ≡ take (length front) whole
  pub some : length front ≡ 0 → length whole ≡ 0
