-- The lookup that sites share: a routine which leads a value to where a table leads it, and the table of each site.
use Rattle.std.specs.Prelude.{◌≡◌, ℕ, ◌+◌, ◌*◌, ◌^◌, ◌<◌, ◌≤◌, true, false, List, length, get_or, set, Some, None, Ok}
use Rattle.rz_num.specs.declared.width.Width.TheVariants.{W64}
use Rattle.rz_image.specs.Memory.{Regions, Range, Alike, RangeStands, cell_at}
use Rattle.rz_exec.specs.Form.{read_word}
use Rattle.rz_exec.specs.Registers.{AreRegs}
use Rattle.rz_isa.specs.Nodes.{Decoder}
use Rattle.rz_sys.specs.Heap.{HasHeap}
use Rattle.rz_machine.specs.declared.machine.Machine.{Machine}
use Rattle.rz_machine.specs.Added.{Layout, Places}
use Rattle.rz_machine.specs.Standing.{HasCode}
use Rattle.rz_machine.specs.State.{after}
use Rattle.rz_machine.specs.Tables.{IsTable, table_of, led, placed}

-- ---- a lookup in a run of a new file

-- bytes stand from an address on, and may be read
pub record HasBytes (m : Regions) (a : ℕ) (bytes : List ℕ) : Type 0 where
  pub same : (k : ℕ) → k < length bytes → (cell_at m (a + k)).byte ≡ get_or bytes k 0
  pub readable : (k : ℕ) → k < length bytes → (cell_at m (a + k)).read ≡ true

-- the word of 64 bits at an address may be read, and is a number
abbrev pub HasWord : Regions → (a v : ℕ) → Type 0
HasWord m a v = read_word m (Some (record { at = a; width = W64 })) ≡ Ok v

-- the part of the scratch page that the routine writes
abbrev pub working : ℕ → Range
working scratch = record { low = scratch + 24; high = scratch + 4096 }

-- the new run stands where a site leaves it: the value is in RCX, the original's RCX and the table's address are kept
pub record LooksUp (lay : Layout) (wm : Regions) (scratch table rcx : ℕ) (bytes : List ℕ) (t : Machine) : Type 0 where
  pub runs : t.end ≡ None
  pub regs : AreRegs t.cpu.regs
  pub code : HasCode wm t.mem
  pub added : RangeStands lay.added wm t.mem
  pub heap : HasHeap t.mem t.world
  pub below : lay.added.high ≤ t.world.first_break
  pub rcx_low : rcx < 2 ^ 64
  pub kept : HasWord t.mem scratch rcx
  pub named : HasWord t.mem (scratch + 16) table
  pub behind : scratch + 4096 ≤ table
  pub inside : table + length bytes ≤ lay.added.high
  pub stands : HasBytes t.mem table bytes

-- in one to `most` steps it comes to q: RCX is the original's, the other registers and the flags are as they were, and
-- memory is but for the part that the routine writes
pub record LookedUp (dec : Decoder) (lay : Layout) (wm : Regions) (scratch rcx most q : ℕ) (t : Machine) : Type 0 where
  pub steps : ℕ
  pub some : 0 < steps
  pub few : steps ≤ most
  pub runs : (after dec steps t).end ≡ None
  pub there : (after dec steps t).cpu.rip ≡ q
  pub regs : (after dec steps t).cpu.regs ≡ set t.cpu.regs 1 rcx
  pub flags : (after dec steps t).cpu.flags ≡ t.cpu.flags
  pub world : (after dec steps t).world ≡ t.world
  pub mem : Alike (working scratch) t.mem (after dec steps t).mem
  pub code : HasCode wm (after dec steps t).mem
  pub added : RangeStands lay.added wm (after dec steps t).mem
  pub heap : HasHeap (after dec steps t).mem t.world

-- the most steps for a table of at most 2^d pairs
abbrev pub lookup_steps : ℕ → ℕ
lookup_steps d = 22 + 7 * d

-- what stands at an address looks values up, in whatever table of at most 2^d pairs
abbrev pub IsLookup : Decoder → Layout → (wm : Regions) → (scratch at : ℕ) → Type 0
IsLookup dec lay wm scratch at =
    (table rcx stub d : ℕ) (pairs : List (ℕ × ℕ)) (t : Machine) → t.cpu.rip ≡ at → IsTable stub pairs → length pairs ≤ 2 ^ d
    → LooksUp lay wm scratch table rcx (table_of stub pairs) t
    → LookedUp dec lay wm scratch rcx (lookup_steps d) (led stub pairs (get_or t.cpu.regs 1 0)) t

-- ---- what a site has of it

-- these bytes stand at p behind the scratch page, may be read and may not be written
pub record FixedAt (scratch : ℕ) (r : Range) (m : Regions) (p : ℕ) (bytes : List ℕ) : Type 0 where
  pub behind : scratch + 4096 ≤ p
  pub inside : p + length bytes ≤ r.high
  pub stand : HasBytes m p bytes
  pub fixed : (k : ℕ) → k < length bytes → (cell_at m (p + k)).write ≡ false

-- a lookup stands at the routine's place, and the table of these targets at that of the site at a
pub record HasLookup (dec : Decoder) (scratch : ℕ) (lay : Layout) (places : Places) (targets : List ℕ) (a : ℕ) (m : Regions) : Type 0 where
  pub routine : IsLookup dec lay m scratch places.routine
  pub is_table : IsTable (lay.stub a) (placed places.fragment targets)
  pub table : FixedAt scratch lay.added m (places.table a) (table_of (lay.stub a) (placed places.fragment targets))
