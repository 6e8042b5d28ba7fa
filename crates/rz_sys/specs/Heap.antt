-- The heap: the region that the call brk opens and closes by pages of 4096 bytes.
use Rattle.std.specs.Prelude.{◌≡◌, ℕ, zero, suc, ◌+◌, ◌-◌, ◌%◌, ◌≤◌, if◌then◌else◌, [], ◌∷◌, length, get_or}
use Rattle.rz_num.specs.Page.{page_up}
use Rattle.rz_image.specs.declared.region.Region.{Region}
use Rattle.rz_image.specs.Perm.{read_write}
use Rattle.rz_image.specs.Memory.{Regions, contains, reopened}
use Rattle.rz_sys.specs.declared.world.World.{World}

-- the most bytes that the heap has
abbrev pub heap_size : ℕ
heap_size = 16777216

-- how many bytes of the heap are open
abbrev pub opened_to : (first_break brk : ℕ) → ℕ
opened_to first_break brk = page_up brk - first_break

-- a region is the heap, from the first break on and open up to the page end of the break, with zeros past that
pub record IsHeap (first_break brk : ℕ) (r : Region) : Type 0 where
  pub base : r.base ≡ first_break
  pub size : length r.bytes ≡ heap_size
  pub opened : r.opened ≡ opened_to first_break brk
  pub perm : r.perm ≡ read_write
  pub zeros : (k : ℕ) → r.opened ≤ k → get_or r.bytes k 0 ≡ 0

-- the region of a number, from 0, is the heap; as regions ascend, those before it end at the first break or before
abbrev pub IsHeapAt : (first_break brk : ℕ) → Regions → ℕ → Type 0
IsHeapAt first_break brk [] i = ⊥
IsHeapAt first_break brk (r ∷ rs) zero = IsHeap first_break brk r
IsHeapAt first_break brk (r ∷ rs) (suc i) = (r.base + length r.bytes ≤ first_break) × IsHeapAt first_break brk rs i

-- the first break is a low page, the break is in the heap, and the region of its number is the heap
pub record HasHeap (m : Regions) (w : World) : Type 0 where
  pub page : w.first_break % 4096 ≡ 0
  pub low : w.first_break ≤ 0x70000000
  pub above : w.first_break ≤ w.brk
  pub below : w.brk ≤ w.first_break + heap_size
  pub heap : IsHeapAt w.first_break w.brk m w.heap

-- memory with the region that has an address open up to another place
unfoldable pub open_at : Regions → ℕ → ℕ → Regions
open_at [] at opened = []
open_at (r ∷ rs) at opened = if contains r at then reopened opened r ∷ rs else (r ∷ open_at rs at opened)
