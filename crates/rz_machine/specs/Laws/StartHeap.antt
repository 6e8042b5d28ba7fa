-- A run begins with the heap that its world says.
use Rattle.std.proofs.Common.{◌≡◌, ℕ, zero, suc, ◌+◌, ◌≤◌, [], ◌∷◌, ◌++◌, ◌%◌, length, get_or, refl, sym, ap, ◌∙◌, arith}
use Rattle.std.specs.List.{AllByRecursion}
use Rattle.rz_num.specs.Page.{page_up}
use Rattle.rz_image.specs.declared.region.Region.{Region}
use Rattle.rz_image.specs.Memory.{Regions, AscendFrom, zeros}
use Rattle.rz_image.specs.Laws.Zeros.{length-zeros}
use Rattle.rz_sys.specs.declared.input.Input.{Input}
use Rattle.rz_sys.specs.declared.world.World.{World}
use Rattle.rz_sys.specs.Heap.{heap_size, IsHeap, IsHeapAt, HasHeap}
use Rattle.rz_elf.specs.Elf.{Image}
use Rattle.rz_elf.specs.Loaded.{ElfFile, loaded, IsRead}
use Rattle.rz_elf.specs.Laws.Reading.{first_break_of}
use Rattle.rz_elf.specs.Laws.Loads.{ascend_read, low_break}
use Rattle.rz_machine.specs.Start.{start, heap_region, stack_region, HasHeapRoom}

zero_at : (n k : ℕ) → get_or (zeros n) k 0 ≡ 0
unfolding zeros
zero_at zero k = refl
zero_at (suc n) zero = refl
zero_at (suc n) (suc k) = zero_at n k

-- a closed region of zeros is a heap
closed_heap : (fb : ℕ) → fb % 4096 ≡ 0 → IsHeap fb fb (heap_region fb)
closed_heap fb page =
    record {
      base = refl;
      size = length-zeros heap_size;
      opened = omega (arith, page);
      perm = refl;
      zeros = λ k le. zero_at heap_size k;
    }

-- behind regions that end before it
heap_behind : (fb : ℕ) (loads rest : Regions) (r : Region) → IsHeap fb fb r → AllByRecursion (λ q. q.base + length q.bytes ≤ fb) loads → IsHeapAt fb fb (loads ++ r ∷ rest) (length loads)
heap_behind fb [] rest r h all = h
heap_behind fb (q ∷ qs) rest r h all = (all.0, heap_behind fb qs rest r h all.1)

-- a memory of the loads, then the heap, and then others has the heap of such a world
pub begun_heap : (x : Image) (m rest : Regions) (w : World) → HasHeapRoom x → m ≡ x.loads ++ heap_region x.first_break ∷ rest → w.first_break ≡ x.first_break → w.brk ≡ x.first_break → w.heap ≡ length x.loads → HasHeap m w
begun_heap x m rest w room mem first now number =
    let behind : IsHeapAt x.first_break x.first_break (x.loads ++ heap_region x.first_break ∷ rest) (length x.loads) =
    heap_behind x.first_break x.loads rest (heap_region x.first_break) (closed_heap x.first_break room.page) room.loads in
    let low = room.low in
    record {
      page = ap (λ n. n % 4096) first ∙ room.page;
      low = omega (arith, first, low);
      above = omega (arith, first, now);
      below = omega (arith, first, now);
      heap = rw (mem, first, now, number) behind;
    }

pub start_heap : (x : Image) (input : Input) → HasHeapRoom x → HasHeap (start x input).mem (start x input).world
start_heap x input room = begun_heap x (start x input).mem (stack_region input ∷ []) (start x input).world room refl refl refl refl

-- regions before another one end before it begins
ends_before : (m : Regions) (low : ℕ) (r : Region) (rest : Regions) → AscendFrom low (m ++ r ∷ rest) → (low ≤ r.base) × AllByRecursion (λ q. q.base + length q.bytes ≤ r.base) m
ends_before [] low r rest h = (h.0, tt)
ends_before (q ∷ qs) low r rest h =
    let more = ends_before qs (q.base + length q.bytes) r rest h.3 in
    let from = h.0 in
    (omega (arith, from, more.0), (more.0, more.1))

-- what is loaded of an accepted file leaves room for a heap
pub read_room : (elf : ElfFile) → IsRead elf → HasHeapRoom (loaded elf)
read_room elf is =
    let low = low_break elf is in
    let n = length-zeros heap_size in
    let after : AscendFrom elf.first_break (heap_region elf.first_break ∷ []) = (omega arith, omega (arith, low, n), omega arith, tt) in
    let ascend = ascend_read elf (heap_region elf.first_break ∷ []) is after in
    record { page = break_page; low = low; loads = (ends_before _ 0 (heap_region elf.first_break) [] ascend).1 }
  where
    whole_page : (n : ℕ) → page_up n % 4096 ≡ 0
    whole_page n = omega arith

    break_page : elf.first_break % 4096 ≡ 0
    break_page =
        ap (λ n. n % 4096) (ap (λ (y : ElfFile). y.first_break) is.read ∙ sym (first_break_of elf.bytes)) ∙ whole_page _
