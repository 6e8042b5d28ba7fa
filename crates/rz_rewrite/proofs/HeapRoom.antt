-- What a rewritten file loads leaves room for a heap where the original's loads do.
use Rattle.std.proofs.Common.{ℕ, ◌+◌, ◌≤◌, [], ◌∷◌, length, map, arith}
use Rattle.std.specs.List.{AllByRecursion}
use Rattle.rz_image.specs.declared.region.Region.{Region}
use Rattle.rz_image.specs.Memory.{Regions}
use Rattle.rz_image.specs.Laws.Zeros.{length-zeros}
use Rattle.rz_elf.specs.Elf.{Image}
use Rattle.rz_elf.specs.AddedRange.{lowest, page_floor, scratch_size}
use Rattle.rz_elf.specs.WrittenFile.{Parts, added_regions, without_code, new_image}
use Rattle.rz_isa.specs.Nodes.{Decoder}
use Rattle.rz_machine.specs.Kept.{Kept}
use Rattle.rz_machine.specs.Added.{added}
use Rattle.rz_machine.specs.Start.{HasHeapRoom}
use Rattle.rz_rewrite.proofs.Images.{all_append}

abbrev EndsBelow : ℕ → Region → Type 0
EndsBelow top r = r.base + length r.bytes ≤ top

lowest_below : (top : ℕ) (m : Regions) → AllByRecursion (EndsBelow top) m → lowest m ≤ top
lowest_below top [] h = omega arith
lowest_below top (r ∷ []) h = let p = h.0 in omega (arith, p)
lowest_below top (r ∷ s ∷ rest) h = let p = h.0 in omega (arith, p)

-- the added range ends at the first break or before
pub stop_below : (dec : Decoder) (x : Image) (kept : Kept) → HasHeapRoom x → (added dec x kept).stop ≤ x.first_break
stop_below dec x kept room = floor (lowest x.loads) (lowest_below x.first_break x.loads room.loads)
  where
    floor : (n : ℕ) → n ≤ x.first_break → page_floor n ≤ x.first_break
    floor n le = omega arith

stripped_below : (top : ℕ) (m : Regions) → AllByRecursion (EndsBelow top) m → AllByRecursion (EndsBelow top) (map without_code m)
stripped_below top [] h = tt
stripped_below top (r ∷ rs) h = (h.0, stripped_below top rs h.1)

added_below : (top : ℕ) (p : Parts) → p.base + scratch_size + length p.tables + length p.code + length p.stubs ≤ top → AllByRecursion (EndsBelow top) (added_regions p)
added_below top p le =
    let n = length-zeros scratch_size in
    (omega (arith, n), (omega arith, (omega arith, (omega arith, tt))))

pub written_room : (x : Image) (p : Parts) (entry : ℕ) → HasHeapRoom x → p.base + scratch_size + length p.tables + length p.code + length p.stubs ≤ x.first_break → HasHeapRoom (new_image x p entry)
written_room x p entry room le =
    record {
      page = room.page;
      low = room.low;
      loads = all_append (EndsBelow x.first_break) (added_regions p) (map without_code x.loads) (added_below x.first_break p le) (stripped_below x.first_break x.loads room.loads);
    }
