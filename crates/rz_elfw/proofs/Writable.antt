-- An original and the parts that it is written with, and what their conditions are in numbers.
use Rattle.std.proofs.Common.{◌≡◌, ℕ, ◌+◌, ◌<◌, ◌≤◌, Bool, true, false, if◌then◌else◌, nat_lt, List, [], ◌∷◌, length, map, Option, Some, None, refl, sym, subst, arith}
use Rattle.std.specs.Prelude.{filter}
use Rattle.std.specs.List.{AllByRecursion}
use Rattle.std.proofs.lemmas.Bool.Decides.{nat_tests}
use Rattle.rz_num.specs.Page.{page_up}
use Rattle.rz_elf.specs.declared.room.Extent.{Extent}
use Rattle.rz_elf.specs.declared.room.Room.{Room}
use Rattle.rz_elf.specs.declared.segment.Segment.{Segment}
use Rattle.rz_elf.specs.declared.placed.Placed.{Placed}
use Rattle.rz_elf.specs.Elf.{fault_of, load_region, loads, image_of, load_conditions, placed, file_header}
use Rattle.rz_elf.specs.Loaded.{is_load_header}
use Rattle.rz_elf.specs.AddedRange.{lowest, page_floor}
use Rattle.rz_elf.specs.WrittenFile.{Parts}
use Rattle.rz_elf.specs.Room.{extent_of, no_room, parts_end, parts_size, ArePages, IsInCode}
use Rattle.rz_elf.specs.Laws.Conditions.{none_holds}
use Rattle.rz_elf.specs.Laws.HeaderList.{loads_placed}
use Rattle.rz_elf.specs.Laws.Reading.{accepted_loads, loads_faultless}
use Rattle.rz_elf.specs.Laws.Sound.{IsSoundLoad}
use Rattle.rz_elfw.proofs.HeaderBytes.{AreBytes}

-- what a file is written for
pub record IsWritable (x : List ℕ) (p : Parts) (entry : ℕ) : Type 0 where
  pub accepted : fault_of x ≡ None
  pub bytes : AreBytes x
  pub pages : ArePages p
  pub below : parts_end p ≡ (extent_of x).floor
  pub inside : IsInCode p entry
  pub room : no_room (extent_of x) (parts_size p) ≡ None

-- there is room: the four bounds
pub record HasRoom (e : Extent) (size : ℕ) : Type 0 where
  pub low : 0x10000 + 4096 + size ≤ e.floor
  pub headers : 4 + e.headers ≤ 64
  pub bytes : 4096 + page_up e.bytes + size ≤ 67108864
  pub memory : e.memory + 4096 + size ≤ 268435456

passed : (b : Bool) (r : Room) (rest : Option Room) → (if b then Some r else rest) ≡ None → (b ≡ false) × (rest ≡ None)
passed true r rest h = absurd (cc)
passed false r rest h = (refl, h)

not_less : (a b : ℕ) → nat_lt a b ≡ false → b ≤ a
not_less a b h = grind (arith, nat_tests, h)

pub has_room : (e : Extent) (size : ℕ) → no_room e size ≡ None → HasRoom e size
has_room e size h =
    let a = passed _ _ _ h in
    let b = passed _ _ _ a.1 in
    let c = passed _ _ _ b.1 in
    let d = passed _ _ _ c.1 in
    record {
      low = not_less e.floor (0x10000 + 4096 + size) a.0;
      headers = not_less 64 (4 + e.headers) b.0;
      bytes = not_less 67108864 (4096 + page_up e.bytes + size) c.0;
      memory = not_less 268435456 (e.memory + 4096 + size) d.0;
    }

-- no load begins below the lowest
begin_above : (x : List ℕ) (low : ℕ) (segs : List Segment) → low ≤ lowest (map (load_region x) segs) → AllByRecursion (λ s. low ≤ s.vaddr) segs
begin_above x low [] h = tt
begin_above x low (s ∷ []) h = (h, tt)
begin_above x low (s ∷ t ∷ rest) h = (omega arith, begin_above x low (t ∷ rest) (omega arith))

floor_above : (low : ℕ) (segs : List Segment) → AllByRecursion (λ s. low ≤ s.vaddr) segs → AllByRecursion (λ s. page_floor low ≤ page_floor s.vaddr) segs
floor_above low [] h = tt
floor_above low (s ∷ segs) h = let a = h.0 in (omega arith, floor_above low segs h.1)

-- the loads of an accepted file, in numbers
pub record IsLoadOf (len : ℕ) (s : Segment) : Type 0 where
  pub sized : 0 < s.memsz
  pub readable : 4 ≤ s.flags
  pub harmless : s.flags ≤ 6
  pub small : s.filesz ≤ s.memsz
  pub stored : s.offset + s.filesz ≤ len
  pub low : 0x10000 ≤ s.vaddr
  pub high : s.vaddr + s.memsz ≤ 0x70000000

of_placed : (len : ℕ) (ps : List Placed) → AllByRecursion (IsSoundLoad len) ps → AllByRecursion (IsLoadOf len) (map (λ (p : Placed). p.segment) ps)
of_placed len [] h = tt
of_placed len (p ∷ ps) h =
    let s = h.0 in
    (record { sized = s.sized; readable = s.readable; harmless = s.harmless; small = s.small; stored = s.stored; low = s.low; high = s.high }, of_placed len ps h.1)

pub loads_of : (x : List ℕ) → fault_of x ≡ None → AllByRecursion (IsLoadOf (length x)) (loads x)
loads_of x accepted = subst (AllByRecursion (IsLoadOf (length x))) (loads_placed x) (of_placed (length x) (filter is_load_header (placed x)) (accepted_loads x accepted))

-- there is a load
pub some_load : (x : List ℕ) → fault_of x ≡ None → 0 < length (loads x)
some_load x accepted =
    let t = (none_holds (load_conditions (file_header x).entry (loads x)) (loads_faultless x accepted)).1.0 in
    grind (arith, nat_tests, t)

pub lowest_of : (x : List ℕ) → lowest (image_of x).loads ≡ lowest (map (load_region x) (loads x))
unfolding image_of
lowest_of x = refl

-- the lowest of low loads is low
pub lowest_low : (x : List ℕ) (len : ℕ) (segs : List Segment) → AllByRecursion (IsLoadOf len) segs → lowest (map (load_region x) segs) ≤ 0x70000000
lowest_low x len [] h = omega arith
lowest_low x len (s ∷ []) h = let a = h.0.high in omega (arith, a)
lowest_low x len (s ∷ t ∷ rest) h = let a = h.0.high in omega (arith, a)

pub floor_low : (x : List ℕ) → fault_of x ≡ None → (extent_of x).floor ≤ 0x70000000
floor_low x accepted =
    let e = lowest_of x in
    let low = lowest_low x (length x) (loads x) (loads_of x accepted) in
    let at : lowest (image_of x).loads ≤ 0x70000000 = omega arith in
    omega (arith, at)

module _ (x : List ℕ) (p : Parts) (entry : ℕ) (is : IsWritable x p entry) where
  pub room : HasRoom (extent_of x) (parts_size p)
  room = has_room (extent_of x) (parts_size p) is.room

  -- the parts end below each load's page
  pub loads_above : AllByRecursion (λ s. parts_end p ≤ page_floor s.vaddr) (loads x)
  loads_above =
      let low : ℕ = lowest (image_of x).loads in
      let h : low ≤ lowest (map (load_region x) (loads x)) = let e = lowest_of x in omega arith in
      subst (λ n. AllByRecursion (λ s. n ≤ page_floor s.vaddr) (loads x)) (sym is.below) (floor_above low (loads x) (begin_above x low (loads x) h))

  pub stop_low : parts_end p ≤ 0x70000000
  stop_low = let e = is.below in let h = floor_low x is.accepted in omega arith
