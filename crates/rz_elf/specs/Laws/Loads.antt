-- What the loads of an accepted file are as regions.
use Rattle.std.proofs.Common.{◌≡◌, ℕ, zero, suc, ◌+◌, ◌-◌, ◌<◌, ◌≤◌, Bool, true, false, ◌&&◌, if◌then◌else◌, nat_lt, List, [], ◌∷◌, ◌++◌, length, get_or, take, drop, map, filter, Option, Some, None, refl, sym, ap, ap₂, ◌∙◌, subst, arith, length-append, length-drop, lt-ltb, append-nil}
use Rattle.std.specs.List.{AllByRecursion}
use Rattle.std.proofs.lemmas.List.{length-take-le, get_or-append_right}
use Rattle.std.proofs.lemmas.Bool.Decides.{nat_tests}
use Rattle.rz_num.specs.Page.{page_up}
use Rattle.rz_image.specs.Perm.{executes}
use Rattle.rz_image.specs.Memory.{Regions, RegionsFit, AscendFrom, Ascend, zeros, contains, cell_in, code_of}
use Rattle.rz_image.specs.Laws.Puts.{within}
use Rattle.rz_image.specs.Laws.Zeros.{length-zeros}
use Rattle.rz_elf.specs.declared.elf.Load.{Load}
use Rattle.rz_elf.specs.Elf.{Segment, Placed, segments, is_load, loads, placed_from, placed, against, isnt_above, shares_page, highest_end, image_of}
use Rattle.rz_elf.specs.Loaded.{ElfFile, is_load_header, load_of, elf_of, loaded_region, loaded, IsRead, IsLoad, IsLoadable, IsLow}
use Rattle.rz_elf.specs.Laws.HeaderList.{loads_placed}
use Rattle.rz_elf.specs.Laws.Reading.{headers_faultless, accepted_loads, first_break_of, loaded-elf_of}
use Rattle.rz_elf.specs.Laws.Sound.{IsSound, IsSoundLoad, sound, sound_load, low_loads, begins_past}

-- each of the loads is one
pub load_at : (P : Load → Type 0) (ls : List Load) (i : ℕ) (d : Load) → AllByRecursion P ls → i < length ls → P (get_or ls i d)
load_at P [] i d all h = absurd (omega arith)
load_at P (l ∷ ls) zero d all h = all.0
load_at P (l ∷ ls) (suc i) d all h = load_at P ls i d all.1 (omega arith)

pub length-loaded : (bytes : List ℕ) (l : Load) → IsLoad (length bytes) l → length (loaded_region bytes l).bytes ≡ l.size
length-loaded bytes l is =
    let inside = is.inside in
    let larger = is.larger in
    let a = length-append (take l.file_size (drop l.file_at bytes)) (zeros (l.size - l.file_size)) in
    let b = length-take-le l.file_size (drop l.file_at bytes) (omega (arith, length-drop l.file_at bytes)) in
    let c = length-zeros (l.size - l.file_size) in
    omega arith

pub loads_fit : (bytes : List ℕ) (ls : List Load) (rest : Regions) → AllByRecursion (IsLoad (length bytes)) ls → RegionsFit rest → RegionsFit (map (loaded_region bytes) ls ++ rest)
loads_fit bytes [] rest all fit = fit
loads_fit bytes (l ∷ ls) rest all fit =
    let e = length-loaded bytes l all.0 in
    let low = all.0.low in
    (omega arith, loads_fit bytes ls rest all.1 fit)

-- the addresses of a load
pub has_place : (bytes : List ℕ) (l : Load) (a : ℕ) → IsLoad (length bytes) l → l.at ≤ a → nat_lt (a - l.at) l.size ≡ contains (loaded_region bytes l) a
has_place bytes l a is le = let e = length-loaded bytes l is in rw e (grind (arith, nat_tests))

pub place_in : (bytes : List ℕ) (l : Load) (a : ℕ) → IsLoad (length bytes) l → contains (loaded_region bytes l) a ≡ true → a - l.at < l.size
place_in bytes l a is h =
    let e = length-loaded bytes l is in
    let both : (l.at ≤ a) × (a < l.at + length (loaded_region bytes l).bytes) = within (loaded_region bytes l) a h in
    omega (arith, e, both.0, both.1)

zero_at : (n k : ℕ) → get_or (zeros n) k 0 ≡ 0
unfolding zeros
zero_at zero k = refl
zero_at (suc n) zero = refl
zero_at (suc n) (suc k) = zero_at n k

-- past the bytes of the file stand zeros
pub zero_past : (bytes : List ℕ) (l : Load) (k : ℕ) → IsLoad (length bytes) l → l.file_size ≤ k → get_or (loaded_region bytes l).bytes k 0 ≡ 0
zero_past bytes l k is le =
    let inside = is.inside in
    let n = length-take-le l.file_size (drop l.file_at bytes) (omega (arith, inside, length-drop l.file_at bytes)) in
    get_or-append_right (take l.file_size (drop l.file_at bytes)) (zeros (l.size - l.file_size)) l.file_size k 0 n le ∙ zero_at (l.size - l.file_size) (k - l.file_size)

pub zero_code : (bytes : List ℕ) (l : Load) (k : ℕ) → IsLoad (length bytes) l → executes l.perm ≡ true → l.file_size ≤ k → k < l.size → Some 0 ≡ code_of (cell_in (loaded_region bytes l) k)
zero_code bytes l k is x le lt =
    let opened : (nat_lt k l.size && executes l.perm) ≡ true = ap₂ ◌&&◌ (lt-ltb k l.size lt) x in
    sym (ap (λ b. if b then Some (get_or (loaded_region bytes l).bytes k 0) else None) opened ∙ ap Some (zero_past bytes l k is le))

-- a sound load is one
all_loads : (len : ℕ) (ps : List Placed) → AllByRecursion (IsSoundLoad len) ps → AllByRecursion (IsLoad len) (map load_of ps)
all_loads len [] h = tt
all_loads len (p ∷ ps) h = let high = h.0.high in (record { inside = h.0.stored; larger = h.0.small; low = omega arith }, all_loads len ps h.1)

highest_low : (ps : List Placed) → AllByRecursion IsLow ps → highest_end (map (λ (p : Placed). p.segment) ps) ≤ 0x70000000
highest_low [] h = omega arith
highest_low (p ∷ ps) h = let a = h.0 in let b = highest_low ps h.1 in omega (arith, a, b)

-- what is read of an accepted file can be loaded
pub loadable : (elf : ElfFile) → IsRead elf → IsLoadable elf
loadable elf is = subst IsLoadable (sym is.read) of_bytes
  where
    x : List ℕ
    x = elf.bytes

    of_bytes : IsLoadable (elf_of elf.bytes)
    of_bytes =
        let ls = accepted_loads elf.bytes is.accepted in
        let low = highest_low (filter is_load_header (placed elf.bytes)) (low_loads (length elf.bytes) _ ls) in
        let e = first_break_of elf.bytes in
        record { loads = all_loads (length elf.bytes) (filter is_load_header (placed elf.bytes)) ls; heap = omega (arith, low, e) }

-- the first break of an accepted file is low
pub low_break : (elf : ElfFile) → IsRead elf → elf.first_break ≤ 0x70000000
low_break elf is =
    let ps = filter is_load_header (placed elf.bytes) in
    let low = highest_low ps (low_loads (length elf.bytes) ps (accepted_loads elf.bytes is.accepted)) in
    let e : elf.first_break ≡ page_up (highest_end (map (λ (p : Placed). p.segment) ps)) = ap (λ (y : ElfFile). y.first_break) is.read ∙ sym (first_break_of elf.bytes) in
    omega (arith, low, e)

-- what it loads is the image of its bytes
pub loaded_image : (elf : ElfFile) → IsRead elf → loaded elf ≡ image_of elf.bytes
loaded_image elf is = ap loaded is.read ∙ loaded-elf_of elf.bytes

-- regions that ascend from an address on ascend from a lower one
ascend_lower : (m : Regions) (low high : ℕ) → low ≤ high → AscendFrom high m → AscendFrom low m
ascend_lower [] low high le h = tt
ascend_lower (r ∷ rs) low high le h = let above = h.0 in (omega arith, h.1, h.2, h.3)

-- an address from which loads past a load ascend
abbrev IsEndOf : Option Segment → ℕ → Type 0
IsEndOf None low = low ≡ 0
IsEndOf (Some b) low = (low ≡ b.vaddr + b.memsz) × (0 < b.memsz)

begins_from : (p : Placed) (low : ℕ) → IsEndOf p.before low → is_load p.segment ≡ true → 0 < p.segment.memsz → against isnt_above p ≡ false → against shares_page p ≡ false → low ≤ p.segment.vaddr
begins_from p low end load some above apart = go p.before p.segment end load some above apart
  where
    go : (o : Option Segment) (s : Segment) → IsEndOf o low → is_load s ≡ true → 0 < s.memsz → against isnt_above (record { index = p.index; before = o; segment = s }) ≡ false → against shares_page (record { index = p.index; before = o; segment = s }) ≡ false → low ≤ s.vaddr
    go None s end load some above apart = omega (arith, end)
    go (Some b) s end load some above apart =
        let up : isnt_above b s ≡ false = ap (λ t. t && isnt_above b s) (sym load) ∙ above in
        let no_page : shares_page b s ≡ false = ap (λ t. t && shares_page b s) (sym load) ∙ apart in
        let past = begins_past b s end.1 some up no_page in
        omega (arith, end.0, past)

-- the loads of sound headers ascend, and so does what begins past them
ascend_headers : (x : List ℕ) (top : ℕ) (rest : Regions) (i : ℕ) (before : Option Segment) (segs : List Segment) (low : ℕ) → AscendFrom top rest → low ≤ top → highest_end (filter is_load segs) ≤ top → IsEndOf before low → AllByRecursion (IsSound (length x)) (placed_from i before segs) → AscendFrom low (map (loaded_region x) (map load_of (filter is_load_header (placed_from i before segs))) ++ rest)
ascend_headers x top rest i before [] low after le high end h = ascend_lower rest low top le after
ascend_headers x top rest i before (s ∷ segs) low after le high end h =
    go (is_load s) refl high h.1 (λ o low le high end hs. ascend_headers x top rest (suc i) o segs low after le high end hs)
  where
    Later : Option Segment → ℕ → Type 0
    Later o low =
        low ≤ top → highest_end (filter is_load segs) ≤ top → IsEndOf o low → AllByRecursion (IsSound (length x)) (placed_from (suc i) o segs) → AscendFrom low (map (loaded_region x) (map load_of (filter is_load_header (placed_from (suc i) o segs))) ++ rest)

    go : (b : Bool) → is_load s ≡ b → highest_end (if b then s ∷ filter is_load segs else filter is_load segs) ≤ top → AllByRecursion (IsSound (length x)) (placed_from (suc i) (if b then Some s else before) segs) → ((o : Option Segment) (low : ℕ) → Later o low)
        → AscendFrom low (map (loaded_region x) (map load_of (if b then record { index = i; before = before; segment = s } ∷ filter is_load_header (placed_from (suc i) (if b then Some s else before) segs) else filter is_load_header (placed_from (suc i) (if b then Some s else before) segs))) ++ rest)
    go true e high hs later =
        let q : Placed = record { index = i; before = before; segment = s } in
        let l = sound_load (length x) q e h.0 in
        let is : IsLoad (length x) (load_of q) = let up = l.high in record { inside = l.stored; larger = l.small; low = omega arith } in
        let n = length-loaded x (load_of q) is in
        let from = begins_from q low end e l.sized h.0.above h.0.apart in
        let up = l.high in
        (from, omega (arith, n, up), omega (arith, n), later (Some s) (s.vaddr + length (loaded_region x (load_of q)).bytes) (omega (arith, n, high)) (omega (arith, high)) (omega (arith, n), l.sized) hs)
    go false e high hs later = later before low le high end hs

-- the loads of an accepted file ascend, and so does what begins at its first break or later
pub ascend_read : (elf : ElfFile) (rest : Regions) → IsRead elf → AscendFrom elf.first_break rest → Ascend (map (loaded_region elf.bytes) elf.loads ++ rest)
ascend_read elf rest is after = subst (λ (l : List Load). Ascend (map (loaded_region elf.bytes) l ++ rest)) (ap (λ (e : ElfFile). e.loads) (sym is.read)) of_bytes
  where
    of_bytes : Ascend (map (loaded_region elf.bytes) (map load_of (filter is_load_header (placed elf.bytes))) ++ rest)
    of_bytes =
        let top : ℕ = elf.first_break in
        let e : top ≡ page_up (highest_end (map (λ (p : Placed). p.segment) (filter is_load_header (placed elf.bytes)))) = ap (λ (y : ElfFile). y.first_break) is.read ∙ sym (first_break_of elf.bytes) in
        let f : highest_end (map (λ (p : Placed). p.segment) (filter is_load_header (placed elf.bytes))) ≡ highest_end (loads elf.bytes) = ap highest_end (loads_placed elf.bytes) in
        ascend_headers elf.bytes top rest 0 None (segments elf.bytes) 0 after (omega arith) (omega (arith, e, f)) refl (sound (length elf.bytes) (placed elf.bytes) (headers_faultless elf.bytes is.accepted))

pub ascend_loads : (elf : ElfFile) → IsRead elf → Ascend (map (loaded_region elf.bytes) elf.loads)
ascend_loads elf is = subst Ascend (append-nil (map (loaded_region elf.bytes) elf.loads)) (ascend_read elf [] is tt)
