-- The written file is accepted, and what it loads are the original's loads, none of them executable, and the added ones.
use Rattle.std.proofs.Common.{◌≡◌, ℕ, ◌+◌, ◌-◌, ◌%◌, ◌^◌, ◌<◌, ◌≤◌, Bool, true, false, if◌then◌else◌, List, [], ◌∷◌, ◌++◌, length, take, drop, map, max, Some, None, refl, sym, ap, ap₂, ◌∙◌, subst, arith, append_assoc, append-nil, drop-drop, length-drop}
use Rattle.std.specs.Prelude.{filter, sum_by}
use Rattle.std.specs.List.{AllByRecursion, list_any}
use Rattle.std.proofs.lemmas.List.{drop_at, drop-append-le, length-append, take_at, take-append-le}
use Rattle.std.proofs.lemmas.List.Sums.{sum_by-append, sum_by-cons}
use Rattle.std.proofs.lemmas.Bool.Decides.{nat_tests}
use Rattle.rz_num.specs.Page.{page_up}
use Rattle.rz_image.specs.declared.perm.Perm.{Perm}
use Rattle.rz_image.specs.declared.region.Region.{Region}
use Rattle.rz_image.specs.Perm.{perm_of, read_write}
use Rattle.rz_image.specs.Memory.{zeros, whole_region}
use Rattle.rz_image.specs.Laws.Zeros.{length-zeros}
use Rattle.rz_elf.specs.declared.segment.Segment.{Segment}
use Rattle.rz_elf.specs.declared.header.FileHeader.{FileHeader}
use Rattle.rz_elf.specs.Elf.{segments, is_load, loads, file_header, placed, placed_from, has_entry, file_conditions, header_conditions, load_conditions, fault_of, load_bytes, load_region, highest_end, image_of}
use Rattle.rz_elf.specs.AddedRange.{page_floor, scratch_size}
use Rattle.rz_elf.specs.WrittenFile.{Parts, added_segment, added_segments, new_segments, moved, without_execute, header_page, written_file, added_regions, without_code, new_image}
use Rattle.rz_elf.specs.Room.{parts_end}
use Rattle.rz_elf.specs.Laws.Accepted.{IsGoodLoad, IsHeaded, executable_header, file_good, sound_where_good}
use Rattle.rz_elf.specs.Laws.Conditions.{NoneHolds, first_of_none, NoneHolds-append}
use Rattle.rz_elf.specs.Laws.Sound.{IsSound, faultless_where_sound}
use Rattle.rz_elfw.proofs.HeaderBytes.{IsEncodable, bytes_on, paged_header, paged_magic, paged_class, paged_order, paged_version, paged_segments, paged_rest, length-paged}
use Rattle.rz_elfw.proofs.NewHeaders.{moved_load, kept_sound, kept_encodable, loads_kept}
use Rattle.rz_elfw.proofs.Original.{kept_of, short, sound_headers}
use Rattle.rz_elfw.proofs.Writable.{IsWritable, IsLoadOf, room, loads_above, loads_of, some_load, stop_low}

-- the loads of the original in the new file take as many bytes, and end where they ended
size_moved : (s : Segment) → (moved s).memsz ≡ s.memsz
size_moved s = go (is_load s) refl
  where
    go : (b : Bool) → is_load s ≡ b → (moved s).memsz ≡ s.memsz
    go true e = rw e refl
    go false e = rw e refl

at_moved : (s : Segment) → (moved s).vaddr ≡ s.vaddr
at_moved s = go (is_load s) refl
  where
    go : (b : Bool) → is_load s ≡ b → (moved s).vaddr ≡ s.vaddr
    go true e = rw e refl
    go false e = rw e refl

total_moved : (segs : List Segment) → sum_by (λ (s : Segment). s.memsz) (map moved segs) ≡ sum_by (λ (s : Segment). s.memsz) segs
total_moved [] = refl
total_moved (s ∷ segs) =
    sum_by-cons (λ (s : Segment). s.memsz) (moved s) (map moved segs)
    ∙ ap₂ (λ a b. a + b) (size_moved s) (total_moved segs)
    ∙ sym (sum_by-cons (λ (s : Segment). s.memsz) s segs)

highest_moved : (segs : List Segment) → highest_end (map moved segs) ≡ highest_end segs
highest_moved [] = refl
highest_moved (s ∷ segs) = ap₂ max (ap₂ (λ a b. a + b) (at_moved s) (size_moved s)) (highest_moved segs)

-- the highest of loads ends above what all of them stand above
highest_above : (stop : ℕ) (segs : List Segment) → 0 < length segs → AllByRecursion (λ s. stop ≤ page_floor s.vaddr) segs → stop ≤ highest_end segs
highest_above stop [] some h = absurd (omega arith)
highest_above stop (s ∷ segs) some h = let low = h.0 in omega (arith, low)

-- the permissions of a load without the one to execute
plain_perm : (flags : ℕ) → flags ≤ 6 → perm_of (without_execute flags) ≡ record (perm_of flags) { 0 = without_execute (perm_of flags).0 }
plain_perm flags h = let e : (flags - flags % 2) % 8 ≡ flags % 8 - flags % 8 % 2 = omega arith in ap (λ n. let p : Perm = record { 0 = n } in p) e

-- a load whose bytes stand whole in the file
zeros-none : (n : ℕ) → zeros (n - n) ≡ []
unfolding zeros
zeros-none n = let e : n - n ≡ 0 = omega arith in rw e

region_of_part : (w a b : List ℕ) (flags offset at : ℕ) → drop offset w ≡ a ++ b → load_bytes w (added_segment flags offset at (length a) (length a)) ≡ a
region_of_part w a b flags offset at h = rw (h, zeros-none (length a), append-nil) (take_at a b (length a) refl)

part_region : (w a b : List ℕ) (flags offset at : ℕ) → drop offset w ≡ a ++ b → load_region w (added_segment flags offset at (length a) (length a)) ≡ whole_region at a (perm_of flags)
part_region w a b flags offset at h = ap (λ (c : List ℕ). record { base = at; bytes = c; opened = length a; perm = perm_of flags }) (region_of_part w a b flags offset at h)

scratch_region : (w : List ℕ) (at : ℕ) → load_region w (added_segment 6 0 at 0 scratch_size) ≡ whole_region at (zeros scratch_size) read_write
scratch_region w at = ap (λ (n : ℕ). record { base = at; bytes = zeros 4096; opened = n; perm = read_write }) (sym (length-zeros 4096))

-- what follows in a list that stands at a place of another
at_next : (w a b : List ℕ) (n : ℕ) → drop n w ≡ a ++ b → drop (n + length a) w ≡ b
at_next w a b n h = sym (drop-drop (length a) n w) ∙ (ap (drop (length a)) h ∙ drop_at a b (length a) refl)

-- a part that begins on a page and has bytes
part_good : (len flags offset at filesz memsz : ℕ) → 4 ≤ flags → flags ≤ 6 → 0 < memsz → filesz ≤ memsz → offset + filesz ≤ len → offset % 4096 ≡ 0 → at % 4096 ≡ 0 → 0x10000 ≤ at → at + memsz ≤ 0x70000000 → IsGoodLoad len (added_segment flags offset at filesz memsz)
part_good len flags offset at filesz memsz h k l f m n o p q = record {
  kind = refl;
  sized = l;
  readable = h;
  harmless = k;
  small = f;
  stored = m;
  align = refl;
  aligned = o ∙ sym n;
  low = p;
  high = q;
}

part_encodable : (flags offset at filesz memsz : ℕ) → flags ≤ 6 → offset < 2 ^ 40 → at < 2 ^ 40 → filesz < 2 ^ 40 → memsz < 2 ^ 40 → IsEncodable (added_segment flags offset at filesz memsz)
part_encodable flags offset at filesz memsz a b c d e = record {
  kind = omega arith;
  flags = omega arith;
  offset = omega arith;
  vaddr = omega arith;
  paddr = omega arith;
  filesz = omega arith;
  memsz = omega arith;
  align = omega arith;
}

part_load : (flags offset at filesz memsz : ℕ) → 0 < memsz → is_load (added_segment flags offset at filesz memsz) ≡ true
part_load flags offset at filesz memsz h = grind (arith, nat_tests)

code_entered : (offset at size entry : ℕ) → at ≤ entry → entry < at + size → has_entry entry (added_segment 5 offset at size size) ≡ true
code_entered offset at size entry h k = grind (arith, nat_tests)

page_up_paged : (n : ℕ) → page_up n % 4096 ≡ 0
page_up_paged n = omega arith

page_up_above : (n : ℕ) → n ≤ page_up n
page_up_above n = omega arith

page_up_near : (n : ℕ) → page_up n ≤ n + 4095
page_up_near n = omega arith

floor_paged : (n : ℕ) → page_floor n % 4096 ≡ 0
floor_paged n = omega arith

-- loads that no condition on all of them refuses
loads_good : (entry : ℕ) (ls : List Segment) → sum_by (λ (s : Segment). s.memsz) ls ≤ 268435456 → 0 < length ls → list_any (has_entry entry) ls ≡ true → NoneHolds (load_conditions entry ls)
loads_good entry ls total some entered = (grind (arith, nat_tests), (grind (arith, nat_tests), (rw entered refl, tt)))

-- the sizes and places of the parts
pub record IsSized (n : ℕ) (base t c s entry : ℕ) : Type 0 where
  pub tables : 0 < t
  pub tables_paged : t % 4096 ≡ 0
  pub code : 0 < c
  pub code_paged : c % 4096 ≡ 0
  pub stubs : 0 < s
  pub stubs_paged : s % 4096 ≡ 0
  pub low : 0x10000 ≤ base
  pub base_paged : base % 4096 ≡ 0
  pub high : base + 4096 + t + c + s ≤ 0x70000000
  pub short : 4096 + page_up n + t + c + s ≤ 67108864
  pub from : base + 4096 + t ≤ entry
  pub below : entry < base + 4096 + t + c

module _ (n base t c s entry : ℕ) (is : IsSized n base t c s entry) where
  abbrev at : ℕ
  at = 4096 + page_up n

  abbrev scratch_load : Segment
  scratch_load = added_segment 6 0 base 0 4096

  abbrev tables_load : Segment
  tables_load = added_segment 4 at (base + 4096) t t

  abbrev code_load : Segment
  code_load = added_segment 5 (at + t) (base + 4096 + t) c c

  abbrev stubs_load : Segment
  stubs_load = added_segment 5 (at + t + c) (base + 4096 + t + c) s s

  abbrev four : List Segment
  four = scratch_load ∷ tables_load ∷ code_load ∷ stubs_load ∷ []

  four_encodable : (rest : List Segment) → AllByRecursion IsEncodable rest → AllByRecursion IsEncodable (four ++ rest)
  four_encodable rest h = (
    part_encodable 6 0 base 0 4096 (omega arith) (omega arith) (omega arith) (omega arith) (omega arith),
    (
      part_encodable 4 at (base + 4096) t t (omega arith) (omega arith) (omega arith) (omega arith) (omega arith),
      (
        part_encodable 5 (at + t) (base + 4096 + t) c c (omega arith) (omega arith) (omega arith) (omega arith) (omega arith),
        (
          part_encodable 5 (at + t + c) (base + 4096 + t + c) s s (omega arith) (omega arith) (omega arith) (omega arith) (omega arith),
          h,
        ),
      ),
    ),
  )

  abbrev len : ℕ
  len = at + t + c + s

  u : page_up n % 4096 ≡ 0
  u = page_up_paged n

  scratch_good : IsGoodLoad len scratch_load
  scratch_good = part_good len 6 0 base 0 4096 (omega arith) (omega arith) (omega arith) (omega arith) (omega arith) refl is.base_paged is.low (omega arith)

  tables_good : IsGoodLoad len tables_load
  tables_good =
      let v = u in
      part_good len 4 at (base + 4096) t t (omega arith) (omega arith) is.tables (omega arith) (omega arith) (omega arith) (omega arith) (omega arith) (omega arith)

  code_good : IsGoodLoad len code_load
  code_good =
      let v = u in
      part_good len 5 (at + t) (base + 4096 + t) c c (omega arith) (omega arith) is.code (omega arith) (omega arith) (omega arith) (omega arith) (omega arith) (omega arith)

  stubs_good : IsGoodLoad len stubs_load
  stubs_good =
      let v = u in
      part_good len 5 (at + t + c) (base + 4096 + t + c) s s (omega arith) (omega arith) is.stubs (omega arith) (omega arith) (omega arith) (omega arith) (omega arith) (omega arith)

  four_sound : (rest : List Segment) → AllByRecursion (IsSound len) (placed_from 4 (Some stubs_load) rest) → AllByRecursion (IsSound len) (placed_from 0 None (four ++ rest))
  four_sound rest h =
      let l1 = part_load 4 at (base + 4096) t t is.tables in
      let l2 = part_load 5 (at + t) (base + 4096 + t) c c is.code in
      let l3 = part_load 5 (at + t + c) (base + 4096 + t + c) s s is.stubs in
      let p0 : IsSound len (record { index = 0; before = None; segment = scratch_load }) = sound_where_good len _ scratch_good tt in
      let p1 : IsSound len (record { index = 1; before = Some scratch_load; segment = tables_load }) =
      sound_where_good len _ tables_good (record { sized = omega arith; past = omega arith; paged = omega (arith, is.base_paged) }) in
      let p2 : IsSound len (record { index = 2; before = Some tables_load; segment = code_load }) =
      sound_where_good len _ code_good (record { sized = is.tables; past = omega arith; paged = omega (arith, is.base_paged, is.tables_paged) }) in
      let p3 : IsSound len (record { index = 3; before = Some code_load; segment = stubs_load }) =
      sound_where_good len _ stubs_good (record { sized = is.code; past = omega arith; paged = omega (arith, is.base_paged, is.tables_paged, is.code_paged) }) in
      rw (l1, l2, l3) (p0, (p1, (p2, (p3, h))))

  four_loads : (rest : List Segment) → filter is_load (four ++ rest) ≡ four ++ filter is_load rest
  four_loads rest =
      let l1 = part_load 4 at (base + 4096) t t is.tables in
      let l2 = part_load 5 (at + t) (base + 4096 + t) c c is.code in
      let l3 = part_load 5 (at + t + c) (base + 4096 + t + c) s s is.stubs in
      rw (l1, l2, l3) refl

  four_entered : (rest : List Segment) → list_any (has_entry entry) (four ++ rest) ≡ true
  four_entered rest = rw (code_entered (at + t) (base + 4096 + t) c entry is.from is.below) refl

module _ (x : List ℕ) (p : Parts) (entry : ℕ) (is : IsWritable x p entry) where
  abbrev t : ℕ
  t = length p.tables

  abbrev c : ℕ
  c = length p.code

  abbrev s : ℕ
  s = length p.stubs

  pub sized : IsSized (length x) p.base t c s entry
  sized =
      let r = room x p entry is in
      let low = r.low in
      let bytes = r.bytes in
      let below = is.below in
      let high = stop_low x p entry is in
      record {
        tables = is.pages.tables.0;
        tables_paged = is.pages.tables.1;
        code = is.pages.code.0;
        code_paged = is.pages.code.1;
        stubs = is.pages.stubs.0;
        stubs_paged = is.pages.stubs.1;
        low = omega arith;
        base_paged = base_paged;
        high = omega arith;
        short = omega arith;
        from = is.inside.0;
        below = is.inside.1;
      }
    where
      base_paged : p.base % 4096 ≡ 0
      base_paged =
          let below = is.below in
          let a = is.pages.tables.1 in
          let b = is.pages.code.1 in
          let d = is.pages.stubs.1 in
          omega arith

  abbrev segs : List Segment
  segs = new_segments x p

  abbrev rest : List Segment
  rest = kept_of (segments x)

  -- what follows the header page
  abbrev after : List ℕ
  after = x ++ (zeros (page_up (length x) - length x) ++ (p.tables ++ (p.code ++ p.stubs)))

  abbrev w : List ℕ
  w = header_page segs entry ++ after

  written : written_file x p entry ≡ w
  unfolding written_file
  written = refl

  few : length segs ≤ 64
  few = let r = (room x p entry is).headers in omega arith

  short_entry : entry < 2 ^ 64
  short_entry = let z = sized in let h = z.high in let b = z.below in omega arith

  encodable : AllByRecursion IsEncodable segs
  encodable =
      let h = file_header x in
      four_encodable (length x) p.base t c s entry sized rest (kept_encodable (length x) (short x is.accepted) 0 None h.count (drop h.table_at x) (bytes_on h.table_at x is.bytes) (sound_headers x is.accepted))

  segments_are : segments w ≡ segs
  segments_are = let f = few in paged_segments segs entry after short_entry (omega arith) encodable

  header_is : file_header w ≡ executable_header entry (length segs)
  header_is = let f = few in paged_header segs entry after short_entry (omega arith)

  length-after : length after ≡ page_up (length x) + t + c + s
  length-after =
      let a = length-append x (zeros (page_up (length x) - length x) ++ (p.tables ++ (p.code ++ p.stubs))) in
      let b = length-append (zeros (page_up (length x) - length x)) (p.tables ++ (p.code ++ p.stubs)) in
      let d = length-append p.tables (p.code ++ p.stubs) in
      let e = length-append p.code p.stubs in
      let f = length-zeros (page_up (length x) - length x) in
      let g = page_up_above (length x) in
      omega arith

  length-w : length w ≡ 4096 + page_up (length x) + t + c + s
  length-w = let a = length-paged segs entry after few in let b = length-after in omega arith

  sound_segments : AllByRecursion (IsSound (length w)) (placed_from 0 None segs)
  sound_segments =
      let z = sized in
      let some = z.stubs in
      let l = 4096 + page_up (length x) + t + c + s in
      let on : length x + 4096 ≤ l = let g = page_up_above (length x) in omega arith in
      let end : p.base + 4096 + t + c + s ≤ parts_end p = omega arith in
      let kept = kept_sound (length x) l (parts_end p) on 0 4 None (Some (added_segment 5 (4096 + page_up (length x) + t + c) (p.base + 4096 + t + c) s s)) (segments x) (end, some) (loads_above x p entry is) (sound_headers x is.accepted) in
      subst (λ n. AllByRecursion (IsSound n) (placed_from 0 None segs)) (sym length-w) (four_sound (length x) p.base t c s entry sized rest kept)

  loads_are : loads w ≡ added_segments (4096 + page_up (length x)) p ++ map moved (loads x)
  loads_are =
      ap (filter is_load) segments_are
      ∙ four_loads (length x) p.base t c s entry sized rest
      ∙ ap (λ (l : List Segment). added_segments (4096 + page_up (length x)) p ++ l) (loads_kept (segments x))

  total_is : sum_by (λ (s : Segment). s.memsz) (added_segments (4096 + page_up (length x)) p ++ map moved (loads x)) ≤ 268435456
  total_is =
      let r = (room x p entry is).memory in
      let e = total_moved (loads x) in
      let f = sum_by-append (λ (s : Segment). s.memsz) (added_segments (4096 + page_up (length x)) p) (map moved (loads x)) in
      omega arith

  headed : IsHeaded w segs entry
  headed =
      let f = few in
      let l = length-w in
      let z = sized in
      let m = z.short in
      record {
        short = omega arith;
        whole = omega arith;
        magic = paged_magic segs entry after;
        class = paged_class segs entry after;
        order = paged_order segs entry after;
        version = paged_version segs entry after;
        header = header_is;
        some = omega arith;
        few = f;
      }

  load_good : NoneHolds (load_conditions (file_header w).entry (loads w))
  load_good =
      let e : (file_header w).entry ≡ entry = ap (λ (f : FileHeader). f.entry) header_is in
      let good = loads_good entry (added_segments (4096 + page_up (length x)) p ++ map moved (loads x)) total_is (omega arith) (four_entered (length x) p.base t c s entry sized (map moved (loads x))) in
      subst NoneHolds (sym (ap₂ load_conditions e loads_are)) good

  accepted : fault_of w ≡ None
  unfolding fault_of
  accepted =
      let fs = file_conditions w in
      let hs = header_conditions (length w) (placed w) in
      let ls = load_conditions (file_header w).entry (loads w) in
      let sound : AllByRecursion (IsSound (length w)) (placed w) = subst (λ (l : List Segment). AllByRecursion (IsSound (length w)) (placed_from 0 None l)) (sym segments_are) sound_segments in
      first_of_none (fs ++ (hs ++ ls)) (NoneHolds-append fs (hs ++ ls) (file_good w segs entry headed) (NoneHolds-append hs ls (faultless_where_sound (length w) (placed w) sound) load_good))

  pub written_accepted : fault_of (written_file x p entry) ≡ None
  written_accepted = ap fault_of written ∙ accepted

  -- where the parts and the original stand in it
  after_original : drop (page_up (length x)) after ≡ p.tables ++ (p.code ++ p.stubs)
  after_original =
      let z = zeros (page_up (length x) - length x) in
      let l : length (x ++ z) ≡ page_up (length x) = let a = length-append x z in let b = length-zeros (page_up (length x) - length x) in let g = page_up_above (length x) in omega arith in
      ap (drop (page_up (length x))) (sym (append_assoc x z (p.tables ++ (p.code ++ p.stubs)))) ∙ drop_at (x ++ z) (p.tables ++ (p.code ++ p.stubs)) (page_up (length x)) l

  w_rest : drop 4096 w ≡ after
  w_rest = paged_rest segs entry after few

  at_tables : drop (4096 + page_up (length x)) w ≡ p.tables ++ (p.code ++ p.stubs)
  at_tables = sym (drop-drop (page_up (length x)) 4096 w) ∙ ap (drop (page_up (length x))) w_rest ∙ after_original

  at_code : drop (4096 + page_up (length x) + t) w ≡ p.code ++ p.stubs
  at_code = at_next w p.tables (p.code ++ p.stubs) (4096 + page_up (length x)) at_tables

  at_stubs : drop (4096 + page_up (length x) + t + c) w ≡ p.stubs
  at_stubs = at_next w p.code p.stubs (4096 + page_up (length x) + t) at_code

  -- a load of the original
  bytes_on_page : (l : Segment) → IsLoadOf (length x) l → take l.filesz (drop (l.offset + 4096) w) ≡ take l.filesz (drop l.offset x)
  bytes_on_page l h =
      let stored = h.stored in
      let tail = zeros (page_up (length x) - length x) ++ (p.tables ++ (p.code ++ p.stubs)) in
      let on : l.offset + 4096 ≡ 4096 + l.offset = omega arith in
      let left : l.filesz ≤ length (drop l.offset x) = let d = length-drop l.offset x in omega arith in
      ap (take l.filesz) (
      ap (λ n. drop n w) on
      ∙ sym (drop-drop l.offset 4096 w)
      ∙ ap (drop l.offset) w_rest
      ∙ drop-append-le l.offset x tail (omega arith)
      )
      ∙ take-append-le l.filesz (drop l.offset x) tail left

  region_moved : (l : Segment) → is_load l ≡ true → IsLoadOf (length x) l → load_region w (moved l) ≡ without_code (load_region x l)
  region_moved l e h =
      let bytes = bytes_on_page l h in
      let perm = plain_perm l.flags h.harmless in
      ap (load_region w) (moved_load l e)
      ∙ (λ i. let r : Region = record { base = l.vaddr; bytes = bytes i ++ zeros (l.memsz - l.filesz); opened = l.memsz; perm = perm i } in r)

  regions_moved : (ls : List Segment) → AllByRecursion (IsLoadOf (length x)) (filter is_load ls) → map (load_region w) (map moved (filter is_load ls)) ≡ map without_code (map (load_region x) (filter is_load ls))
  regions_moved [] h = refl
  regions_moved (l ∷ ls) h = go (is_load l) refl h (regions_moved ls)
    where
      go : (b : Bool) → is_load l ≡ b → AllByRecursion (IsLoadOf (length x)) (if b then l ∷ filter is_load ls else filter is_load ls)
          → (AllByRecursion (IsLoadOf (length x)) (filter is_load ls) → map (load_region w) (map moved (filter is_load ls)) ≡ map without_code (map (load_region x) (filter is_load ls)))
          → map (load_region w) (map moved (if b then l ∷ filter is_load ls else filter is_load ls)) ≡ map without_code (map (load_region x) (if b then l ∷ filter is_load ls else filter is_load ls))
      go true e h ih = ap₂ (λ (r : Region) (rs : List Region). r ∷ rs) (region_moved l e h.0) (ih h.1)
      go false e h ih = ih h

  regions_are : map (load_region w) (added_segments (4096 + page_up (length x)) p ++ map moved (loads x)) ≡ added_regions p ++ map without_code (map (load_region x) (loads x))
  regions_are =
      let n = 4096 + page_up (length x) in
      let stubs : drop (n + t + c) w ≡ p.stubs ++ [] = at_stubs ∙ sym (append-nil p.stubs) in
      let r0 = scratch_region w p.base in
      let r1 = part_region w p.tables (p.code ++ p.stubs) 4 n (p.base + 4096) at_tables in
      let r2 = part_region w p.code p.stubs 5 (n + t) (p.base + 4096 + t) at_code in
      let r3 = part_region w p.stubs [] 5 (n + t + c) (p.base + 4096 + t + c) stubs in
      let rs = regions_moved (segments x) (loads_of x is.accepted) in
      λ i. r0 i ∷ r1 i ∷ r2 i ∷ r3 i ∷ rs i

  highest_is : highest_end (added_segments (4096 + page_up (length x)) p ++ map moved (loads x)) ≡ highest_end (loads x)
  highest_is =
      let above = highest_above (parts_end p) (loads x) (some_load x is.accepted) (loads_above x p entry is) in
      let m = highest_moved (loads x) in
      omega arith

  image_is : image_of w ≡ new_image (image_of x) p entry
  unfolding image_of
  image_is =
      let e : (file_header w).entry ≡ entry = ap (λ (f : FileHeader). f.entry) header_is in
      let ls = ap (map (load_region w)) loads_are ∙ regions_are in
      let h = ap highest_end loads_are ∙ highest_is in
      λ i. record { loads = ls i; entry = e i; first_break = page_up (h i) }

  pub written_image : image_of (written_file x p entry) ≡ new_image (image_of x) p entry
  written_image = ap image_of written ∙ image_is
