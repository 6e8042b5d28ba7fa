-- When a file has no fault: one fact for each condition.
use Rattle.std.proofs.Common.{◌≡◌, ℕ, suc, ◌+◌, ◌*◌, ◌%◌, ◌<◌, ◌≤◌, Bool, true, false, List, [], ◌∷◌, ◌++◌, length, Option, Some, None, refl, ap, arith}
use Rattle.std.specs.Prelude.{sum_by, filter, nat_eq, count_ones}
use Rattle.std.specs.Int.Count.{ones, ones_in, ones_cat}
use Rattle.std.specs.List.{AllByRecursion, list_any, starts_with}
use Rattle.std.proofs.lemmas.Bool.Decides.{nat_tests}
use Rattle.rz_elf.specs.Elf.{Segment, segments, is_load, loads, file_header, FileHeader, field, Placed, placed_from, placed, against, is_dynamic, is_stack_code, has_other_flags, is_writable_code, is_larger_in_file, leaves_file, is_misaligned, is_far, isnt_above, shares_page, has_entry, page, last_page, file_conditions, header_conditions, load_conditions, fault_of}
use Rattle.rz_elf.specs.Laws.Conditions.{NoneHolds, first_of_none, NoneHolds-append}
use Rattle.rz_elf.specs.Laws.Sound.{IsSound, faultless_where_sound}

-- a load that no condition on one program header refuses, in a file of so many bytes
pub record IsGoodLoad (len : ℕ) (s : Segment) : Type 0 where
  pub kind : s.kind ≡ 1
  pub sized : 0 < s.memsz
  pub readable : 4 ≤ s.flags
  pub harmless : s.flags ≤ 6
  pub small : s.filesz ≤ s.memsz
  pub stored : s.offset + s.filesz ≤ len
  pub align : s.align ≡ 4096
  pub aligned : s.vaddr % 4096 ≡ s.offset % 4096
  pub low : 0x10000 ≤ s.vaddr
  pub high : s.vaddr + s.memsz ≤ 0x70000000

-- a load that begins a page at or past the end of the load before it
pub record IsPast (before s : Segment) : Type 0 where
  pub sized : 0 < before.memsz
  pub past : before.vaddr + before.memsz ≤ s.vaddr
  pub paged : s.vaddr % 4096 ≡ 0

abbrev pub IsPastAny : Option Segment → Segment → Type 0
IsPastAny None s = Unit {0}
IsPastAny (Some before) s = IsPast before s

-- loads that no condition on program headers refuses
abbrev pub AreGoodLoads : ℕ → Option Segment → List Segment → Type 0
AreGoodLoads len before [] = Unit {0}
AreGoodLoads len before (s ∷ rest) = IsGoodLoad len s × IsPastAny before s × AreGoodLoads len (Some s) rest

record IsGoodPlaced (len : ℕ) (p : Placed) : Type 0 where
  load : IsGoodLoad len p.segment
  past : IsPastAny p.before p.segment

pub is_load-good : (len : ℕ) (s : Segment) → IsGoodLoad len s → is_load s ≡ true
is_load-good len s h = let k = h.kind in let z = h.sized in grind (arith, nat_tests)

placed_good : (len i : ℕ) (before : Option Segment) (segs : List Segment) → AreGoodLoads len before segs → AllByRecursion (IsGoodPlaced len) (placed_from i before segs)
placed_good len i before [] h = tt
placed_good len i before (s ∷ segs) h =
    let l = is_load-good len s h.0 in
    (record { load = h.0; past = h.1 }, rw l (placed_good len (suc i) (Some s) segs h.2))

loads_good : (len : ℕ) (before : Option Segment) (segs : List Segment) → AreGoodLoads len before segs → filter is_load segs ≡ segs
loads_good len before [] h = refl
loads_good len before (s ∷ segs) h = rw (is_load-good len s h.0) (ap (λ r. s ∷ r) (loads_good len (Some s) segs h.2))

not_dynamic : (len : ℕ) (s : Segment) → IsGoodLoad len s → is_dynamic s ≡ false
not_dynamic len s h = rw (h.kind) refl

not_stack_code : (len : ℕ) (s : Segment) → IsGoodLoad len s → is_stack_code s ≡ false
not_stack_code len s h = rw (h.kind) refl

no_other_flags : (len : ℕ) (s : Segment) → IsGoodLoad len s → has_other_flags s ≡ false
no_other_flags len s h = let a = h.readable in let b = h.harmless in rw (is_load-good len s h) (grind (arith, nat_tests))

not_writable_code : (len : ℕ) (s : Segment) → IsGoodLoad len s → is_writable_code s ≡ false
not_writable_code len s h = let b = h.harmless in rw (is_load-good len s h) (grind (arith, nat_tests))

not_larger_in_file : (len : ℕ) (s : Segment) → IsGoodLoad len s → is_larger_in_file s ≡ false
not_larger_in_file len s h = let b = h.small in rw (is_load-good len s h) (grind (arith, nat_tests))

stays_in_file : (len : ℕ) (s : Segment) → IsGoodLoad len s → leaves_file len s ≡ false
stays_in_file len s h = let b = h.stored in rw (is_load-good len s h) (grind (arith, nat_tests))

-- a page is a power of two
one_page : count_ones 4096 ≡ 1
unfolding ones ones_in
one_page = ones_cat 12 1 0 (omega arith)

not_misaligned : (len : ℕ) (s : Segment) → IsGoodLoad len s → is_misaligned s ≡ false
not_misaligned len s h = let b = h.aligned in rw (is_load-good len s h, h.align, one_page) (grind (arith, nat_tests))

not_far : (len : ℕ) (s : Segment) → IsGoodLoad len s → is_far s ≡ false
not_far len s h = let a = h.low in let b = h.high in rw (is_load-good len s h) (grind (arith, nat_tests))

-- the conditions on a load and the load before it
abbrev against_any : (Segment → Segment → Bool) → Option Segment → Segment → Bool
against_any test None s = false
against_any test (Some b) s = test b s

stands_above : (before : Option Segment) (s : Segment) → IsPastAny before s → against_any isnt_above before s ≡ false
stands_above None s h = refl
stands_above (Some b) s h = let k = h.sized in let l = h.past in grind (arith, nat_tests)

later_page : (b s : Segment) → IsPast b s → last_page b < page s.vaddr
later_page b s h = let k = h.sized in let l = h.past in let m = h.paged in omega arith

shares_no_page : (before : Option Segment) (s : Segment) → IsPastAny before s → against_any shares_page before s ≡ false
shares_no_page None s h = refl
shares_no_page (Some b) s h = let l = later_page b s h in grind (arith, nat_tests)

against_good : (len : ℕ) (test : Segment → Segment → Bool) (p : Placed) → IsGoodPlaced len p → against_any test p.before p.segment ≡ false → against test p ≡ false
against_good len test p h k = go p.before p.segment (is_load-good len p.segment h.load) k
  where
    go : (o : Option Segment) (s : Segment) → is_load s ≡ true → against_any test o s ≡ false → against test (record { index = p.index; before = o; segment = s }) ≡ false
    go None s l k = rw l refl
    go (Some b) s l k = rw l k

-- a good load is sound
pub sound_where_good : (len : ℕ) (p : Placed) → IsGoodLoad len p.segment → IsPastAny p.before p.segment → IsSound len p
sound_where_good len p load past =
    let good : IsGoodPlaced len p = record { load = load; past = past } in
    record {
      fixed_place = not_dynamic len p.segment load;
      plain_stack = not_stack_code len p.segment load;
      flags = no_other_flags len p.segment load;
      fixed = not_writable_code len p.segment load;
      small = not_larger_in_file len p.segment load;
      stored = stays_in_file len p.segment load;
      aligned = not_misaligned len p.segment load;
      near = not_far len p.segment load;
      above = against_good len isnt_above p good (stands_above p.before p.segment past);
      apart = against_good len shares_page p good (shares_no_page p.before p.segment past);
    }

all_sound : (len : ℕ) (ps : List Placed) → AllByRecursion (IsGoodPlaced len) ps → AllByRecursion (IsSound len) ps
all_sound len [] h = tt
all_sound len (p ∷ ps) h = (sound_where_good len p h.0.load h.0.past, all_sound len ps h.1)

header_good : (len : ℕ) (ps : List Placed) → AllByRecursion (IsGoodPlaced len) ps → NoneHolds (header_conditions len ps)
header_good len ps h = faultless_where_sound len ps (all_sound len ps h)

-- the header of an executable for x86-64 with this entry and this number of program headers right after it
abbrev pub executable_header : ℕ → ℕ → FileHeader
executable_header entry count =
    record { file_type = 2; machine = 62; version = 1; entry = entry; table_at = 64; header_size = 64; entry_size = 56; count = count }

-- a file with the header of an executable
pub record IsHeaded (x : List ℕ) (segs : List Segment) (entry : ℕ) : Type 0 where
  pub short : length x ≤ 67108864
  pub whole : 64 + 56 * length segs ≤ length x
  pub magic : starts_with nat_eq x (0x7f ∷ 0x45 ∷ 0x4c ∷ 0x46 ∷ []) ≡ true
  pub class : field x 4 1 ≡ 2
  pub order : field x 5 1 ≡ 1
  pub version : field x 6 1 ≡ 1
  pub header : file_header x ≡ executable_header entry (length segs)
  pub some : 0 < length segs
  pub few : length segs ≤ 64

-- a file whose headers are good
pub record HasGoodHeaders (x : List ℕ) (segs : List Segment) (entry : ℕ) : Type 0 where
  pub short : length x ≤ 67108864
  pub whole : 64 + 56 * length segs ≤ length x
  pub magic : starts_with nat_eq x (0x7f ∷ 0x45 ∷ 0x4c ∷ 0x46 ∷ []) ≡ true
  pub class : field x 4 1 ≡ 2
  pub order : field x 5 1 ≡ 1
  pub version : field x 6 1 ≡ 1
  pub header : file_header x ≡ executable_header entry (length segs)
  pub headers : segments x ≡ segs
  pub some : 0 < length segs
  pub few : length segs ≤ 64
  pub loads : AreGoodLoads (length x) None segs
  pub total : sum_by (λ s. s.memsz) segs ≤ 268435456
  pub entered : list_any (has_entry entry) segs ≡ true

pub loads-good : {x : List ℕ} {segs : List Segment} {entry : ℕ} → HasGoodHeaders x segs entry → loads x ≡ segs
loads-good {x} {segs} h = rw (h.headers) (loads_good (length x) None segs h.loads)

pub file_good : (x : List ℕ) (segs : List Segment) (entry : ℕ) → IsHeaded x segs entry → NoneHolds (file_conditions x)
file_good x segs entry h =
    let long = h.short in
    let whole = h.whole in
    let few = h.few in
    let some = h.some in (
      grind (arith, nat_tests),
      (
        grind (arith, nat_tests),
        (
          rw (h.magic) refl,
          (
            rw (h.class) refl,
            (
              rw (h.order) refl,
              (
                rw (h.version, ap (λ (f : FileHeader). f.version) h.header) refl,
                (
                  rw (ap (λ (f : FileHeader). f.file_type) h.header) refl,
                  (
                    rw (ap (λ (f : FileHeader). f.machine) h.header) refl,
                    (
                      rw (ap (λ (f : FileHeader). f.header_size) h.header) refl,
                      (
                        rw (ap (λ (f : FileHeader). f.entry_size) h.header) refl,
                        (
                          rw (ap (λ (f : FileHeader). f.count) h.header) (grind (arith, nat_tests)),
                          (
                            rw (ap (λ (f : FileHeader). f.count) h.header, ap (λ (f : FileHeader). f.table_at) h.header) (grind (arith, nat_tests)),
                            tt,
                          ),
                        ),
                      ),
                    ),
                  ),
                ),
              ),
            ),
          ),
        ),
      ),
    )

loads_entered : (x : List ℕ) (segs : List Segment) (entry : ℕ) → HasGoodHeaders x segs entry → NoneHolds (load_conditions (file_header x).entry (loads x))
loads_entered x segs entry h =
    let some = h.some in
    let total = h.total in
    rw (loads-good h, ap (λ (f : FileHeader). f.entry) h.header)
    (grind (arith, nat_tests), (grind (arith, nat_tests), (rw (h.entered) refl, tt)))

-- a file with good headers is accepted
pub fault_of_none : {x : List ℕ} {segs : List Segment} {entry : ℕ} → HasGoodHeaders x segs entry → fault_of x ≡ None
unfolding fault_of
fault_of_none {x} {segs} {entry} h =
    let ps : AllByRecursion (IsGoodPlaced (length x)) (placed x) = rw (h.headers) (placed_good (length x) 0 None segs h.loads) in
    let fs = file_conditions x in
    let hs = header_conditions (length x) (placed x) in
    let ls = load_conditions (file_header x).entry (loads x) in
    let headed : IsHeaded x segs entry =
    record { short = h.short; whole = h.whole; magic = h.magic; class = h.class; order = h.order; version = h.version; header = h.header; some = h.some; few = h.few } in
    first_of_none (fs ++ (hs ++ ls))
    (NoneHolds-append fs (hs ++ ls) (file_good x segs entry headed)
    (NoneHolds-append hs ls (header_good (length x) (placed x) ps) (loads_entered x segs entry h)))
