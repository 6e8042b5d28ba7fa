-- The program headers of the written file are sound: those of the added loads, and those that are kept.
use Rattle.std.proofs.Common.{◌≡◌, ℕ, zero, suc, drop, ◌+◌, ◌-◌, ◌/◌, ◌%◌, ◌<◌, ◌≤◌, Bool, true, false, not, ◌&&◌, ◌||◌, if◌then◌else◌, nat_lt, nat_le, ◌==◌, List, [], ◌∷◌, map, min, Option, Some, None, refl, sym, ap, ap₂, ◌∙◌, subst, arith}
use Rattle.std.specs.Prelude.{count_ones, filter}
use Rattle.std.specs.Int.Count.{ones, ones_in, ones_cat}
use Rattle.std.specs.List.{AllByRecursion}
use Rattle.std.proofs.lemmas.Bool.Decides.{nat_tests}
use Rattle.rz_elf.specs.declared.segment.Segment.{Segment}
use Rattle.rz_elf.specs.declared.placed.Placed.{Placed}
use Rattle.rz_elf.specs.Elf.{segment_of, segments_of, is_load, is_stack, placed_from, against, isnt_above, shares_page, page, last_page}
use Rattle.rz_elf.specs.AddedRange.{page_floor}
use Rattle.rz_elf.specs.WrittenFile.{moved, without_execute}
use Rattle.rz_elf.specs.Laws.Sound.{IsSound, sound_load}
use Rattle.rz_elfw.proofs.Alignment.{aligned_on, lesser_power}
use Rattle.rz_elfw.proofs.HeaderBytes.{AreBytes, IsEncodable, bytes_on, encodable_read}
use Rattle.rz_elfw.proofs.Original.{is_kept, kept_of, kept_cons}

-- a page is a power of two
one_page : count_ones 4096 ≡ 1
unfolding ones ones_in
one_page = ones_cat 12 1 0 (omega arith)

-- a load of the original in the new file
abbrev pub later_load : Segment → Segment
later_load s = record s { flags = without_execute s.flags; offset = s.offset + 4096; align = min s.align 4096 }

pub moved_load : (s : Segment) → is_load s ≡ true → moved s ≡ later_load s
moved_load s e = rw e refl

moved_other : (s : Segment) → is_load s ≡ false → moved s ≡ s
moved_other s e = rw e refl

load_kind : (s : Segment) → is_load s ≡ true → s.kind ≡ 1
load_kind s e = grind (arith, nat_tests, e)

-- a condition on loads, on this one
here : (load b : Bool) → load ≡ true → (load && b) ≡ false → b ≡ false
here load b is e = ap (λ v. v && b) (sym is) ∙ e

-- and two conditions more
both : (load a b : Bool) → load ≡ true → (load && a && b) ≡ false → (a && b) ≡ false
both load a b is e = ap (λ v. v && a && b) (sym is) ∙ e

neither : (load a b : Bool) → load ≡ true → (a && b) ≡ false → (load && a && b) ≡ false
neither load a b is e = ap (λ v. v && a && b) is ∙ e

-- the flags without the one to execute
plain_flags : (flags : ℕ) → 4 ≤ flags → flags ≤ 6 → (not (nat_le 4 (flags - flags % 2) && nat_le (flags - flags % 2) 7) ≡ false) × ((flags - flags % 2 == 7) ≡ false)
plain_flags flags low high =
    let a : 4 ≤ flags - flags % 2 = omega arith in
    let b : flags - flags % 2 ≤ 6 = omega arith in
    (grind (arith, nat_tests, a, b), grind (arith, nat_tests, b))

-- the test of an alignment above 1
abbrev misplaced : ℕ → ℕ → ℕ → Bool
misplaced align vaddr offset = nat_lt 1 align && (not (count_ones align == 1) || not (vaddr % align == offset % align))

misplaced_low : (align vaddr offset : ℕ) → align ≤ 1 → misplaced align vaddr offset ≡ false
misplaced_low align vaddr offset h = grind (arith, nat_tests)

misplaced_not : (align vaddr offset : ℕ) → count_ones align ≡ 1 → vaddr % align ≡ offset % align → misplaced align vaddr offset ≡ false
misplaced_not align vaddr offset one e = grind (arith, nat_tests)

placed_well : (align vaddr offset : ℕ) → 1 < align → misplaced align vaddr offset ≡ false → (count_ones align ≡ 1) × (vaddr % align ≡ offset % align)
placed_well align vaddr offset some h = (grind (arith, nat_tests, h), grind (arith, nat_tests, h))

misplaced_on : (align vaddr offset : ℕ) → misplaced align vaddr offset ≡ false → misplaced (min align 4096) vaddr (offset + 4096) ≡ false
misplaced_on align vaddr offset h = go (nat_lt 1 align) refl
  where
    go : (b : Bool) → nat_lt 1 align ≡ b → misplaced (min align 4096) vaddr (offset + 4096) ≡ false
    go true e =
        let some : 1 < align = grind (arith, nat_tests, e) in
        let w = placed_well align vaddr offset some h in
        misplaced_not (min align 4096) vaddr (offset + 4096) (lesser_power align w.0 one_page) (aligned_on align vaddr offset some w.0 w.1)
    go false e =
        let low : align ≤ 1 = grind (arith, nat_tests, e) in
        misplaced_low (min align 4096) vaddr (offset + 4096) (omega arith)

-- the conditions on a header and the load before it
abbrev against_any : (Segment → Segment → Bool) → Option Segment → Segment → Bool
against_any test None s = false
against_any test (Some b) s = test b s

against_load : (test : Segment → Segment → Bool) (i : ℕ) (o : Option Segment) (s : Segment) → is_load s ≡ true → against test (record { index = i; before = o; segment = s }) ≡ against_any test o s
against_load test i None s e = rw e refl
against_load test i (Some b) s e = rw e refl

against_other : (test : Segment → Segment → Bool) (i : ℕ) (o : Option Segment) (s : Segment) → is_load s ≡ false → against test (record { index = i; before = o; segment = s }) ≡ false
against_other test i None s e = rw e refl
against_other test i (Some b) s e = rw e refl

-- the load before a header in the new file: the same load, or else one that ends at an address or before it
abbrev pub Comes : ℕ → Option Segment → Option Segment → Type 0
Comes stop before None = ⊥
Comes stop None (Some b) = (b.vaddr + b.memsz ≤ stop) × (0 < b.memsz)
Comes stop (Some a) (Some b) = (a.vaddr ≡ b.vaddr) × (a.memsz ≡ b.memsz)

-- it stays below, and in pages of its own
stays_apart : (stop : ℕ) (before after : Option Segment) (s : Segment) → Comes stop before after → stop ≤ page_floor s.vaddr → against_any isnt_above before s ≡ false → against_any shares_page before s ≡ false
    → (against_any isnt_above after (later_load s) ≡ false) × (against_any shares_page after (later_load s) ≡ false)
stays_apart stop None None s comes low above apart = absurd comes
stays_apart stop (Some a) None s comes low above apart = absurd comes
stays_apart stop None (Some b) s comes low above apart =
    let end = comes.0 in
    let some = comes.1 in
    let up : b.vaddr < s.vaddr = omega arith in
    let past : (b.vaddr + b.memsz - 1) / 4096 < s.vaddr / 4096 = omega arith in
    (grind (arith, nat_tests, up), grind (arith, nat_tests, past))
stays_apart stop (Some a) (Some b) s comes low above apart =
    (subst (λ n. nat_le s.vaddr n ≡ false) comes.0 above, subst (λ n. (nat_le (page s.vaddr) (page (n + b.memsz - 1)) && nat_le (page n) (last_page s)) ≡ false) comes.0 (subst (λ n. (nat_le (page s.vaddr) (page (a.vaddr + n - 1)) && nat_le (page a.vaddr) (last_page s)) ≡ false) comes.1 apart))

-- a sound load of the original is one of the new file
load_sound : (len more stop i j : ℕ) (before after : Option Segment) (s : Segment) → len + 4096 ≤ more → is_load s ≡ true → Comes stop before after → stop ≤ page_floor s.vaddr
    → IsSound len (record { index = i; before = before; segment = s }) → IsSound more (record { index = j; before = after; segment = later_load s })
load_sound len more stop i j before after s room e comes low h =
    let l = sound_load len (record { index = i; before = before; segment = s }) e h in
    let kind = load_kind s e in
    let flags = plain_flags s.flags l.readable l.harmless in
    let stored = l.stored in
    let inside : s.offset + 4096 + s.filesz ≤ more = omega (arith, stored, room) in
    let aligned = misplaced_on s.align s.vaddr s.offset (both (is_load s) (nat_lt 1 s.align) (not (count_ones s.align == 1) || not (s.vaddr % s.align == s.offset % s.align)) e h.aligned) in
    let apart = stays_apart stop before after s comes low (sym (against_load isnt_above i before s e) ∙ h.above) (sym (against_load shares_page i before s e) ∙ h.apart) in
    record {
      fixed_place = h.fixed_place;
      plain_stack = rw kind refl;
      flags = ap₂ ◌&&◌ e flags.0;
      fixed = ap₂ ◌&&◌ e flags.1;
      small = h.small;
      stored = ap₂ ◌&&◌ e (grind (arith, nat_tests, inside));
      aligned = neither (is_load s) (nat_lt 1 (min s.align 4096)) (not (count_ones (min s.align 4096) == 1) || not (s.vaddr % min s.align 4096 == (s.offset + 4096) % min s.align 4096)) e aligned;
      near = h.near;
      above = against_load isnt_above j after (later_load s) e ∙ apart.0;
      apart = against_load shares_page j after (later_load s) e ∙ apart.1;
    }

-- so is any header that is no load
other_sound : (len more i j : ℕ) (before after : Option Segment) (s : Segment) → is_load s ≡ false → IsSound len (record { index = i; before = before; segment = s }) → IsSound more (record { index = j; before = after; segment = s })
other_sound len more i j before after s e h = record {
  fixed_place = h.fixed_place;
  plain_stack = h.plain_stack;
  flags = rw e refl;
  fixed = rw e refl;
  small = rw e refl;
  stored = rw e refl;
  aligned = rw e refl;
  near = rw e refl;
  above = against_other isnt_above j after s e;
  apart = against_other shares_page j after s e;
}

-- all kept headers
pub kept_sound : (len more stop : ℕ) → len + 4096 ≤ more → (i j : ℕ) (before after : Option Segment) (segs : List Segment) → Comes stop before after
    → AllByRecursion (λ s. stop ≤ page_floor s.vaddr) (filter is_load segs) → AllByRecursion (IsSound len) (placed_from i before segs) → AllByRecursion (IsSound more) (placed_from j after (kept_of segs))
kept_sound len more stop room i j before after [] comes low h = tt
kept_sound len more stop room i j before after (s ∷ segs) comes low h =
    go (is_load s) refl (is_stack s) refl low h.0 h.1 (λ i j before after comes low h. kept_sound len more stop room i j before after segs comes low h)
  where
    Rest : Type 0
    Rest =
        (i j : ℕ) (before after : Option Segment) → Comes stop before after → AllByRecursion (λ s. stop ≤ page_floor s.vaddr) (filter is_load segs)
        → AllByRecursion (IsSound len) (placed_from i before segs) → AllByRecursion (IsSound more) (placed_from j after (kept_of segs))

    -- the headers from this one on in the new file
    Kept : Bool → Bool → Type 0
    Kept load stack = AllByRecursion (IsSound more) (placed_from j after (if load || stack then moved s ∷ kept_of segs else kept_of segs))

    all_kept : is_kept s ≡ true → AllByRecursion (IsSound more) (placed_from j after (moved s ∷ kept_of segs)) → AllByRecursion (IsSound more) (placed_from j after (kept_of (s ∷ segs)))
    all_kept e k = rw e k

    none_kept : is_kept s ≡ false → AllByRecursion (IsSound more) (placed_from j after (kept_of segs)) → AllByRecursion (IsSound more) (placed_from j after (kept_of (s ∷ segs)))
    none_kept e k = rw e k

    go : (load : Bool) → is_load s ≡ load → (stack : Bool) → is_stack s ≡ stack → AllByRecursion (λ s. stop ≤ page_floor s.vaddr) (if load then s ∷ filter is_load segs else filter is_load segs)
        → IsSound len (record { index = i; before = before; segment = s }) → AllByRecursion (IsSound len) (placed_from (suc i) (if load then Some s else before) segs) → Rest → AllByRecursion (IsSound more) (placed_from j after (kept_of (s ∷ segs)))
    go true e stack f low one all rest =
        let moved_is = moved_load s e in
        let tail = rest (suc i) (suc j) (Some s) (Some (later_load s)) (refl, refl) low.1 all in
        all_kept (ap (λ b. b || is_stack s) e) (rw (moved_is, e) (load_sound len more stop i j before after s room e comes low.0 one, tail))
    go false e true f low one all rest =
        let moved_is = moved_other s e in
        let tail = rest (suc i) (suc j) before after comes low all in
        all_kept (ap₂ ◌||◌ e f) (rw (moved_is, e) (other_sound len more i j before after s e one, tail))
    go false e false f low one all rest = none_kept (ap₂ ◌||◌ e f) (rest (suc i) j before after comes low all)

pub load_first : (s : Segment) (segs : List Segment) → is_load s ≡ true → filter is_load (s ∷ segs) ≡ s ∷ filter is_load segs
load_first s segs e = rw e refl

other_first : (s : Segment) (segs : List Segment) → is_load s ≡ false → filter is_load (s ∷ segs) ≡ filter is_load segs
other_first s segs e = rw e refl

-- the loads among the kept headers are the loads, moved
pub loads_kept : (segs : List Segment) → filter is_load (kept_of segs) ≡ map moved (filter is_load segs)
loads_kept [] = refl
loads_kept (s ∷ segs) = go (is_load s) refl (is_stack s) refl (loads_kept segs)
  where
    go : (load : Bool) → is_load s ≡ load → (stack : Bool) → is_stack s ≡ stack → filter is_load (kept_of segs) ≡ map moved (filter is_load segs) → filter is_load (kept_of (s ∷ segs)) ≡ map moved (filter is_load (s ∷ segs))
    go true e stack f ih =
        ap (filter is_load) (kept_cons s segs true (ap (λ b. b || is_stack s) e))
        ∙ ap (λ (t : Segment). filter is_load (t ∷ kept_of segs)) (moved_load s e)
        ∙ load_first (later_load s) (kept_of segs) e
        ∙ ap₂ (λ (t : Segment) (l : List Segment). t ∷ l) (sym (moved_load s e)) ih
        ∙ ap (map moved) (sym (load_first s segs e))
    go false e true f ih =
        ap (filter is_load) (kept_cons s segs true (ap₂ ◌||◌ e f))
        ∙ ap (λ (t : Segment). filter is_load (t ∷ kept_of segs)) (moved_other s e)
        ∙ other_first s (kept_of segs) e
        ∙ ih
        ∙ ap (map moved) (sym (other_first s segs e))
    go false e false f ih = ap (filter is_load) (kept_cons s segs false (ap₂ ◌||◌ e f)) ∙ ih ∙ ap (map moved) (sym (other_first s segs e))

-- a kept header fits its places
encodable_moved : (len : ℕ) (p : Placed) → len ≤ 67108864 → IsSound len p → IsEncodable p.segment → IsEncodable (moved p.segment)
encodable_moved len p short h k = go (is_load p.segment) refl
  where
    s : Segment
    s = p.segment

    go : (b : Bool) → is_load p.segment ≡ b → IsEncodable (moved p.segment)
    go true e =
        let l = sound_load len p e h in
        let stored = l.stored in
        let flags = k.flags in
        let align = k.align in
        rw e (record { kind = k.kind; flags = omega arith; offset = omega arith; vaddr = k.vaddr; paddr = k.paddr; filesz = k.filesz; memsz = k.memsz; align = omega arith })
    go false e = rw e k

pub kept_encodable : (len : ℕ) → len ≤ 67108864 → (i : ℕ) (before : Option Segment) (n : ℕ) (t : List ℕ) → AreBytes t → AllByRecursion (IsSound len) (placed_from i before (segments_of n t)) → AllByRecursion IsEncodable (kept_of (segments_of n t))
kept_encodable len short i before zero t bytes h = tt
kept_encodable len short i before (suc n) t bytes h =
    let s = segment_of t in
    let rest = kept_encodable len short (suc i) (if is_load s then Some s else before) n (drop 56 t) (bytes_on 56 t bytes) h.1 in
    go (is_kept s) refl rest
  where
    go : (b : Bool) → is_kept (segment_of t) ≡ b → AllByRecursion IsEncodable (kept_of (segments_of n (drop 56 t))) → AllByRecursion IsEncodable (kept_of (segments_of (suc n) t))
    go true e rest = rw e (encodable_moved len (record { index = i; before = before; segment = segment_of t }) short h.0 (encodable_read t bytes), rest)
    go false e rest = rw e rest
