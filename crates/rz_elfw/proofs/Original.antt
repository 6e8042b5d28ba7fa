-- The program headers of an accepted file: they stand in it, and each is sound.
use Rattle.std.proofs.Common.{◌≡◌, ℕ, zero, suc, ◌+◌, ◌-◌, ◌*◌, ◌^◌, ◌<◌, ◌≤◌, Bool, true, false, ◌||◌, if◌then◌else◌, List, [], ◌∷◌, length, drop, map, Option, Some, None, refl, sym, ap, ap₂, ◌∙◌, subst, arith, drop-drop}
use Rattle.std.specs.Prelude.{filter}
use Rattle.std.specs.List.{AllByRecursion}
use Rattle.std.proofs.lemmas.Bool.Decides.{nat_tests}
use Rattle.rz_elf.specs.declared.segment.Segment.{Segment}
use Rattle.rz_elf.specs.declared.placed.Placed.{Placed}
use Rattle.rz_elf.specs.Elf.{segment_of, segments_of, segments, file_header, is_load, is_stack, placed_from, file_conditions, fault_of}
use Rattle.rz_elf.specs.WrittenFile.{moved}
use Rattle.rz_elf.specs.Laws.Conditions.{none_holds}
use Rattle.rz_elf.specs.Laws.Reading.{whole_header, file_faultless, headers_faultless, table_fits, few_headers}
use Rattle.rz_elf.specs.Laws.Sound.{IsSound, sound, sound_load}

-- whether a program header is kept, and what is kept of some
abbrev pub is_kept : Segment → Bool
is_kept s = is_load s || is_stack s

abbrev pub kept_of : List Segment → List Segment
kept_of segs = map moved (filter is_kept segs)

-- one header more is read
pub segments_turn : (x : List ℕ) (table count i : ℕ) → i < count
    → segments_of (count - i) (drop (table + 56 * i) x) ≡ segment_of (drop (table + 56 * i) x) ∷ segments_of (count - (i + 1)) (drop (table + 56 * (i + 1)) x)
segments_turn x table count i lt =
    let left : count - i ≡ suc (count - (i + 1)) = omega arith in
    let on : table + 56 * (i + 1) ≡ table + 56 * i + 56 = omega arith in
    let rest : drop (table + 56 * (i + 1)) x ≡ drop 56 (drop (table + 56 * i) x) = ap (λ k. drop k x) on ∙ sym (drop-drop 56 (table + 56 * i) x) in
    ap (λ k. segments_of k (drop (table + 56 * i) x)) left ∙ ap (λ t. segment_of (drop (table + 56 * i) x) ∷ segments_of (count - (i + 1)) t) (sym rest)

segments_begin : (x : List ℕ) → segments_of ((file_header x).count - 0) (drop ((file_header x).table_at + 56 * 0) x) ≡ segments x
segments_begin x =
    let count : (file_header x).count - 0 ≡ (file_header x).count = omega arith in
    let at : (file_header x).table_at + 56 * 0 ≡ (file_header x).table_at = omega arith in
    ap₂ (λ n k. segments_of n (drop k x)) count at

-- what is kept of the headers from one on
abbrev pub kept_from : List ℕ → ℕ → List Segment
kept_from x i = let h = file_header x in kept_of (segments_of (h.count - i) (drop (h.table_at + 56 * i) x))

pub kept_begin : (x : List ℕ) → kept_from x 0 ≡ kept_of (segments x)
kept_begin x = ap kept_of (segments_begin x)

pub kept_end : (x : List ℕ) (i : ℕ) → (file_header x).count ≤ i → kept_from x i ≡ []
kept_end x i le = let none : (file_header x).count - i ≡ 0 = omega arith in ap (λ k. kept_of (segments_of k (drop ((file_header x).table_at + 56 * i) x))) none

kept_turn : (x : List ℕ) (i : ℕ) → i < (file_header x).count
    → kept_from x i ≡ kept_of (segment_of (drop ((file_header x).table_at + 56 * i) x) ∷ segments_of ((file_header x).count - (i + 1)) (drop ((file_header x).table_at + 56 * (i + 1)) x))
kept_turn x i lt = ap kept_of (segments_turn x (file_header x).table_at (file_header x).count i lt)

pub kept_cons : (s : Segment) (segs : List Segment) (b : Bool) → is_kept s ≡ b → kept_of (s ∷ segs) ≡ (if b then moved s ∷ kept_of segs else kept_of segs)
kept_cons s segs true e = rw e refl
kept_cons s segs false e = rw e refl

-- a header that is kept, and one that is not
pub kept_more : (x : List ℕ) (i : ℕ) (s : Segment) → i < (file_header x).count → s ≡ segment_of (drop ((file_header x).table_at + 56 * i) x) → is_kept s ≡ true → kept_from x i ≡ moved s ∷ kept_from x (i + 1)
kept_more x i s lt e k =
    kept_turn x i lt
    ∙ ap (λ (t : Segment). kept_of (t ∷ segments_of ((file_header x).count - (i + 1)) (drop ((file_header x).table_at + 56 * (i + 1)) x))) (sym e)
    ∙ kept_cons s (segments_of ((file_header x).count - (i + 1)) (drop ((file_header x).table_at + 56 * (i + 1)) x)) true k

pub kept_same : (x : List ℕ) (i : ℕ) (s : Segment) → i < (file_header x).count → s ≡ segment_of (drop ((file_header x).table_at + 56 * i) x) → is_kept s ≡ false → kept_from x i ≡ kept_from x (i + 1)
kept_same x i s lt e k =
    kept_turn x i lt
    ∙ ap (λ (t : Segment). kept_of (t ∷ segments_of ((file_header x).count - (i + 1)) (drop ((file_header x).table_at + 56 * (i + 1)) x))) (sym e)
    ∙ kept_cons s (segments_of ((file_header x).count - (i + 1)) (drop ((file_header x).table_at + 56 * (i + 1)) x)) false k

length_segments : (n : ℕ) (t : List ℕ) → length (segments_of n t) ≡ n
length_segments zero t = refl
length_segments (suc n) t = let e = length_segments n (drop 56 t) in omega (arith, e)

-- no more are kept than there are
pub few_kept : (segs : List Segment) → length (kept_of segs) ≤ length segs
few_kept [] = omega arith
few_kept (s ∷ segs) = go (is_kept s) refl (few_kept segs)
  where
    go : (b : Bool) → is_kept s ≡ b → length (kept_of segs) ≤ length segs → length (kept_of (s ∷ segs)) ≤ length (s ∷ segs)
    go true e ih = rw e (omega (arith, ih))
    go false e ih = rw e (omega (arith, ih))

-- a header of sound ones
sound_at : (len i : ℕ) (before : Option Segment) (n : ℕ) (t : List ℕ) (k : ℕ) → AllByRecursion (IsSound len) (placed_from i before (segments_of n t)) → k < n
    → (p : Placed) × IsSound len p × (p.segment ≡ segment_of (drop (56 * k) t))
sound_at len i before zero t k h lt = absurd (omega arith)
sound_at len i before (suc n) t zero h lt = (record { index = i; before = before; segment = segment_of t }, h.0, refl)
sound_at len i before (suc n) t (suc k) h lt =
    let q = sound_at len (suc i) (if is_load (segment_of t) then Some (segment_of t) else before) n (drop 56 t) k h.1 (omega arith) in
    let on : 56 * suc k ≡ 56 + 56 * k = omega arith in
    (q.0, q.1, q.2 ∙ ap segment_of (drop-drop (56 * k) 56 t ∙ ap (λ j. drop j t) (sym on)))

module _ (x : List ℕ) (accepted : fault_of x ≡ None) where
  pub whole : 64 ≤ length x
  whole = whole_header x accepted

  pub short : length x ≤ 67108864
  short = let t = (none_holds (file_conditions x) (sym (file_faultless x accepted))).0 in grind (arith, nat_tests, t)

  pub table_inside : (file_header x).table_at + 56 * (file_header x).count ≤ length x
  table_inside = table_fits x (file_faultless x accepted)

  pub sound_headers : AllByRecursion (IsSound (length x)) (placed_from 0 None (segments x))
  sound_headers = sound (length x) (placed_from 0 None (segments x)) (headers_faultless x accepted)

  pub few_kept_headers : length (kept_of (segments x)) ≤ 64
  few_kept_headers =
      let a = few_kept (segments x) in
      let b = length_segments (file_header x).count (drop (file_header x).table_at x) in
      let c = few_headers x (file_faultless x accepted) in
      omega (arith, a, b, c)

  -- a load can be moved by a page
  pub movable : (i : ℕ) (s : Segment) → i < (file_header x).count → s ≡ segment_of (drop ((file_header x).table_at + 56 * i) x) → is_load s ≡ true → s.offset + 4096 < 2 ^ 64
  movable i s lt e load =
      let q = sound_at (length x) 0 None (file_header x).count (drop (file_header x).table_at x) i sound_headers lt in
      let same : q.0.segment ≡ s = q.2 ∙ ap segment_of (drop-drop (56 * i) (file_header x).table_at x) ∙ sym e in
      let stored = (sound_load (length x) q.0 (subst (λ (t : Segment). is_load t ≡ true) (sym same) load) q.1).stored in
      let near : q.0.segment.offset ≤ 67108864 = let l = short in omega (arith, l, stored) in
      let at : q.0.segment.offset ≡ s.offset = ap (λ (t : Segment). t.offset) same in
      omega (arith, near, at)
