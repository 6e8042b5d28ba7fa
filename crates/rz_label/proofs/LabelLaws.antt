-- A labelled file is accepted, stamped, and loads the same.
use Rattle.std.proofs.Common.{◌≡◌, ◌≢◌, ℕ, zero, suc, ◌+◌, ◌-◌, ◌*◌, ◌/◌, ◌≤◌, Bool, true, false, not, ◌&&◌, ◌||◌, if◌then◌else◌, nat_lt, nat_le, ◌==◌, List, [], ◌∷◌, ◌++◌, length, take, drop, map, filter, Option, Some, None, refl, sym, ap, ap₂, ◌∙◌, subst, arith, append_assoc, length-append}
use Rattle.std.specs.Prelude.{nat_eq, flat_map}
use Rattle.std.specs.List.{AllByRecursion, list_any, starts_with}
use Rattle.std.specs.Cmp.Lexicographic.{pointwise}
use Rattle.std.proofs.lemmas.Bool.Decides.{nat_tests}
use Rattle.rz_image.specs.Memory.{zeros}
use Rattle.rz_image.specs.Laws.Zeros.{length-zeros}
use Rattle.rz_num.specs.Page.{page_up}
use Rattle.rz_elf.specs.declared.elf.Load.{Load}
use Rattle.rz_elf.specs.declared.fault.ElfFault.TheVariants as fault
use Rattle.rz_elf.specs.declared.header.FileHeader.{FileHeader}
use Rattle.rz_elf.specs.declared.placed.Placed.{Placed}
use Rattle.rz_elf.specs.Elf.{Condition, field, file_header, file_conditions, header_conditions, load_conditions, fault_of, highest_end, image_of, is_load, load_region, loads, placed, placed_from, segments, segments_of, perm_of}
use Rattle.rz_elf.specs.Format.{current_version, executable_type, x86_64, stamp_at, stamp_with, added_loads}
use Rattle.rz_elf.specs.Loaded.{ElfFile, IsRead, elf_of, is_load_header, load_of}
use Rattle.rz_elf.specs.Stamped.{stamp_of}
use Rattle.rz_elf.specs.Laws.Conditions.{NoneHolds, NoneHolds-append, first_of_none, none_holds}
use Rattle.rz_elf.specs.Laws.HeaderList.{loads_placed}
use Rattle.rz_elf.specs.Laws.Reading.{file_faultless, headers_faultless, loads_faultless, table_fits, whole_header, accepted_loads, load_headers}
use Rattle.rz_elf.specs.Laws.Sound.{IsSound, IsSoundLoad, sound, faultless_where_sound}
use Rattle.rz_label.specs.Labelled.{headers_at, label_sections, labelled, labelled_len, load_maps_header, maps_header, names, names_at, names_behind, section_bytes, with_sections_at}
use Rattle.rz_label.proofs.Unchanged.{changed, low, high, len_changed, field_by_bytes, same_header, same_segments}

-- ---- the conditions on a file, of a longer one

abbrev conditions : ℕ → Bool → ℕ → ℕ → ℕ → FileHeader → List Condition
conditions len magic class order version h =
    (nat_lt 67108864 len, fault.Long)
    ∷ (nat_lt len 64, fault.Short)
    ∷ (not magic, fault.Magic)
    ∷ (not (class == 2), fault.Class)
    ∷ (not (order == 1), fault.Data)
    ∷ (not (version == current_version) || not (h.version == current_version), fault.Version)
    ∷ (not (h.file_type == executable_type), fault.FileType)
    ∷ (not (h.machine == x86_64), fault.Machine)
    ∷ (not (h.header_size == 64), fault.HeaderSize)
    ∷ (not (h.entry_size == 56), fault.EntrySize)
    ∷ (h.count == 0 || nat_lt 64 h.count, fault.Count)
    ∷ (nat_lt len (h.table_at + 56 * h.count), fault.TableRange)
    ∷ []

longer : (len more : ℕ) (magic : Bool) (class order version : ℕ) (h : FileHeader) → len ≤ more → more ≤ 67108864 → NoneHolds (conditions len magic class order version h) → NoneHolds (conditions more magic class order version h)
longer len more magic class order version h le short n =
    let first : nat_lt 67108864 more ≡ false = grind (arith, nat_tests, short) in
    let was = n.1.0 in
    let second : nat_lt more 64 ≡ false = grind (arith, nat_tests, le, was) in
    let table = n.1.1.1.1.1.1.1.1.1.1.1.0 in
    let last : nat_lt more (h.table_at + 56 * h.count) ≡ false = grind (arith, nat_tests, le, table) in
    (first, (second, (n.1.1.0, (n.1.1.1.0, (n.1.1.1.1.0, (n.1.1.1.1.1.0, (n.1.1.1.1.1.1.0, (n.1.1.1.1.1.1.1.0, (n.1.1.1.1.1.1.1.1.0, (n.1.1.1.1.1.1.1.1.1.0, (n.1.1.1.1.1.1.1.1.1.1.0, (last, tt))))))))))))

-- ---- program headers in a longer file

sound_longer : (len more : ℕ) (p : Placed) → len ≤ more → IsSound len p → IsSound more p
sound_longer len more p le h =
    record {
      fixed_place = h.fixed_place;
      plain_stack = h.plain_stack;
      flags = h.flags;
      fixed = h.fixed;
      small = h.small;
      stored = go (is_load p.segment) h.stored;
      aligned = h.aligned;
      near = h.near;
      above = h.above;
      apart = h.apart;
    }
  where
    go : (b : Bool) → (b && nat_lt len (p.segment.offset + p.segment.filesz)) ≡ false → (b && nat_lt more (p.segment.offset + p.segment.filesz)) ≡ false
    go true e = grind (arith, nat_tests, le, e)
    go false e = refl

all_longer : (len more : ℕ) (ps : List Placed) → len ≤ more → AllByRecursion (IsSound len) ps → AllByRecursion (IsSound more) ps
all_longer len more [] le h = tt
all_longer len more (p ∷ ps) le h = (sound_longer len more p le h.0, all_longer len more ps le h.1)

module _ (x : List ℕ) (at : ℕ) (tail : List ℕ) (accepted : fault_of x ≡ None) (unmapped : 64 ≤ (file_header x).table_at) (short : length x + length tail ≤ 67108864) where
  pub whole : 64 ≤ length x
  whole = whole_header x accepted

  abbrev y : List ℕ
  y = changed x at tail whole

  longer_file : length x ≤ length y
  longer_file = let e = len_changed x at tail whole in omega (arith, e)

  short_file : length y ≤ 67108864
  short_file = let e = len_changed x at tail whole in omega (arith, e, short)

  header_is : file_header y ≡ file_header x
  header_is = same_header x at tail whole

  segments_are : segments y ≡ segments x
  segments_are =
      let h = file_header x in
      let fits = table_fits x (file_faultless x accepted) in
      ap (λ (g : FileHeader). segments_of g.count (drop g.table_at y)) header_is
      ∙ same_segments x at tail whole h.count h.table_at unmapped fits

  placed_are : placed y ≡ placed x
  placed_are = ap (placed_from 0 None) segments_are

  file_none : NoneHolds (file_conditions y)
  file_none =
      let n = none_holds (file_conditions x) (sym (file_faultless x accepted)) in
      let m : NoneHolds (conditions (length y) (starts_with nat_eq x (0x7f ∷ 0x45 ∷ 0x4c ∷ 0x46 ∷ [])) (field x 4 1) (field x 5 1) (field x 6 1) (file_header x)) =
      longer (length x) (length y) (starts_with nat_eq x (0x7f ∷ 0x45 ∷ 0x4c ∷ 0x46 ∷ [])) (field x 4 1) (field x 5 1) (field x 6 1) (file_header x) longer_file short_file n in
      let magic : starts_with nat_eq y (0x7f ∷ 0x45 ∷ 0x4c ∷ 0x46 ∷ []) ≡ starts_with nat_eq x (0x7f ∷ 0x45 ∷ 0x4c ∷ 0x46 ∷ []) =
      ap (λ f. pointwise nat_eq (0x7f ∷ 0x45 ∷ 0x4c ∷ 0x46 ∷ []) f) (low x at tail whole 4 0 (omega arith)) in
      let class = field_by_bytes 1 4 y x (low x at tail whole 1 4 (omega arith)) in
      let order = field_by_bytes 1 5 y x (low x at tail whole 1 5 (omega arith)) in
      let version = field_by_bytes 1 6 y x (low x at tail whole 1 6 (omega arith)) in
      subst (λ b. NoneHolds (conditions (length y) b (field y 4 1) (field y 5 1) (field y 6 1) (file_header y))) (sym magic)
      (subst (λ h. NoneHolds (conditions (length y) (starts_with nat_eq x (0x7f ∷ 0x45 ∷ 0x4c ∷ 0x46 ∷ [])) (field y 4 1) (field y 5 1) (field y 6 1) h)) (sym header_is)
      (subst (λ a. NoneHolds (conditions (length y) (starts_with nat_eq x (0x7f ∷ 0x45 ∷ 0x4c ∷ 0x46 ∷ [])) a (field y 5 1) (field y 6 1) (file_header x))) (sym class)
      (subst (λ a. NoneHolds (conditions (length y) (starts_with nat_eq x (0x7f ∷ 0x45 ∷ 0x4c ∷ 0x46 ∷ [])) (field x 4 1) a (field y 6 1) (file_header x))) (sym order)
      (subst (λ a. NoneHolds (conditions (length y) (starts_with nat_eq x (0x7f ∷ 0x45 ∷ 0x4c ∷ 0x46 ∷ [])) (field x 4 1) (field x 5 1) a (file_header x))) (sym version) m))))

  headers_none : NoneHolds (header_conditions (length y) (placed y))
  headers_none =
      subst (λ ps. NoneHolds (header_conditions (length y) ps)) (sym placed_are)
      (faultless_where_sound (length y) (placed x) (all_longer (length x) (length y) (placed x) longer_file (sound (length x) (placed x) (headers_faultless x accepted))))

  loads_none : NoneHolds (load_conditions (file_header y).entry (loads y))
  loads_none =
      let n = none_holds (load_conditions (file_header x).entry (loads x)) (loads_faultless x accepted) in
      subst (λ (h : FileHeader). NoneHolds (load_conditions h.entry (loads y))) (sym header_is)
      (subst (λ ss. NoneHolds (load_conditions (file_header x).entry (filter is_load ss))) (sym segments_are) n)

  -- it is accepted
  pub accepted_still : fault_of y ≡ None
  unfolding fault_of
  accepted_still =
      let fs = file_conditions y in
      let hs = header_conditions (length y) (placed y) in
      let ls = load_conditions (file_header y).entry (loads y) in
      first_of_none (fs ++ (hs ++ ls)) (NoneHolds-append fs (hs ++ ls) file_none (NoneHolds-append hs ls headers_none loads_none))

  -- and stamped as before
  pub stamped_still : stamp_of (elf_of y) ≡ stamp_of (elf_of x)
  stamped_still =
      let stamp : starts_with nat_eq (drop stamp_at y) (stamp_with 1) ≡ starts_with nat_eq (drop stamp_at x) (stamp_with 1) =
      ap (λ f. pointwise nat_eq (stamp_with 1) f) (low x at tail whole 7 9 (omega arith)) in
      let count : nat_le added_loads (length (elf_of y).loads) ≡ nat_le added_loads (length (elf_of x).loads) = ap (λ ps. nat_le added_loads (length (map load_of (filter is_load_header ps)))) placed_are in
      ap (λ b. if b then Some 1 else None) (ap₂ ◌&&◌ stamp count)

  -- ---- what is loaded

  same_bytes : (p : Placed) → IsSoundLoad (length x) p → load_maps_header (load_of p) ≡ false → take p.segment.filesz (drop p.segment.offset y) ≡ take p.segment.filesz (drop p.segment.offset x)
  same_bytes p is out = go p.segment.filesz refl
    where
      go : (n : ℕ) → p.segment.filesz ≡ n → take n (drop p.segment.offset y) ≡ take n (drop p.segment.offset x)
      go zero e = refl
      go (suc n) e =
          let stored = is.stored in
          let past : 64 ≤ p.segment.offset = grind (arith, nat_tests, out, e) in
          high x at tail whole (suc n) p.segment.offset past (omega (arith, stored, e))

  same_regions : (ps : List Placed) → AllByRecursion (IsSoundLoad (length x)) ps → list_any load_maps_header (map load_of ps) ≡ false → map (load_region y) (map (λ (p : Placed). p.segment) ps) ≡ map (load_region x) (map (λ (p : Placed). p.segment) ps)
  same_regions [] is out = refl
  same_regions (p ∷ ps) is out =
      let parts = go (load_maps_header (load_of p)) (list_any load_maps_header (map load_of ps)) out in
      let bytes = same_bytes p is.0 parts.0 in
      ap₂ (λ (b : List ℕ) rs. (record { base = p.segment.vaddr; bytes = b ++ zeros (p.segment.memsz - p.segment.filesz); opened = p.segment.memsz; perm = perm_of p.segment.flags }) ∷ rs) bytes (same_regions ps is.1 parts.1)
    where
      go : (a b : Bool) → (a || b) ≡ false → (a ≡ false) × (b ≡ false)
      go true b h = absurd (cc)
      go false b h = (refl, h)

  pub image_still : list_any load_maps_header (elf_of x).loads ≡ false → image_of y ≡ image_of x
  unfolding image_of
  image_still out =
      let ls : loads y ≡ loads x = ap (filter is_load) segments_are in
      let listed = loads_placed x in
      let regions = same_regions (load_headers x) (accepted_loads x accepted) out in
      let all : map (load_region y) (loads y) ≡ map (load_region x) (loads x) =
      ap (map (load_region y)) (ls ∙ sym listed) ∙ regions ∙ ap (map (load_region x)) listed in
      let entry = ap (λ (h : FileHeader). h.entry) header_is in
      let top = ap (λ ss. page_up (highest_end ss)) ls in
      λ i. record { loads = all i; entry = entry i; first_break = top i }

-- an accepted file has at most 67,108,864 bytes
pub short_where_accepted : (x : List ℕ) → fault_of x ≡ None → length x ≤ 67108864
short_where_accepted x accepted = let t = (none_holds (file_conditions x) (sym (file_faultless x accepted))).0 in grind (arith, nat_tests, t)

-- ---- the labelled file

four_sections : (loads : List Load) (at : ℕ) → 4 ≤ length loads → length (flat_map section_bytes (label_sections loads at)) ≡ 384
four_sections [] at h = absurd (omega (arith, h))
four_sections (a ∷ []) at h = absurd (omega (arith, h))
four_sections (a ∷ b ∷ []) at h = absurd (omega (arith, h))
four_sections (a ∷ b ∷ d ∷ []) at h = absurd (omega (arith, h))
four_sections (a ∷ b ∷ d ∷ e ∷ rest) at h = refl

-- what stands behind the file
abbrev behind : ElfFile → List ℕ
behind elf = let len = length elf.bytes in names_behind len ++ flat_map section_bytes (label_sections elf.loads (names_at len))

len_names : (len : ℕ) → length (names_behind len) + len ≡ headers_at len
len_names len =
    let filler = zeros (headers_at len - (names_at len + 65)) in
    let a = length-append (zeros (names_at len - len)) (names ++ filler) in
    let b = length-append names filler in
    let e = length-zeros (names_at len - len) in
    let f = length-zeros (headers_at len - (names_at len + 65)) in
    let names_past : len ≤ (len + 7) / 8 * 8 = omega arith in
    let headers_past : (len + 7) / 8 * 8 + 65 ≤ ((len + 7) / 8 * 8 + 65 + 7) / 8 * 8 = omega arith in
    omega (arith, a, b, e, f, names_past, headers_past)

len_behind : (elf : ElfFile) → 4 ≤ length elf.loads → length elf.bytes + length (behind elf) ≡ labelled_len (length elf.bytes)
len_behind elf four =
    let len : ℕ = length elf.bytes in
    let a = length-append (names_behind len) (flat_map section_bytes (label_sections elf.loads (names_at len))) in
    let b = len_names len in
    let g = four_sections elf.loads (names_at len) four in
    omega (arith, a, b, g)

some_stamp : (a b : Bool) → ◌≢◌ {A = Option ℕ} (if a && b then Some 1 else None) None → b ≡ true
some_stamp a true h = refl
some_stamp true false h = absurd (h refl)
some_stamp false false h = absurd (h refl)

neither : (a b : Bool) → (a || b) ≡ false → (a ≡ false) × (b ≡ false)
neither true b h = absurd (cc)
neither false b h = (refl, h)

module _ (elf : ElfFile) (is : IsRead elf) (stamped : stamp_of elf ≢ None) (unmapped : maps_header elf ≡ false) (small : labelled_len (length elf.bytes) ≤ 67108864) where
  four : 4 ≤ length elf.loads
  four =
      let t : nat_le 4 (length elf.loads) ≡ true = some_stamp (starts_with nat_eq (drop stamp_at elf.bytes) (stamp_with 1)) (nat_le added_loads (length elf.loads)) stamped in
      grind (arith, nat_tests, t)

  parts : (nat_lt (file_header elf.bytes).table_at 64 ≡ false) × (list_any load_maps_header elf.loads ≡ false)
  parts = neither (nat_lt (file_header elf.bytes).table_at 64) (list_any load_maps_header elf.loads) unmapped

  table : 64 ≤ (file_header elf.bytes).table_at
  table = let t = parts.0 in grind (arith, nat_tests, t)

  fits : length elf.bytes + length (behind elf) ≤ 67108864
  fits = let e = len_behind elf four in omega (arith, e, small)

  pub labelled_length : length (labelled elf) ≡ labelled_len (length elf.bytes)
  unfolding labelled
  labelled_length = len_changed elf.bytes (headers_at (length elf.bytes)) (behind elf) (whole_header elf.bytes is.accepted) ∙ len_behind elf four

  pub labelled_accepted : fault_of (labelled elf) ≡ None
  unfolding labelled
  labelled_accepted = accepted_still elf.bytes (headers_at (length elf.bytes)) (behind elf) is.accepted table fits

  pub labelled_stamped : stamp_of (elf_of (labelled elf)) ≡ stamp_of elf
  unfolding labelled
  labelled_stamped = stamped_still elf.bytes (headers_at (length elf.bytes)) (behind elf) is.accepted table fits ∙ ap stamp_of (sym is.read)

  pub labelled_image : image_of (labelled elf) ≡ image_of elf.bytes
  unfolding labelled
  labelled_image =
      let listed : list_any load_maps_header (elf_of elf.bytes).loads ≡ false = ap (λ (e : ElfFile). list_any load_maps_header e.loads) (sym is.read) ∙ parts.1 in
      image_still elf.bytes (headers_at (length elf.bytes)) (behind elf) is.accepted table fits listed

-- the parts of a labelled file, appended one by one
pub labelled_joined : (out file : List ℕ) (loads : List Load) (elf : ElfFile) → file ≡ elf.bytes → loads ≡ elf.loads
    → ((out ++ with_sections_at file (headers_at (length file))) ++ names_behind (length file)) ++ flat_map section_bytes (label_sections loads (names_at (length file))) ≡ out ++ labelled elf
unfolding labelled
labelled_joined out file loads elf bytes listed =
    append_assoc (out ++ with_sections_at file (headers_at (length file))) (names_behind (length file)) (flat_map section_bytes (label_sections loads (names_at (length file))))
    ∙ append_assoc out (with_sections_at file (headers_at (length file))) (names_behind (length file) ++ flat_map section_bytes (label_sections loads (names_at (length file))))
    ∙ ap₂ (λ (x : List ℕ) (ls : List Load). out ++ (with_sections_at x (headers_at (length x)) ++ (names_behind (length x) ++ flat_map section_bytes (label_sections ls (names_at (length x)))))) bytes listed
