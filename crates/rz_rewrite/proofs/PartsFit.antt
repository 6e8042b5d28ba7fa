-- Where there is room for the added parts of an accepted file, they are as its writer wants them.
use Rattle.std.proofs.Common.{◌≡◌, ℕ, ◌+◌, ◌-◌, ◌*◌, ◌%◌, ◌<◌, ◌≤◌, Bool, true, false, if◌then◌else◌, nat_lt, List, length, Option, Some, None, refl, sym, ap, ◌∙◌, subst, arith}
use Rattle.std.proofs.lemmas.Bool.Decides.{nat_tests}
use Rattle.rz_num.specs.Page.{page_up}
use Rattle.rz_elf.specs.declared.room.Extent.{Extent}
use Rattle.rz_elf.specs.declared.room.Room.{Room}
use Rattle.rz_elf.specs.Elf.{fault_of, image_of}
use Rattle.rz_elf.specs.Format.{stub_size}
use Rattle.rz_elf.specs.AddedRange.{Added, scratch_size, tables_size, code_size, stubs_size, lowest, page_floor, parts_below, stubs_part}
use Rattle.rz_elf.specs.Room.{extent_of, no_room, parts_size, parts_end, IsPages, ArePages, IsInCode}
use Rattle.rz_elf.specs.WrittenFile.{Parts, new_image, written_file}
use Rattle.rz_isa.specs.Nodes.{Decoder}
use Rattle.rz_machine.specs.Kept.{Kept, sorted}
use Rattle.rz_machine.specs.Added.{node_count, site_count, site_edge_count, added}
use Rattle.rz_machine.specs.WrittenFile.{IsAdded, Inert}
use Rattle.rz_rewrite.specs.Refusals.{added_size, no_room_for}
use Rattle.rz_rewrite.specs.Rewritten.{HasRoom}
use Rattle.rz_rewrite.proofs.Parts.{Lie}
use Rattle.rz_rewrite.proofs.PartRoom.{lie, length-stubs_part}

-- the first cause doesn't hold
not_low : (b : Bool) (r : Room) (rest : Option Room) → (if b then Some r else rest) ≡ None → b ≡ false
not_low true r rest h = absurd (cc)
not_low false r rest h = refl

pub room_below : (e : Extent) (size : ℕ) → no_room e size ≡ None → 0x10000 + scratch_size + size ≤ e.floor
room_below e size h = not_less e.floor (0x10000 + scratch_size + size) (not_low _ _ _ h)
  where
    not_less : (a b : ℕ) → nat_lt a b ≡ false → b ≤ a
    not_less a b h = grind (arith, nat_tests, h)

-- a size rounded up is one or more whole pages
pages_of : (size : ℕ) (bytes : List ℕ) → 0 < size → length bytes ≡ page_up size → IsPages bytes
pages_of size bytes some e = (more (length bytes) some e, whole (length bytes) e)
  where
    more : (l : ℕ) → 0 < size → l ≡ page_up size → 0 < l
    more l some e = omega arith

    whole : (l : ℕ) → l ≡ page_up size → l % 4096 ≡ 0
    whole l e = omega arith

-- parts that lie one after the other up to the stop are as long as they should be
sizes_are : (t c s stop : ℕ) → scratch_size + t + c + s ≤ stop → let a = parts_below t c s stop in (a.code - a.tables ≡ t) × (a.stubs - a.code ≡ c) × (a.stop - a.stubs ≡ s)
sizes_are t c s stop h = (omega arith, omega arith, omega arith)

module _ (dec : Decoder) (x : List ℕ) (kept : Kept) (none : no_room_for dec x kept ≡ None) where
  abbrev j : ℕ
  j = site_count dec (image_of x) kept

  abbrev e : ℕ
  e = site_edge_count dec (image_of x) kept

  abbrev n : ℕ
  n = node_count kept

  abbrev a : Added
  a = added dec (image_of x) kept

  pub has_room : HasRoom dec (image_of x) kept
  has_room = go (tables_size j e) (code_size n j e) (stubs_size n) (page_floor (lowest (image_of x).loads)) (room_below (extent_of x) (added_size dec (image_of x) kept) none)
    where
      go : (t c s stop : ℕ) → 0x10000 + scratch_size + (t + c + s) ≤ stop → scratch_size + t + c + s ≤ stop
      go t c s stop h = omega arith

  module _ (some : 1 ≤ node_count kept) (parts : Parts) (entry : ℕ) (are : IsAdded (added dec (image_of x) kept) (sorted kept.nodes) parts entry) where
    where_parts_lie : Lie a parts.base (length parts.tables) (length parts.code) (length parts.stubs)
    where_parts_lie = lie dec (image_of x) kept has_room parts entry are

    sizes : (a.code - a.tables ≡ tables_size j e) × (a.stubs - a.code ≡ code_size n j e) × (a.stop - a.stubs ≡ stubs_size n)
    sizes = sizes_are (tables_size j e) (code_size n j e) (stubs_size n) (page_floor (lowest (image_of x).loads)) has_room

    tables_long : length parts.tables ≡ tables_size j e
    tables_long = are.tables ∙ sizes.0

    code_long : length parts.code ≡ code_size n j e
    code_long = are.code ∙ sizes.1

    stubs_long : length parts.stubs ≡ stubs_size n
    stubs_long = length-stubs_part dec (image_of x) kept has_room parts entry are ∙ sizes.2

    pub are_pages : ArePages parts
    are_pages = record {
      tables = pages_of (16 * j + 8 * e + 1) parts.tables (omega arith) tables_long;
      code = pages_of (32 * n + 160 * j + 48 * e + 512) parts.code (omega arith) code_long;
      stubs = pages_of (stub_size * n) parts.stubs (omega (arith, some)) stubs_long;
    }

    pub end_at_floor : parts_end parts ≡ (extent_of x).floor
    end_at_floor = go parts.base (length parts.tables) (length parts.code) (length parts.stubs) ∙ where_parts_lie.stop
      where
        go : (b t c s : ℕ) → b + scratch_size + (t + c + s) ≡ b + scratch_size + t + c + s
        go b t c s = omega arith

    pub entry_in_code : IsInCode parts entry
    entry_in_code =
        (subst (λ v. v ≤ entry) (sym where_parts_lie.code) are.entry_from, subst (λ v. entry < v) (sym where_parts_lie.stubs) are.entry_below)

    pub has_room_for_parts : no_room (extent_of x) (parts_size parts) ≡ None
    has_room_for_parts =
        let size : parts_size parts ≡ added_size dec (image_of x) kept = λ i. tables_long i + code_long i + stubs_long i in
        ap (no_room (extent_of x)) size ∙ none

-- the written file of such parts is inert
pub inert_of : (dec : Decoder) (x w : List ℕ) (kept : Kept) (p : Parts) (entry : ℕ) → IsAdded (added dec (image_of x) kept) (sorted kept.nodes) p entry
    → w ≡ written_file x p entry → fault_of w ≡ None → image_of w ≡ new_image (image_of x) p entry → Inert dec x w kept
inert_of dec x w kept p entry h bytes accepted image =
    let a = added dec (image_of x) kept in
    let b = h.base in
    let s = h.stubs in
    let same : p ≡ record { base = a.scratch; tables = p.tables; code = p.code; stubs = stubs_part a (sorted kept.nodes) } = λ i. record { base = b i; tables = p.tables; code = p.code; stubs = s i } in
    record {
      tables = p.tables;
      code = p.code;
      entry = entry;
      tables_long = h.tables;
      code_long = h.code;
      entry_in_code = (h.entry_from, h.entry_below);
      bytes = bytes ∙ ap (λ (q : Parts). written_file x q entry) same;
      accepted = accepted;
      image = image ∙ ap (λ (q : Parts). new_image (image_of x) q entry) same;
    }
