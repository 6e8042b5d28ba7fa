-- The added parts where they fit: each has room for what it holds, all at low addresses.
use Rattle.std.proofs.Common.{◌≡◌, ℕ, ◌+◌, ◌-◌, ◌*◌, ◌≤◌, length, ap, ◌∙◌, arith}
use Rattle.rz_isa.specs.Nodes.{Decoder}
use Rattle.rz_elf.specs.Elf.{Image}
use Rattle.rz_elf.specs.Format.{stub_size, all_stubs}
use Rattle.rz_elf.specs.AddedRange.{Added, lowest, page_floor, tables_size, code_size, stubs_size}
use Rattle.rz_elf.specs.PlainImage.{IsPlainImage}
use Rattle.rz_elf.specs.WrittenFile.{Parts}
use Rattle.rz_machine.specs.Added.{added, node_count, site_count, site_edge_count}
use Rattle.rz_machine.specs.Kept.{Kept, sorted}
use Rattle.rz_machine.specs.WrittenFile.{IsAdded}
use Rattle.rz_rewrite.specs.Rewritten.{HasRoom}
use Rattle.rz_rewrite.proofs.Parts.{page_up-least, lowest_low, Lie, parts_lie, length-filled, length-all_stubs}

module _ (dec : Decoder) (x : Image) (kept : Kept) (room : HasRoom dec x kept) where
  abbrev a : Added
  a = added dec x kept

  abbrev size : ℕ
  size = node_count kept

  abbrev j : ℕ
  j = site_count dec x kept

  abbrev e : ℕ
  e = site_edge_count dec x kept

  -- the code part has 32 bytes a node, 160 a site and 48 an edge that leaves one, and more
  pub code_room : a.code + (32 * size + 160 * j + 48 * e + 512) ≤ a.stubs
  code_room = go (tables_size j e) (code_size size j e) (stubs_size size) (page_floor (lowest x.loads)) room (page_up-least (32 * size + 160 * j + 48 * e + 512))
    where
      go : (t c s stop : ℕ) → 4096 + t + c + s ≤ stop → 32 * size + 160 * j + 48 * e + 512 ≤ c → stop - s - c + (32 * size + 160 * j + 48 * e + 512) ≤ stop - s
      go t c s stop h long = omega arith

  -- the stubs part has the bytes of a stub for each node
  pub stubs_room : a.stubs + stub_size * size ≤ a.stop
  stubs_room = go (tables_size j e) (code_size size j e) (stubs_size size) (page_floor (lowest x.loads)) room (page_up-least (stub_size * size))
    where
      go : (t c s stop : ℕ) → 4096 + t + c + s ≤ stop → stub_size * size ≤ s → stop - s + stub_size * size ≤ stop
      go t c s stop h long = omega arith

  -- the scratch page stands before the code
  pub scratch_room : a.scratch + 4096 ≤ a.code
  scratch_room = go (tables_size j e) (code_size size j e) (stubs_size size) (page_floor (lowest x.loads)) room
    where
      go : (t c s stop : ℕ) → 4096 + t + c + s ≤ stop → stop - s - c - t - 4096 + 4096 ≤ stop - s - c
      go t c s stop h = omega arith

  -- the tables stand behind the scratch page, and have 16 bytes a site and 8 an edge that leaves one
  pub tables_begin : a.scratch + 4096 ≡ a.tables
  tables_begin = go (tables_size j e) (code_size size j e) (stubs_size size) (page_floor (lowest x.loads)) room
    where
      go : (t c s stop : ℕ) → 4096 + t + c + s ≤ stop → stop - s - c - t - 4096 + 4096 ≡ stop - s - c - t
      go t c s stop h = omega arith

  pub tables_room : a.tables + (16 * j + 8 * e) ≤ a.code
  tables_room = go (tables_size j e) (code_size size j e) (stubs_size size) (page_floor (lowest x.loads)) room (page_up-least (16 * j + 8 * e + 1))
    where
      go : (t c s stop : ℕ) → 4096 + t + c + s ≤ stop → 16 * j + 8 * e + 1 ≤ t → stop - s - c - t + (16 * j + 8 * e) ≤ stop - s - c
      go t c s stop h long = omega arith

  -- the parts end at a low address
  pub stop_low : IsPlainImage x → a.stop ≤ 0x70000000
  stop_low plain = go (lowest x.loads) (lowest_low x.loads plain)
    where
      go : (v : ℕ) → v ≤ 0x70000000 → page_floor v ≤ 0x70000000
      go v h = omega arith

  module _ (parts : Parts) (entry : ℕ) (are : IsAdded (added dec x kept) (sorted kept.nodes) parts entry) where
    -- the stubs fill their part
    pub length-stubs_part : length parts.stubs ≡ (added dec x kept).stop - (added dec x kept).stubs
    length-stubs_part =
        let all : length (all_stubs (added dec x kept).stubs (sorted kept.nodes)) ≡ stub_size * node_count kept = length-all_stubs (added dec x kept).stubs (sorted kept.nodes) in
        ap length are.stubs ∙ length-filled ((added dec x kept).stop - (added dec x kept).stubs) (all_stubs (added dec x kept).stubs (sorted kept.nodes)) (few (added dec x kept).stubs (added dec x kept).stop (node_count kept) (length (all_stubs (added dec x kept).stubs (sorted kept.nodes))) all stubs_room)
      where
        few : (stubs stop n l : ℕ) → l ≡ stub_size * n → stubs + stub_size * n ≤ stop → l ≤ stop - stubs
        few stubs stop n l e h = omega arith

    -- where the parts lie
    pub lie : Lie (added dec x kept) parts.base (length parts.tables) (length parts.code) (length parts.stubs)
    lie =
        parts_lie (tables_size j e) (code_size size j e) (stubs_size size) (page_floor (lowest x.loads))
        parts.base (length parts.tables) (length parts.code) (length parts.stubs) room are.base are.tables are.code length-stubs_part
