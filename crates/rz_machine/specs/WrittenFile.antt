-- The written file of a file for what is kept of it.
use Rattle.std.specs.Prelude.{◌≡◌, ℕ, ◌-◌, ◌<◌, ◌≤◌, List, length, None}
use Rattle.rz_elf.specs.Elf.{fault_of, image_of}
use Rattle.rz_elf.specs.AddedRange.{Added, stubs_part}
use Rattle.rz_elf.specs.WrittenFile.{Parts, written_file, new_image}
use Rattle.rz_isa.specs.Nodes.{Decoder}
use Rattle.rz_machine.specs.Kept.{Kept, sorted}
use Rattle.rz_machine.specs.Added.{added}

-- the parts and the entry have the sizes and the places of the added range, and the stubs are those of the nodes
pub record IsAdded (a : Added) (nodes : List ℕ) (p : Parts) (entry : ℕ) : Type 0 where
  pub base : p.base ≡ a.scratch
  pub tables : length p.tables ≡ a.code - a.tables
  pub code : length p.code ≡ a.stubs - a.code
  pub stubs : p.stubs ≡ stubs_part a nodes
  pub entry_from : a.code ≤ entry
  pub entry_below : entry < a.stubs

-- w is the written file of x for what is kept, whatever stands in tables and code
pub record Inert (dec : Decoder) (x w : List ℕ) (kept : Kept) : Type 0 where
  pub tables : List ℕ
  pub code : List ℕ
  pub entry : ℕ
  pub tables_long : let a = added dec (image_of x) kept in length tables ≡ a.code - a.tables
  pub code_long : let a = added dec (image_of x) kept in length code ≡ a.stubs - a.code
  pub entry_in_code : let a = added dec (image_of x) kept in (a.code ≤ entry) × (entry < a.stubs)
  pub bytes : let a = added dec (image_of x) kept in
      w ≡ written_file x (record { base = a.scratch; tables = tables; code = code; stubs = stubs_part a (sorted kept.nodes) }) entry
  pub accepted : fault_of w ≡ None
  pub image : let a = added dec (image_of x) kept in
      image_of w ≡ new_image (image_of x) (record { base = a.scratch; tables = tables; code = code; stubs = stubs_part a (sorted kept.nodes) }) entry
