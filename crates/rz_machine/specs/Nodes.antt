-- Nodes of a memory and of kept sets: what stands in executable bytes.
use Rattle.std.specs.Prelude.{◌≡◌, ℕ, true, false}
use Rattle.rz_isa.specs.Nodes.{Decoder, Code, IsNode, is_site_at, direct_at}
use Rattle.rz_image.specs.Memory.{Regions, fetch}
use Rattle.rz_machine.specs.Kept.{Kept, has_node, has_edge}

-- the executable bytes of a memory from an address on, as many of the first 15 as there are
abbrev pub code_in : Regions → Code
code_in m a = fetch m a 15

-- what is kept stands in the code: instructions at its nodes, edges between them,
-- and an edge that leaves no return and no indirect transfer is to a static successor
pub record StandsIn (dec : Decoder) (code : Code) (kept : Kept) : Type 0 where
  pub nodes : (a : ℕ) → has_node kept.nodes a ≡ true → IsNode dec code a
  pub sources : (a b : ℕ) → has_edge kept.edges a b ≡ true → has_node kept.nodes a ≡ true
  pub ends : (a b : ℕ) → has_edge kept.edges a b ≡ true → has_node kept.nodes b ≡ true
  pub direct : (a b : ℕ) → has_edge kept.edges a b ≡ true → is_site_at dec code a ≡ false → has_node (direct_at dec code a) b ≡ true

-- and has the entry: so it could have been left by traces, and a new file can be written for it
pub record IsPlausible (dec : Decoder) (code : Code) (entry : ℕ) (kept : Kept) : Type 0 where
  pub stands : StandsIn dec code kept
  pub entry_kept : has_node kept.nodes entry ≡ true
