-- The added range for what is kept of a file, and where its parts lie.
use Rattle.std.specs.Prelude.{ℕ, ◌+◌, ◌*◌, if◌then◌else◌, ◌==◌, List, [], ◌∷◌, length, filter}
use Rattle.rz_image.specs.Memory.{Range}
use Rattle.rz_elf.specs.Elf.{Image}
use Rattle.rz_elf.specs.Format.{stub_size}
use Rattle.rz_elf.specs.AddedRange.{Added, tables_size, code_size, stubs_size, lowest, page_floor, parts_below}
use Rattle.rz_isa.specs.Nodes.{Decoder}
use Rattle.rz_machine.specs.Kept.{Edges, Kept, sorted, sorted_edges}
use Rattle.rz_isa.specs.Nodes.{Code, is_site_at}
use Rattle.rz_machine.specs.Nodes.{code_in}

-- the kept returns and indirect transfers, and the kept edges that leave them
abbrev pub sites : Decoder → Code → List ℕ → List ℕ
sites dec code nodes = filter (is_site_at dec code) nodes

abbrev pub site_edges : Decoder → Code → Edges → Edges
site_edges dec code edges = filter (λ e. is_site_at dec code e.0) edges

-- how many of each a kept set has
abbrev pub node_count : Kept → ℕ
node_count kept = length (sorted kept.nodes)

abbrev pub site_count : Decoder → Image → Kept → ℕ
site_count dec x kept = length (sites dec (code_in x.loads) (sorted kept.nodes))

abbrev pub site_edge_count : Decoder → Image → Kept → ℕ
site_edge_count dec x kept = length (site_edges dec (code_in x.loads) (sorted_edges kept.edges))

abbrev pub added : Decoder → Image → Kept → Added
added dec x kept =
    let n = node_count kept in
    let j = site_count dec x kept in
    let e = site_edge_count dec x kept in
    parts_below (tables_size j e) (code_size n j e) (stubs_size n) (page_floor (lowest x.loads))

-- the place of a member in a list, from 0
abbrev pub index_of : List ℕ → ℕ → ℕ
index_of [] a = 0
index_of (b ∷ bs) a = if b == a then 0 else 1 + index_of bs a

-- where the parts of a written file lie
pub record Layout : Type 0 where
  pub added : Range
  pub tables : Range
  pub code : Range
  -- the place of an address's stub
  pub stub : ℕ → ℕ

-- and what else labels name: the fragment of each kept address, the table of each site, and the routine
pub record Places : Type 0 where
  pub fragment : ℕ → ℕ
  pub table : ℕ → ℕ
  pub routine : ℕ

abbrev pub layout_in : List ℕ → Added → Layout
layout_in nodes a =
    record {
      added = record { low = a.scratch; high = a.stop };
      tables = record { low = a.tables; high = a.code };
      code = record { low = a.code; high = a.stubs };
      stub = λ at. a.stubs + stub_size * index_of nodes at;
    }

abbrev pub layout_of : Decoder → Image → Kept → Layout
layout_of dec x kept = layout_in (sorted kept.nodes) (added dec x kept)
