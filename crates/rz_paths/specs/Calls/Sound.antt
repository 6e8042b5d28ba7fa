-- What a record of a program meets, before and after it is expanded.
use Rattle.std.specs.Prelude.{◌≡◌, ℕ, Bool, true, false, List, Option, Some, None, is_some}
use Rattle.rz_isa.specs.Nodes.{is_site}
use Rattle.rz_paths.specs.declared.node.Node.{Node}
use Rattle.rz_paths.specs.Sets.{In, Edges, joins}
use Rattle.rz_paths.specs.Program.{Program, direct_at}

abbrev pub site_of : Option Node → Bool
site_of None = false
site_of (Some n) = is_site n.kind

-- nodes decode; edges join nodes; an edge from no return and no indirect transfer goes to a static successor
pub record IsSound (program : Program) (nodes : List ℕ) (edges : Edges) : Type 0 where
  pub decodes : (a : ℕ) → In nodes a → is_some (program a) ≡ true
  pub sources : (a b : ℕ) → joins edges a b ≡ true → In nodes a
  pub ends : (a b : ℕ) → joins edges a b ≡ true → In nodes b
  pub direct : (a b : ℕ) → joins edges a b ≡ true → site_of (program a) ≡ false → In (direct_at program a) b
