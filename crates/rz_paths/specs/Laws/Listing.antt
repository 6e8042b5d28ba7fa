-- What the bytes at an address spell, as a node.
use Rattle.std.proofs.Common.{◌≡◌, ℕ, List, refl}
use Rattle.rz_isa.specs.declared.rows.Row.{Row}
use Rattle.rz_isa.specs.Decoded.{decoded}
use Rattle.rz_isa.specs.Nodes.{spelled_at}
use Rattle.rz_paths.specs.Program.{code_of, node_in, program_of}

pub program_is : (rows : List Row) (bytes : List ℕ) (a : ℕ) → program_of rows bytes a ≡ node_in (spelled_at (decoded rows) (code_of bytes) a) a
unfolding program_of
program_is rows bytes a = refl
