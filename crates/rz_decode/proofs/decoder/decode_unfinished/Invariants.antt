use Rattle.std.proofs.Common.{ℕ, ◌≡◌, ◌<◌, Some, false}
use Rattle.std.specs.Prelude.{slice_get}
use Rattle.rz_isa.specs.declared.rows.Row.{Row}
use Rattle.rz_isa.specs.Decoded.{serves}
use Rattle.rz_decode.proofs.decoder.decode_unfinished.Given as goal

-- no row so far serves the bytes
abbrev pub invariant-loop-n : goal.invariant-loop-n
invariant-loop-n g l = (k : ℕ) (r : Row) → k < l.n → slice_get g.T.InsnTable.rows k ≡ Some r → serves l.bytes r ≡ false
