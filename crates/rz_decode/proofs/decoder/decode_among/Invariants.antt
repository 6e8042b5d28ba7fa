use Rattle.std.proofs.Common.{ℕ, ◌≡◌, ◌<◌, Some, false, get_or}
use Rattle.std.specs.Prelude.{slice_get}
use Rattle.rz_isa.specs.declared.rows.Row.{Row}
use Rattle.rz_isa.specs.Decoded.{serves}
use Rattle.rz_decode.proofs.decoder.decode_among.Given as goal

-- no row tried so far serves the bytes
abbrev pub invariant-loop-number : goal.invariant-loop-number
invariant-loop-number g l = (j : ℕ) (r : Row) → j < l.number-index → slice_get g.T.InsnTable.rows (get_or l.numbers j 0) ≡ Some r → serves l.bytes r ≡ false
