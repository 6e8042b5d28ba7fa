-- Answers of a decoder whose instruction is no longer than the bytes.
use Rattle.std.specs.Prelude.{ℕ, ◌≤◌}
use Rattle.rz_isa.specs.declared.decoding.Decoded.{Decoded}
use Rattle.rz_isa.specs.declared.decoding.Decoded.TheVariants as decodeds

abbrev pub IsWithin : Decoded → ℕ → Type 0
IsWithin (decodeds.Insn x len) n = len ≤ n
IsWithin _ n = Unit {0}
