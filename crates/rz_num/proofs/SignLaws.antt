-- Signed numbers as a sign and a magnitude.
use Rattle.std.proofs.Common.{◌≡◌, ℕ, ◌*◌, ◌-◌, ◌%◌}
use Rattle.std.proofs.Math.Nat.{mod_self, sub-zero}

-- minus 0 is 0
pub minus_zero : (half : ℕ) → (2 * half - 0) % (2 * half) ≡ 0
minus_zero half = rw sub-zero (mod_self (2 * half))
