-- Numbers below the size of a width.
use Rattle.std.proofs.Common.{◌≡◌, ℕ, ◌%◌, ◌<◌}
use Rattle.std.proofs.Math.Nat.{mod-eq_of_lt}
use Rattle.rz_num.specs.declared.width.Width.{Width}
use Rattle.rz_num.specs.Width.{size}

-- such a number is cut to itself
pub cut_same : (w : Width) (a : ℕ) → a < size w → a % size w ≡ a
cut_same w a below = mod-eq_of_lt below
