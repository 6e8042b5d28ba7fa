-- The sequence of numbers that generated functions add.
use Rattle.std.specs.Prelude.{ℕ, zero, suc, ◌+◌, ◌*◌, ◌%◌, ◌^◌}

-- the number behind a number
abbrev pub next_number : ℕ → ℕ
next_number x = (1103515245 * x + 12345) % 2 ^ 31

-- the number of a place, from 0
unfoldable pub number_at : ℕ → ℕ
number_at zero = 12345
number_at (suc k) = next_number (number_at k)
