-- Counts of failures. A count is below 2 ^ 64, and stays once it is 2 ^ 64 - 1.
use Rattle.std.specs.Prelude.{ℕ, ◌+◌, ◌-◌, ◌^◌, ◌≤◌, min}
use Rattle.std.proofs.Common.{arith}

-- the count rose, or stands where a count stays
abbrev pub Rose : ℕ → ℕ → Type 0
Rose before now = min (before + 1) (2 ^ 64 - 1) ≤ now

-- a count that rose since a later moment rose since an earlier one
pub rose_later : (earlier before now : ℕ) → earlier ≤ before → Rose before now → Rose earlier now
rose_later earlier before now order rose = omega arith

-- a count that rose has risen at each later moment
pub rose_before : (before now later : ℕ) → Rose before now → now ≤ later → Rose before later
rose_before before now later rose order = omega arith
