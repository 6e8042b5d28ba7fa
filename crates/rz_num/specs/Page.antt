-- Pages of 4096 bytes, as the System V ABI for x86-64 has them.
use Rattle.std.specs.Prelude.{ℕ, ◌+◌, ◌*◌, ◌/◌}

-- an address rounded up to a multiple of 4096
abbrev pub page_up : ℕ → ℕ
page_up x = (x + 4095) / 4096 * 4096
