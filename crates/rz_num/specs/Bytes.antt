-- Bytes are numbers below 256.
use Rattle.std.specs.Prelude.{ℕ, Bool, nat_lt, List}
use Rattle.std.specs.List.{list_all}

-- whether each number of a list is a byte
abbrev pub are_bytes : List ℕ → Bool
are_bytes s = list_all (λ b. nat_lt b 256) s
