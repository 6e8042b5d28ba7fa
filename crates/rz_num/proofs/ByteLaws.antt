-- Lists of bytes.
use Rattle.std.proofs.Common.{◌≡◌, ℕ, suc, ◌<◌, true, List, [], ◌∷◌, get_or, refl, arith}
use Rattle.std.proofs.lemmas.Bool.Decides.{nat_tests}
use Rattle.rz_num.specs.Bytes.{are_bytes}

-- a list whose items at each place are below 256
pub are_bytes-each : (bs : List ℕ) → ((i : ℕ) → get_or bs i 0 < 256) → are_bytes bs ≡ true
are_bytes-each [] each = refl
are_bytes-each (b ∷ bs) each = grind (arith, nat_tests, each 0, are_bytes-each bs (λ i. each (suc i)))
