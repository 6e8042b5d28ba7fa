-- Little-endian fields of n bytes in a list of bytes.
use Rattle.std.specs.Prelude.{◌≡◌, ◌≤◌, ◌<◌, ℕ, ◌^◌, List, ◌++◌, length, take, drop}
use Rattle.std.proofs.Common.{ap, ◌∙◌, length-take-le}
use Rattle.std.proofs.lemmas.List.{drop_at}
use Rattle.byteorder.specs.Endian.{little_number, little_bytes}
use Rattle.byteorder.specs.Numbers.{little_number-reads_back}

-- the field that was put is the field that is got
pub get-put : (n at x : ℕ) (bytes rest : List ℕ) → at ≤ length bytes → x < 256 ^ n → little_number n (drop at (take at bytes ++ (little_bytes n x ++ rest))) ≡ x
get-put n at x bytes rest inside fits = ap (little_number n) (drop_at (take at bytes) (little_bytes n x ++ rest) at (length-take-le at bytes inside)) ∙ little_number-reads_back n x rest fits
