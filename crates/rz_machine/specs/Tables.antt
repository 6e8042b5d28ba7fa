-- The tables that the lookup routine searches: the stub's place in eight bytes, the number of pairs in eight, and the pairs of
-- an old target and its new place in four bytes each, ascending by the old target.
use Rattle.std.specs.Prelude.{ℕ, suc, ◌+◌, ◌-◌, ◌*◌, ◌^◌, ◌<◌, ◌≤◌, List, [], ◌∷◌, ◌++◌, length, map, unwrap_or}
use Rattle.std.specs.Int.{leading_zeros, w64}
use Rattle.std.specs.List.{AllByRecursion}
use Rattle.byteorder.specs.Endian.{little_bytes}
use Rattle.rz_isa.specs.Items.{beside}

abbrev pub pairs_bytes : List (ℕ × ℕ) → List ℕ
pairs_bytes [] = []
pairs_bytes (p ∷ rest) = little_bytes 4 p.0 ++ (little_bytes 4 p.1 ++ pairs_bytes rest)

abbrev pub table_of : (stub : ℕ) → (pairs : List (ℕ × ℕ)) → List ℕ
table_of stub pairs = little_bytes 8 stub ++ (little_bytes 8 (length pairs) ++ pairs_bytes pairs)

-- the old targets ascend from a number on, none doubled
abbrev pub AscendFrom : ℕ → List (ℕ × ℕ) → Type 0
AscendFrom low [] = Unit {0}
AscendFrom low (p ∷ rest) = (low ≤ p.0) × AscendFrom (suc p.0) rest

pub record IsTable (stub : ℕ) (pairs : List (ℕ × ℕ)) : Type 0 where
  pub stub_low : stub < 2 ^ 64
  pub targets_low : AllByRecursion (λ p. p.0 < 2 ^ 32) pairs
  pub places_low : AllByRecursion (λ p. p.1 < 2 ^ 32) pairs
  pub ascend : AscendFrom 0 pairs
  pub few : length pairs < 2 ^ 28

-- where a table leads a value: to the new place of an old target, else to the stub
abbrev pub led : (stub : ℕ) → (pairs : List (ℕ × ℕ)) → ℕ → ℕ
led stub pairs v = unwrap_or (beside pairs v) stub

-- the pairs of a site: each of its targets with its new place
abbrev pub placed : (place : ℕ → ℕ) → List ℕ → List (ℕ × ℕ)
placed place targets = map (λ b. (b, place b)) targets

-- how many bytes the table of so many targets takes
abbrev pub table_size : ℕ → ℕ
table_size count = 16 + 8 * count

-- the number of binary digits of a number of 64 bits; 0 has none
abbrev pub binary_digits : ℕ → ℕ
binary_digits n = 64 - leading_zeros w64 n

-- the most steps of a site of so many targets
abbrev pub site_steps : ℕ → ℕ
site_steps count = 64 + 16 * binary_digits count
