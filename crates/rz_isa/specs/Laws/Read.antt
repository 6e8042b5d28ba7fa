use Rattle.std.proofs.Common.{ℕ, zero, suc, ℤ, ◌≡◌, ◌≢◌, ◌/◌, ◌%◌, ◌<◌, refl, arith, length, true}
use Rattle.std.specs.Prelude.{nat_lt}
use Rattle.std.proofs.lemmas.Bool.Decides.{nat_tests}
use Rattle.rz_num.specs.Bytes.{are_bytes}
use Rattle.rz_isa.specs.Number.{signed}
use Rattle.rz_isa.specs.Having.{is_disp}
use Rattle.rz_isa.specs.Canonical.{little, low_32, mode_of, disp_bytes}

-- Numbers that were written are read again.

pub little_bytes : (k v : ℕ) → are_bytes (little k v) ≡ true
little_bytes zero v = refl
little_bytes (suc k) v = (let a : nat_lt (v % 256) 256 ≡ true = grind (arith, nat_tests) in let b = little_bytes k (v / 256) in grind arith)

pub little_length : (k v : ℕ) → length (little k v) ≡ k
little_length zero v = refl
little_length (suc k) v = (let b = little_length k (v / 256) in omega arith)

-- ---- signed numbers

pub signed_4 : (z : ℤ) → is_disp z ≡ true → signed (little 4 (low_32 z)) ≡ z
signed_4 z h1 = grind (arith, nat_tests)

pub disp_again : (low : ℕ) (z : ℤ) → is_disp z ≡ true → signed (disp_bytes (mode_of low z) z) ≡ z
disp_again low z h1 = grind (arith, nat_tests)

pub mode_small : (low : ℕ) (z : ℤ) → mode_of low z < 3
mode_small low z = grind arith

pub mode_not : (z : ℤ) → mode_of 5 z ≢ 0
mode_not z = grind arith
