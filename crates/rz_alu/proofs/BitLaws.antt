-- Bits and powers of two.
use Rattle.std.proofs.Common.{◌≡◌, ℕ, suc, ◌+◌, ◌*◌, ◌/◌, ◌%◌, ◌^◌, ◌<◌, ◌≤◌, subst, sym, ◌∙◌, ap, arith, inl, inr, zero-mul}
use Rattle.std.proofs.Math.Nat.{pow-le-pow_right, pow-suc, add_comm}
use Rattle.std.proofs.lemmas.Bool.{cases_lt}
use Rattle.std.proofs.lemmas.Nat.{pow_pos, pow-add, mod_below, one_shl, shl_whole, shr_below, mul-add-lt, leading_length, or_lt, or_disjoint, pow_below}
use Rattle.std.proofs.lemmas.Nat.Bits.{and_pow}
use Rattle.std.specs.Int.{leading_zeros, w64}
use Rattle.rz_num.specs.declared.width.Width.{Width}
use Rattle.rz_num.specs.declared.width.Width.TheVariants.{W8, W16, W32, W64}
use Rattle.rz_num.specs.Width.{size, bits}
use Rattle.rz_alu.specs.Shifts.{rotation}

-- a rotated number has no more bits
pub rotation_low : (lowest others a : ℕ) → a < 2 ^ (lowest + others) → rotation lowest others a < 2 ^ (lowest + others)
rotation_low lowest others a below =
    let inside : a < 2 ^ (others + lowest) = subst (λ n. a < 2 ^ n) (add_comm lowest others) below in
    let sum : rotation lowest others a < 2 ^ others * 2 ^ lowest =
    mul-add-lt (a % 2 ^ lowest) (2 ^ others) (a / 2 ^ lowest) (2 ^ lowest) (mod_below a (2 ^ lowest) (pow_pos lowest)) (shr_below a others lowest inside) in
    subst (λ n. rotation lowest others a < n) (sym (pow-add 2 others lowest) ∙ ap (λ n. 2 ^ n) (add_comm others lowest)) sum

-- what `rotation` computes in 128 bits
pub rotation_shift : (lowest others a : ℕ) → lowest + others ≤ 65 → ((a % (1 * 2 ^ lowest % 2 ^ 128)) * 2 ^ others) % 2 ^ 128 ≡ (a % 2 ^ lowest) * 2 ^ others
rotation_shift lowest others a few =
    rw (one_shl lowest 128 (omega arith))
    (shl_whole (a % 2 ^ lowest) lowest others 128 (mod_below a (2 ^ lowest) (pow_pos lowest)) (omega arith))

pub rotation_fits : (lowest others a : ℕ) → lowest + others ≤ 65 → a < 2 ^ (lowest + others)
    → ((a % (1 * 2 ^ lowest % 2 ^ 128)) * 2 ^ others) % 2 ^ 128 + a / 2 ^ lowest < 2 ^ 128
rotation_fits lowest others a few below =
    rw (rotation_shift lowest others a few)
    (omega (arith, rotation_low lowest others a below, pow-le-pow_right {n = 2} (omega arith) {i = lowest + others} {j = 65} few))

-- a number of j bits has at least the other zeros above it
zeros_room : (j a : ℕ) → j ≤ 64 → a < 2 ^ j → 64 ≤ leading_zeros w64 a + j
zeros_room j a few below =
    let all = leading_length 64 a (omega (arith, pow-le-pow_right {n = 2} (omega arith) {i = j} {j = 64} few)) in
    let m = all.0 in
    elim (cases_lt j m) as (λ _. 64 ≤ leading_zeros w64 a + j) [
      | inl more ↦ absurd (omega (arith, all.3, pow-suc 2 j, pow-le-pow_right {n = 2} (omega arith) {i = suc j} {j = m} more))
      | inr few ↦ omega (arith, all.1)
    ]

pub zeros_at : (w : Width) (a : ℕ) → a < size w → 64 ≤ leading_zeros w64 a + bits w
zeros_at W8 a below = zeros_room 8 a (omega arith) below
zeros_at W16 a below = zeros_room 16 a (omega arith) below
zeros_at W32 a below = zeros_room 32 a (omega arith) below
zeros_at W64 a below = zeros_room 64 a (omega arith) below

-- a bit that is clear has room
pub clear_room : (a place : ℕ) → a < 2 ^ 64 → place < 64 → a / 2 ^ place % 2 ≡ 0 → a + 2 ^ place < 2 ^ 64
clear_room a place below inside clear =
    let apart = and_pow a place ∙ ap (λ n. n * 2 ^ place) clear ∙ zero-mul (2 ^ place) in
    subst (λ n. n < 2 ^ 64) (or_disjoint a (2 ^ place) apart) (or_lt 64 a (2 ^ place) below (pow_below place 64 inside))
