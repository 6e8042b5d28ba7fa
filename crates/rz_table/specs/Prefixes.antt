use Rattle.std.specs.Prelude.{ℕ, ◌≡◌, Bool, true, false, List, [], ◌∷◌, ◌++◌, filter, map, refl}
use Rattle.std.specs.List.{flat_map}
use Rattle.rz_isa.specs.declared.decoding.Decoded.{Decoded}
use Rattle.rz_isa.specs.declared.decoding.Decoded.TheVariants as decodeds
use Rattle.rz_isa.specs.Decoded.{decoded}
use Rattle.rz_table.specs.declared.profile_rows.TheConstants.{PROFILE}

-- Which pairs of the seven prefixes may stand before a spelling of profile 1, evaluated
-- (Intel SDM, volume 2, section 2.1.1; which rows take which is the table's).

abbrev is_insn : Decoded → Bool
is_insn (decodeds.Insn x n) = true
is_insn _ = false

abbrev prefixes : List ℕ
prefixes = 0x2e ∷ 0x3e ∷ 0x66 ∷ 0x67 ∷ 0xf0 ∷ 0xf2 ∷ 0xf3 ∷ []

abbrev pairs : List (List ℕ)
pairs = flat_map (λ p. map (λ q. p ∷ q ∷ []) prefixes) prefixes

abbrev pairs_before : List ℕ → List (List ℕ)
pairs_before s = filter (λ ps. is_insn (decoded PROFILE (ps ++ s) 0x1000)) pairs

-- 50: only 2E and 3E
push_takes_neither : pairs_before (0x50 ∷ []) ≡ (0x2e ∷ 0x3e ∷ []) ∷ (0x3e ∷ 0x2e ∷ []) ∷ []
push_takes_neither = refl

-- 89 /r: 66 too
move_takes_66 : pairs_before (0x89 ∷ 0xe5 ∷ []) ≡ (0x2e ∷ 0x3e ∷ []) ∷ (0x2e ∷ 0x66 ∷ []) ∷ (0x3e ∷ 0x2e ∷ []) ∷ (0x3e ∷ 0x66 ∷ []) ∷ (0x66 ∷ 0x2e ∷ []) ∷ (0x66 ∷ 0x3e ∷ []) ∷ []
move_takes_66 = refl

-- E8: 67 too
call_takes_67 : pairs_before (0xe8 ∷ 0x00 ∷ 0x00 ∷ 0x00 ∷ 0x00 ∷ []) ≡ (0x2e ∷ 0x3e ∷ []) ∷ (0x2e ∷ 0x67 ∷ []) ∷ (0x3e ∷ 0x2e ∷ []) ∷ (0x3e ∷ 0x67 ∷ []) ∷ (0x67 ∷ 0x2e ∷ []) ∷ (0x67 ∷ 0x3e ∷ []) ∷ []
call_takes_67 = refl

-- C3: F3 too
return_takes_f3 : pairs_before (0xc3 ∷ []) ≡ (0x2e ∷ 0x3e ∷ []) ∷ (0x2e ∷ 0xf3 ∷ []) ∷ (0x3e ∷ 0x2e ∷ []) ∷ (0x3e ∷ 0xf3 ∷ []) ∷ (0xf3 ∷ 0x2e ∷ []) ∷ (0xf3 ∷ 0x3e ∷ []) ∷ []
return_takes_f3 = refl

-- A5: 66 and F3 too, also together
string_move_takes_66_and_f3 : pairs_before (0xa5 ∷ []) ≡ (0x2e ∷ 0x3e ∷ []) ∷ (0x2e ∷ 0x66 ∷ []) ∷ (0x2e ∷ 0xf3 ∷ []) ∷ (0x3e ∷ 0x2e ∷ []) ∷ (0x3e ∷ 0x66 ∷ []) ∷ (0x3e ∷ 0xf3 ∷ []) ∷ (0x66 ∷ 0x2e ∷ []) ∷ (0x66 ∷ 0x3e ∷ []) ∷ (0x66 ∷ 0xf3 ∷ []) ∷ (0xf3 ∷ 0x2e ∷ []) ∷ (0xf3 ∷ 0x3e ∷ []) ∷ (0xf3 ∷ 0x66 ∷ []) ∷ []
string_move_takes_66_and_f3 = refl

-- A4: F3 too, and no 66
byte_string_move_takes_f3 : pairs_before (0xa4 ∷ []) ≡ (0x2e ∷ 0x3e ∷ []) ∷ (0x2e ∷ 0xf3 ∷ []) ∷ (0x3e ∷ 0x2e ∷ []) ∷ (0x3e ∷ 0xf3 ∷ []) ∷ (0xf3 ∷ 0x2e ∷ []) ∷ (0xf3 ∷ 0x3e ∷ []) ∷ []
byte_string_move_takes_f3 = refl

-- 41 90: 66 too; with F3 it is neither an exchange nor PAUSE
exchange_of_r8_takes_66 : pairs_before (0x41 ∷ 0x90 ∷ []) ≡ (0x2e ∷ 0x3e ∷ []) ∷ (0x2e ∷ 0x66 ∷ []) ∷ (0x3e ∷ 0x2e ∷ []) ∷ (0x3e ∷ 0x66 ∷ []) ∷ (0x66 ∷ 0x2e ∷ []) ∷ (0x66 ∷ 0x3e ∷ []) ∷ []
exchange_of_r8_takes_66 = refl

-- 0F 1F /0: 66 too, and again
long_nop_takes_66_twice : pairs_before (0x0f ∷ 0x1f ∷ 0x00 ∷ []) ≡ (0x2e ∷ 0x3e ∷ []) ∷ (0x2e ∷ 0x66 ∷ []) ∷ (0x3e ∷ 0x2e ∷ []) ∷ (0x3e ∷ 0x66 ∷ []) ∷ (0x66 ∷ 0x2e ∷ []) ∷ (0x66 ∷ 0x3e ∷ []) ∷ (0x66 ∷ 0x66 ∷ []) ∷ []
long_nop_takes_66_twice = refl

-- 90: 66 too; F3 makes it PAUSE, which takes no 66
nop_and_pause : pairs_before (0x90 ∷ []) ≡ (0x2e ∷ 0x3e ∷ []) ∷ (0x2e ∷ 0x66 ∷ []) ∷ (0x2e ∷ 0xf3 ∷ []) ∷ (0x3e ∷ 0x2e ∷ []) ∷ (0x3e ∷ 0x66 ∷ []) ∷ (0x3e ∷ 0xf3 ∷ []) ∷ (0x66 ∷ 0x2e ∷ []) ∷ (0x66 ∷ 0x3e ∷ []) ∷ (0xf3 ∷ 0x2e ∷ []) ∷ (0xf3 ∷ 0x3e ∷ []) ∷ []
nop_and_pause = refl
