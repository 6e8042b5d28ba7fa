use Rattle.std.specs.Prelude.{ℕ, pos, suc, ◌≡◌, ◌==◌, ◌&&◌, Bool, true, false, List, [], ◌∷◌, ◌++◌, drop, Option, Some, None, if◌then◌else◌, refl}
use Rattle.rz_num.specs.declared.width.Width.TheVariants.{W8, W16, W32}
use Rattle.rz_isa.specs.declared.decoding.Decoded.{Decoded}
use Rattle.rz_isa.specs.declared.decoding.Decoded.TheVariants as decodeds
use Rattle.rz_isa.specs.declared.rows.Row.{Row}
use Rattle.rz_isa.specs.declared.rows.Form.TheVariants as forms
use Rattle.rz_isa.specs.declared.instruction.Insn.TheVariants as insns
use Rattle.rz_isa.specs.declared.instruction.Place.{Place}
use Rattle.rz_isa.specs.declared.instruction.Place.TheVariants as places
use Rattle.rz_isa.specs.declared.instruction.Reg.TheVariants as regs
use Rattle.rz_isa.specs.declared.instruction.Rep.TheVariants as reps
use Rattle.rz_isa.specs.Canonical.{canonical}
use Rattle.rz_isa.specs.Decoded.{decoded, serves}
use Rattle.rz_table.specs.Profile2.{PROFILE2}

-- What profile 2 has beyond profile 1, evaluated: a spelling of each further row, which rows take F0, and
-- what F0 and F2 stand before.

-- ---- a spelling of each further row, which is the canonical one

abbrev same : List ℕ → List ℕ → Bool
same [] [] = true
same (a ∷ s) (b ∷ t) = a == b && same s t
same _ _ = false

abbrev is : List ℕ → Option (List ℕ) → Bool
is s (Some t) = same s t
is s None = false

abbrev is_canonical : List ℕ → Decoded → Bool
is_canonical s (decodeds.Insn x n) = is s (canonical PROFILE2 x 0x1000 forms.Near)
is_canonical s _ = false

abbrev are_spellings : List Row → List (List ℕ) → Bool
are_spellings [] [] = true
are_spellings (row ∷ rows) (s ∷ ss) = serves s row && is_canonical s (decoded PROFILE2 (s ++ (0x90 ∷ [])) 0x1000) && are_spellings rows ss
are_spellings _ _ = false

further_spellings : are_spellings (drop 203 PROFILE2) (
    (0xd0 ∷ 0xd1 ∷ []) ∷
    (0xd0 ∷ 0xd9 ∷ []) ∷
    (0xd1 ∷ 0xd1 ∷ []) ∷
    (0xd1 ∷ 0xd9 ∷ []) ∷
    (0xc0 ∷ 0xd1 ∷ 0x03 ∷ []) ∷
    (0xc0 ∷ 0xd9 ∷ 0x03 ∷ []) ∷
    (0xc1 ∷ 0xd1 ∷ 0x03 ∷ []) ∷
    (0xc1 ∷ 0xd9 ∷ 0x03 ∷ []) ∷
    (0xd2 ∷ 0xd1 ∷ []) ∷
    (0xd2 ∷ 0xd9 ∷ []) ∷
    (0xd3 ∷ 0xd1 ∷ []) ∷
    (0xd3 ∷ 0xd9 ∷ []) ∷
    (0x0f ∷ 0xb0 ∷ 0x0c ∷ 0x16 ∷ []) ∷
    (0x0f ∷ 0xb1 ∷ 0xc8 ∷ []) ∷
    (0x0f ∷ 0xc0 ∷ 0x0c ∷ 0x16 ∷ []) ∷
    (0x0f ∷ 0xc1 ∷ 0xc6 ∷ []) ∷
    (0xa6 ∷ []) ∷
    (0xf3 ∷ 0xa7 ∷ []) ∷
    (0xf2 ∷ 0xae ∷ []) ∷
    (0xf3 ∷ 0x48 ∷ 0xaf ∷ []) ∷
    []) ≡ true
further_spellings = refl

-- ---- the numbers of the rows that take F0: ADD, OR, ADC, SBB, AND, SUB and XOR with the destination E; INC, DEC,
-- NOT and NEG; XCHG; BTS, BTR and BTC with an immediate; CMPXCHG; XADD

abbrev locked_from : ℕ → List Row → List ℕ
locked_from n [] = []
locked_from n (row ∷ rows) = if row.lock then n ∷ locked_from (suc n) rows else locked_from (suc n) rows

locked_rows : locked_from 0 PROFILE2 ≡
    0 ∷ 1 ∷ 4 ∷ 5 ∷ 6 ∷ 9 ∷ 10 ∷ 13 ∷ 14 ∷ 15 ∷ 18 ∷ 19 ∷ 22 ∷ 23 ∷ 24 ∷ 27 ∷ 28 ∷ 31 ∷ 32 ∷ 33 ∷ 36 ∷ 37 ∷ 40 ∷ 41 ∷ 42
    ∷ 45 ∷ 46 ∷ 49 ∷ 50 ∷ 51 ∷ 54 ∷ 55 ∷ 58 ∷ 59 ∷ 60 ∷ 102 ∷ 103 ∷ 104 ∷ 105 ∷ 106 ∷ 107 ∷ 108 ∷ 109 ∷ 169 ∷ 170
    ∷ 182 ∷ 183 ∷ 184 ∷ 215 ∷ 216 ∷ 217 ∷ 218 ∷ []
locked_rows = refl

-- ---- what F0 and F2 stand before

abbrev read : List ℕ → Decoded
read s = decoded PROFILE2 s 0x1000

abbrev at_stack : Place
at_stack = places.Mem (record { base = Some 4; index = None; scale = 1; disp = pos 0 })

xadd_locked : read (0xf0 ∷ 0x0f ∷ 0xc1 ∷ 0x34 ∷ 0x24 ∷ []) ≡ decodeds.Insn (insns.Xadd W32 at_stack (regs.R 6)) 5
xadd_locked = refl

xadd_of_a_register_locked : read (0xf0 ∷ 0x0f ∷ 0xc1 ∷ 0xc6 ∷ []) ≡ decodeds.Unknown
xadd_of_a_register_locked = refl

exchange_locked : read (0x66 ∷ 0xf0 ∷ 0x87 ∷ 0x34 ∷ 0x24 ∷ []) ≡ decodeds.Insn (insns.Xchg W16 at_stack (regs.R 6)) 5
exchange_locked = refl

comparison_locked : read (0xf0 ∷ 0x39 ∷ 0x34 ∷ 0x24 ∷ []) ≡ decodeds.Unknown
comparison_locked = refl

sum_in_a_register_locked : read (0xf0 ∷ 0x03 ∷ 0x34 ∷ 0x24 ∷ []) ≡ decodeds.Unknown
sum_in_a_register_locked = refl

nop_locked : read (0xf0 ∷ 0x90 ∷ []) ≡ decodeds.Unknown
nop_locked = refl

lock_twice : read (0xf0 ∷ 0xf0 ∷ []) ≡ decodeds.Unknown
lock_twice = refl

lock_cut : read (0xf0 ∷ 0x48 ∷ 0x01 ∷ []) ≡ decodeds.Short
lock_cut = refl

scan_while_not : read (0xf2 ∷ 0xae ∷ []) ≡ decodeds.Insn (insns.Scas W8 reps.WhileNot) 2
scan_while_not = refl

scan_of_words_while_not : read (0xf2 ∷ 0x66 ∷ 0xaf ∷ []) ≡ decodeds.Insn (insns.Scas W16 reps.WhileNot) 3
scan_of_words_while_not = refl

comparison_while_equal : read (0xf3 ∷ 0xa6 ∷ []) ≡ decodeds.Insn (insns.Cmps W8 reps.WhileEqual) 2
comparison_while_equal = refl

comparison_once : read (0xa6 ∷ []) ≡ decodeds.Insn (insns.Cmps W8 reps.No) 1
comparison_once = refl

both_repeats : read (0xf2 ∷ 0xf3 ∷ 0xae ∷ []) ≡ decodeds.Unknown
both_repeats = refl

both_repeats_cut : read (0xf3 ∷ 0xf2 ∷ []) ≡ decodeds.Unknown
both_repeats_cut = refl

nop_while_not : read (0xf2 ∷ 0x90 ∷ []) ≡ decodeds.Unknown
nop_while_not = refl

move_while_not : read (0xf2 ∷ 0xa4 ∷ []) ≡ decodeds.Unknown
move_while_not = refl

-- ---- a canonical spelling has no F0

lock_left_out : canonical PROFILE2 (insns.Xadd W32 at_stack (regs.R 6)) 0x1000 forms.Near ≡ Some (0x0f ∷ 0xc1 ∷ 0x34 ∷ 0x24 ∷ [])
lock_left_out = refl

half_words_while_not : canonical PROFILE2 (insns.Cmps W16 reps.WhileNot) 0x1000 forms.Near ≡ Some (0x66 ∷ 0xf2 ∷ 0xa7 ∷ [])
half_words_while_not = refl
