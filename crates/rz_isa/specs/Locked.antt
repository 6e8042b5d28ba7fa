use Rattle.std.specs.Prelude.{ℕ, ◌≡◌, true, false, List, [], ◌∷◌, Option, Some, None, refl}
use Rattle.rz_flags.specs.declared.ArithOp.TheVariants as ariths
use Rattle.rz_isa.specs.declared.decoding.Decoded.{Decoded}
use Rattle.rz_isa.specs.declared.decoding.Decoded.TheVariants as decodeds
use Rattle.rz_isa.specs.declared.rows.Row.{Row}
use Rattle.rz_isa.specs.declared.rows.OpMap.TheVariants as maps
use Rattle.rz_isa.specs.declared.rows.F3Rule.TheVariants as f3s
use Rattle.rz_isa.specs.declared.rows.RmRule.TheVariants as rules
use Rattle.rz_isa.specs.declared.rows.Size.TheVariants as sizes
use Rattle.rz_isa.specs.declared.rows.Form.TheVariants as forms
use Rattle.rz_isa.specs.declared.rows.Letter.TheVariants as letters
use Rattle.rz_isa.specs.declared.rows.Op.TheVariants as ops
use Rattle.rz_isa.specs.Decoded.{decoded}

-- F0 and F2 before the spellings of a small table, evaluated (Intel SDM, volume 2, section 2.1.1).

-- an addition with F0, a move that both prefixes repeat, and a Nop
abbrev table : List Row
table = record { map = maps.One; opcode = 0x01; span = 1; digit = None; rm = Some rules.Any; f3 = f3s.No; lock = true; size = sizes.V; imm = None; form = forms.Near; op = ops.Arith ariths.Add letters.E letters.G }
    ∷ record { map = maps.One; opcode = 0xa4; span = 1; digit = None; rm = None; f3 = f3s.RepeatsBoth; lock = true; size = sizes.B; imm = None; form = forms.Near; op = ops.Movs }
    ∷ record { map = maps.One; opcode = 0x90; span = 1; digit = None; rm = None; f3 = f3s.Allowed; lock = false; size = sizes.V; imm = None; form = forms.Near; op = ops.Nop }
    ∷ []

-- how many bytes the instruction has, 0 where the spelling has no end yet
abbrev taken : Decoded → Option ℕ
taken (decodeds.Insn x n) = Some n
taken decodeds.Short = Some 0
taken decodeds.Unknown = None

abbrev read : List ℕ → Option ℕ
read s = taken (decoded table s 0x1000)

lock_of_memory : read (0xf0 ∷ 0x01 ∷ 0x06 ∷ []) ≡ Some 3
lock_of_memory = refl

lock_of_a_register : read (0xf0 ∷ 0x01 ∷ 0xc6 ∷ []) ≡ None
lock_of_a_register = refl

lock_before_the_end : read (0xf0 ∷ 0x01 ∷ []) ≡ Some 0
lock_before_the_end = refl

lock_twice : read (0xf0 ∷ 0xf0 ∷ 0x01 ∷ 0x06 ∷ []) ≡ None
lock_twice = refl

lock_without_memory : read (0xf0 ∷ 0xa4 ∷ []) ≡ None
lock_without_memory = refl

lock_of_a_nop : read (0xf0 ∷ 0x90 ∷ []) ≡ None
lock_of_a_nop = refl

repeats : read (0xf2 ∷ 0xa4 ∷ []) ≡ Some 2
repeats = refl

repeats_twice : read (0xf2 ∷ 0xf3 ∷ 0xa4 ∷ []) ≡ None
repeats_twice = refl

both_at_once : read (0xf2 ∷ 0xf3 ∷ []) ≡ None
both_at_once = refl

repeats_no_nop : read (0xf2 ∷ 0x90 ∷ []) ≡ None
repeats_no_nop = refl
