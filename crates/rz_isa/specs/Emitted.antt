use Rattle.std.specs.Prelude.{ℕ, ◌≡◌, ◌+◌, ◌/◌, ◌%◌, ◌^◌, ◌<◌, ◌≤◌, ◌≢◌, nat_lt, ◌||◌, Bool, true, false, List, [], ◌∷◌, length, Option, Some, None, IsTrue, IsSomeAnd}
use Rattle.std.specs.List.{list_any}
use Rattle.rz_num.specs.declared.width.Width.{Width}
use Rattle.rz_num.specs.declared.width.Width.TheVariants.{W8, W16, W32, W64}
use Rattle.rz_num.specs.Width.{size}
use Rattle.rz_flags.specs.declared.Cond.{Cond}
use Rattle.rz_flags.specs.declared.ArithOp.{ArithOp}
use Rattle.rz_flags.specs.declared.ArithOp.TheVariants as ariths
use Rattle.rz_flags.specs.declared.ShiftOp.TheVariants as shifts
use Rattle.rz_isa.specs.declared.rows.Row.{Row}
use Rattle.rz_isa.specs.declared.rows.Form.{Form}
use Rattle.rz_isa.specs.declared.rows.Op.{Op}
use Rattle.rz_isa.specs.declared.rows.Op.TheVariants as ops
use Rattle.rz_isa.specs.declared.rows.Form.TheVariants as forms
use Rattle.rz_isa.specs.declared.instruction.Insn.{Insn}
use Rattle.rz_isa.specs.declared.instruction.Insn.TheVariants as insns
use Rattle.rz_isa.specs.declared.instruction.Reg.TheVariants as regs
use Rattle.rz_isa.specs.declared.instruction.Mem.{Mem}
use Rattle.rz_isa.specs.declared.instruction.Place.{Place}
use Rattle.rz_isa.specs.declared.instruction.Place.TheVariants as places
use Rattle.rz_isa.specs.declared.instruction.Operand.TheVariants as operands
use Rattle.rz_isa.specs.declared.instruction.Count.TheVariants as counts
use Rattle.rz_isa.specs.Having.{is_extended, is_memory, names_register, names_memory}
use Rattle.rz_isa.specs.Canonical.{offset, place_bytes, place_reaches, canonical}

-- The instructions that fragments, stubs and the lookup routine are made of have canonical
-- spellings for all their fields, and these have the lengths that are said.

-- ---- a canonical spelling and its length

-- it is there, and has so many bytes
abbrev pub HasSpelling : List Row → Insn → ℕ → Form → ℕ → Type 0
HasSpelling rows x at form n = IsSomeAnd (canonical rows x at form) (λ s. length s ≡ n)

-- it is there, and has at most so many bytes
abbrev pub HasShortSpelling : List Row → Insn → ℕ → Form → ℕ → Type 0
HasShortSpelling rows x at form n = IsSomeAnd (canonical rows x at form) (λ s. length s ≤ n)

-- how many bytes ModRM, SIB and displacement have that name the place: six at most
abbrev pub place_len : Place → ℕ
place_len p = length (place_bytes 0 0 p)

-- the target is in reach of a displacement of one or four bytes from behind so many bytes
abbrev pub near : ℕ → ℕ → ℕ → Bool
near at len target = is_extended (2 ^ 31) (2 ^ 64) (offset ((at + len) % 2 ^ 64) target)

abbrev pub close : ℕ → ℕ → ℕ → Bool
close at len target = is_extended (2 ^ 7) (2 ^ 64) (offset ((at + len) % 2 ^ 64) target)

-- what one byte, or four, sign-extended and cut to the width give
abbrev pub fits_8 : Width → ℕ → Bool
fits_8 w n = is_extended (2 ^ 7) (size w) n

abbrev pub fits_32 : Width → ℕ → Bool
fits_32 W64 n = is_extended (2 ^ 31) (2 ^ 64) n
fits_32 w n = nat_lt n (size w)

-- ---- operands

abbrev pub register : ℕ → Place
register r = places.Reg (regs.R r)

-- what ModRM names at 64 bits: a register, memory by registers or relative to RIP
abbrev pub is_wide_operand : Place → Bool
is_wide_operand p = names_register W64 p || names_memory p

-- the operand of an indirect call or jump
abbrev pub indirect_operand : Insn → Option Place
indirect_operand (insns.CallInd s) = Some s
indirect_operand (insns.JmpInd s) = Some s
indirect_operand _ = None

-- ---- moves, jumps, pushes and what ends a path

pub record Emits (rows : List Row) : Type 0 where
  -- a move of 64 bits to a register, to memory, of an immediate to memory; of 32 bits from memory
  pub load : (r at : ℕ) (p : Place) → r < 16 → IsTrue (is_wide_operand p) → IsTrue (place_reaches ((at + (2 + place_len p)) % 2 ^ 64) p)
      → HasSpelling rows (insns.Mov W64 (register r) (operands.Place p)) at forms.Near (2 + place_len p)
  pub store : (r at : ℕ) (m : Mem) → r < 16 → IsTrue (is_memory m)
      → HasSpelling rows (insns.Mov W64 (places.Mem m) (operands.Place (register r))) at forms.Near (2 + place_len (places.Mem m))
  pub store_imm : (n at : ℕ) (m : Mem) → IsTrue (fits_32 W64 n) → IsTrue (is_memory m)
      → HasSpelling rows (insns.Mov W64 (places.Mem m) (operands.Imm n)) at forms.Near (6 + place_len (places.Mem m))
  pub load_32 : (r at : ℕ) (m : Mem) → r < 16 → IsTrue (is_memory m)
      → HasShortSpelling rows (insns.Mov W32 (register r) (operands.Place (places.Mem m))) at forms.Near (2 + place_len (places.Mem m))
  -- a move of an immediate to a 32-bit register
  pub mov : (r n at : ℕ) → r < 16 → n < 2 ^ 32
      → HasSpelling rows (insns.Mov W32 (register r) (operands.Imm n)) at forms.Near (5 + r / 8)
  pub lea : (r at : ℕ) (m : Mem) → r < 16 → IsTrue (is_memory m)
      → HasSpelling rows (insns.Lea W64 r (places.Mem m)) at forms.Near (2 + place_len (places.Mem m))
  pub push : (r at : ℕ) → r < 16 → HasSpelling rows (insns.Push (operands.Place (register r))) at forms.Near (1 + r / 8)
  pub push_byte : (n at : ℕ) → IsTrue (fits_8 W64 n) → HasSpelling rows (insns.Push (operands.Imm n)) at forms.Near 2
  pub push_imm : (n at : ℕ) → IsTrue (fits_32 W64 n) → fits_8 W64 n ≡ false
      → HasSpelling rows (insns.Push (operands.Imm n)) at forms.Near 5
  pub pop : (r at : ℕ) → r < 16 → HasSpelling rows (insns.Pop (register r)) at forms.Near (1 + r / 8)
  pub jcc : (c : Cond) (t at : ℕ) → t < 2 ^ 64 → IsTrue (near at 6 t) → HasSpelling rows (insns.Jcc c t) at forms.Near 6
  pub jcc_short : (c : Cond) (t at : ℕ) → t < 2 ^ 64 → IsTrue (close at 2 t)
      → HasSpelling rows (insns.Jcc c t) at forms.Short 2
  pub jrcxz : (t at : ℕ) → t < 2 ^ 64 → IsTrue (close at 2 t) → HasSpelling rows (insns.Jrcxz t) at forms.Near 2
  pub jmp : (t at : ℕ) → t < 2 ^ 64 → IsTrue (near at 5 t) → HasSpelling rows (insns.Jmp t) at forms.Near 5
  pub jmp_short : (t at : ℕ) → t < 2 ^ 64 → IsTrue (close at 2 t) → HasSpelling rows (insns.Jmp t) at forms.Short 2
  pub syscall : (at : ℕ) → HasSpelling rows insns.Syscall at forms.Near 2
  -- the bytes of UD2 (Intel SDM, volume 2, "UD")
  pub ud2 : (at : ℕ) → canonical rows insns.Ud2 at forms.Near ≡ Some (0x0f ∷ 0x0b ∷ [])
  pub hlt : (at : ℕ) → HasSpelling rows insns.Hlt at forms.Near 1
  pub int3 : (at : ℕ) → HasSpelling rows insns.Int3 at forms.Near 1

-- ---- sums, comparisons, shifts, the flags word and the jump through memory: a table with
-- transfers that are looked up has what the lookup routine is made of

abbrev pub is_looked_up : Op → Bool
is_looked_up (ops.CallInd s) = true
is_looked_up (ops.JmpInd s) = true
is_looked_up ops.Ret = true
is_looked_up _ = false

abbrev pub has_lookup : List Row → Bool
has_lookup rows = list_any (λ row. is_looked_up row.op) rows

abbrev pub is_emitted : ArithOp → Bool
is_emitted ariths.Add = true
is_emitted ariths.Sub = true
is_emitted ariths.Cmp = true
is_emitted _ = false

-- 32 or 64 bits
abbrev pub is_double : Width → Bool
is_double W8 = false
is_double W16 = false
is_double _ = true

pub record EmitsLookup (rows : List Row) : Type 0 where
  pub arith : (o : ArithOp) (w : Width) (r q at : ℕ) → IsTrue (is_emitted o) → IsTrue (is_double w) → r < 16 → q < 16
      → HasShortSpelling rows (insns.Arith o w (register r) (operands.Place (register q))) at forms.Near 3
  pub arith_load : (o : ArithOp) (w : Width) (r at : ℕ) (m : Mem) → IsTrue (is_emitted o) → IsTrue (is_double w) → r < 16 → IsTrue (is_memory m)
      → HasShortSpelling rows (insns.Arith o w (register r) (operands.Place (places.Mem m))) at forms.Near (2 + place_len (places.Mem m))
  pub arith_store : (o : ArithOp) (w : Width) (r at : ℕ) (m : Mem) → IsTrue (is_emitted o) → IsTrue (is_double w) → r < 16 → IsTrue (is_memory m)
      → HasShortSpelling rows (insns.Arith o w (places.Mem m) (operands.Place (register r))) at forms.Near (2 + place_len (places.Mem m))
  pub arith_byte : (o : ArithOp) (w : Width) (r n at : ℕ) → IsTrue (is_emitted o) → IsTrue (is_double w) → r < 16 → IsTrue (fits_8 w n)
      → HasShortSpelling rows (insns.Arith o w (register r) (operands.Imm n)) at forms.Near 4
  pub arith_imm : (o : ArithOp) (w : Width) (r n at : ℕ) → IsTrue (is_emitted o) → IsTrue (is_double w) → r < 16 → IsTrue (fits_32 w n) → fits_8 w n ≡ false
      → HasShortSpelling rows (insns.Arith o w (register r) (operands.Imm n)) at forms.Near 7
  -- by one there is an opcode without an immediate
  pub shr_once : (w : Width) (r at : ℕ) → IsTrue (is_double w) → r < 16
      → HasShortSpelling rows (insns.Shift shifts.Shr w (register r) (counts.Imm 1)) at forms.Near 3
  pub shr : (w : Width) (r n at : ℕ) → IsTrue (is_double w) → r < 16 → n < 2 ^ 8 → n ≢ 1
      → HasShortSpelling rows (insns.Shift shifts.Shr w (register r) (counts.Imm n)) at forms.Near 4
  pub push_flags : (at : ℕ) → HasSpelling rows insns.PushFlags at forms.Near 1
  pub pop_flags : (at : ℕ) → HasSpelling rows insns.PopFlags at forms.Near 1
  pub jmp_ind : (at : ℕ) (m : Mem) → IsTrue (is_memory m)
      → HasShortSpelling rows (insns.JmpInd (places.Mem m)) at forms.Near (2 + place_len (places.Mem m))
