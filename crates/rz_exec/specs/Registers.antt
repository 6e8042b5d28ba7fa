-- General registers read and written at a width (Intel SDM, volume 1, section 3.4.1.1, "General-Purpose Registers in
-- 64-Bit Mode"). Each write cuts what it writes, so that registers stay words of 64 bits.
use Rattle.std.specs.Prelude.{◌≡◌, ℕ, ◌+◌, ◌-◌, ◌*◌, ◌/◌, ◌%◌, ◌^◌, ◌<◌, List, length, get_or, set}
use Rattle.std.specs.List.{AllByRecursion}
use Rattle.rz_num.specs.declared.width.Width.{Width}
use Rattle.rz_num.specs.declared.width.Width.TheVariants.{W8, W16, W32, W64}
use Rattle.rz_num.specs.Width.{low_bits}
use Rattle.rz_isa.specs.declared.instruction.Reg.{Reg}
use Rattle.rz_isa.specs.declared.instruction.Reg.TheVariants.{R, High}

-- a word of 64 bits
abbrev pub IsWord : ℕ → Type 0
IsWord v = v < 2 ^ 64

-- sixteen words
pub record AreRegs (regs : List ℕ) : Type 0 where
  pub sixteen : length regs ≡ 16
  pub words : AllByRecursion IsWord regs

-- a register after a value is written to it: 32 bits clear the upper half, 8 and 16 bits leave the rest
abbrev pub merge : Width → ℕ → ℕ → ℕ
merge W8 old v = old - low_bits W8 old + low_bits W8 v
merge W16 old v = old - low_bits W16 old + low_bits W16 v
merge W32 old v = low_bits W32 v
merge W64 old v = low_bits W64 v

-- its second byte, and the register after that is written
abbrev pub high_byte : ℕ → ℕ
high_byte old = old / 2 ^ 8 % 2 ^ 8

abbrev pub merge_high : ℕ → ℕ → ℕ
merge_high old v = old / 2 ^ 16 * 2 ^ 16 + v % 2 ^ 8 * 2 ^ 8 + old % 2 ^ 8

-- ---- by its number: RAX, RCX, RDX, RBX, RSP, RBP, RSI, RDI are 0 to 7

abbrev pub get_reg : Width → List ℕ → ℕ → ℕ
get_reg w regs n = low_bits w (get_or regs n 0)

abbrev pub put_reg : Width → List ℕ → ℕ → ℕ → List ℕ
put_reg w regs n v = set regs n (merge w (get_or regs n 0) v)

-- ---- by its name: High 0 to High 3 are AH, CH, DH and BH

abbrev pub get_named : Width → List ℕ → Reg → ℕ
get_named w regs (R n) = get_reg w regs n
get_named w regs (High n) = high_byte (get_or regs n 0)

abbrev pub put_named : Width → List ℕ → Reg → ℕ → List ℕ
put_named w regs (R n) v = put_reg w regs n v
put_named w regs (High n) v = set regs n (merge_high (get_or regs n 0) v)
