-- Effects of plain instructions evaluated, with values by hand from the Intel SDM: each group, its edges and its order.
use Rattle.std.proofs.Common.{◌≡◌, ℕ, pos, ◌-ℤ◌, count_ones, ◌%◌, ◌==◌, Bool, true, false, List, [], ◌∷◌, Some, None, refl}
use Rattle.rz_num.specs.declared.width.Width.TheVariants.{W8, W16, W32, W64}
use Rattle.rz_flags.specs.declared.Flags.{Flags}
use Rattle.rz_flags.specs.declared.ArithOp.TheVariants as arith
use Rattle.rz_flags.specs.declared.UnaryOp.TheVariants as unary
use Rattle.rz_flags.specs.declared.WideOp.TheVariants as wide
use Rattle.rz_flags.specs.declared.ShiftOp.TheVariants as shift
use Rattle.rz_flags.specs.declared.BitOp.TheVariants as bit
use Rattle.rz_flags.specs.declared.ScanOp.TheVariants as scan
use Rattle.rz_flags.specs.declared.FlagOp.TheVariants as flag
use Rattle.rz_flags.specs.declared.Cond.TheVariants as cond
use Rattle.rz_image.specs.Perm.{read_only, read_write}
use Rattle.rz_image.specs.Memory.{Regions, cell_at, put_byte, refused, bytes_at, put_bytes, whole_region}
use Rattle.rz_isa.specs.declared.instruction.Reg.TheVariants.{R, High}
use Rattle.rz_isa.specs.declared.instruction.Place.{Place}
use Rattle.rz_isa.specs.declared.instruction.Place.TheVariants as place
use Rattle.rz_isa.specs.declared.instruction.Operand.TheVariants as operand
use Rattle.rz_isa.specs.declared.instruction.Count.TheVariants as count
use Rattle.rz_isa.specs.declared.instruction.BitIndex.TheVariants as index
use Rattle.rz_isa.specs.declared.instruction.Rep.TheVariants as rep
use Rattle.rz_isa.specs.declared.instruction.Insn.{Insn}
use Rattle.rz_isa.specs.declared.instruction.Insn.TheVariants as insn
use Rattle.rz_exec.specs.Form.{Completion, Memory, Own, Divide, Popped, carry, iterate, complete}
use Rattle.rz_exec.specs.Effect.{plain_effect}

-- RAX, RCX, RDX, RSP, RBP, RSI and RDI; the others are 0
regs : (rax rcx rdx rsp rbp rsi rdi : ℕ) → List ℕ
regs rax rcx rdx rsp rbp rsi rdi =
    rax ∷ rcx ∷ rdx ∷ 0 ∷ rsp ∷ rbp ∷ rsi ∷ rdi ∷ 0 ∷ 0 ∷ 0 ∷ 0 ∷ 0 ∷ 0 ∷ 0 ∷ 0 ∷ []

-- the accumulator alone
rax : ℕ → List ℕ
rax v = regs v 0 0 0 0 0 0

clear : Flags
clear = record { cf = false; pf = false; af = false; zf = false; sf = false; df = false; of = false }

carry_set : Flags
carry_set = record clear { cf = true }

-- PF: an even number of ones in the low byte
even : ℕ → Bool
even v = count_ones v % 2 == 0

-- sixteen bytes at 32 that may be written, and eight at 48 that may not
bytes : (low high : List ℕ) → Regions
bytes low high = whole_region 32 low read_write ∷ whole_region 48 high read_only ∷ []

memory : Regions
memory = bytes (1 ∷ 2 ∷ 3 ∷ 4 ∷ 5 ∷ 6 ∷ 7 ∷ 8 ∷ 9 ∷ 10 ∷ 11 ∷ 12 ∷ 13 ∷ 14 ∷ 15 ∷ 16 ∷ []) (0 ∷ 1 ∷ 0 ∷ 0 ∷ 0 ∷ 0 ∷ 0 ∷ 0 ∷ [])

after : Insn → List ℕ → Flags → Completion
after x regs flags = complete (plain_effect x regs flags) regs flags memory

whole : List ℕ → Flags → Completion
whole regs flags = record { regs = regs; flags = flags; mem = memory; exception = None }

reg : ℕ → Place
reg n = place.Reg (R n)

-- memory at a register and a displacement
behind : (base : ℕ) → Place
behind base = place.Mem (record { base = Some base; index = None; scale = 1; disp = pos 0 })

-- ---- arithmetic

-- 0x7f + 1 overflows, and carries out of bit 3
add_byte : after (insn.Arith arith.Add W8 (reg 0) (operand.Imm 1)) (rax 0x1237f) clear ≡ whole (rax 0x12380) (record clear { of = true; sf = true; af = true; pf = even 0x80 })
unfolding after even whole regs rax clear memory bytes reg plain_effect carry
add_byte = refl

-- AH alone is written; the carry is added
add_with_carry : after (insn.Arith arith.Adc W8 (place.Reg (High 0)) (operand.Place (reg 0))) (rax 0x12302) carry_set ≡ whole (rax 0x12602) (record clear { pf = even 0x26 })
unfolding after even whole regs rax clear carry_set memory bytes reg plain_effect carry
add_with_carry = refl

-- 0 - 1 at 32 bits borrows, and the upper half is cleared
subtract : after (insn.Arith arith.Sub W32 (reg 0) (operand.Imm 1)) (rax 0xffff_0000_0000) clear ≡ whole (rax 0xffff_ffff) (record clear { cf = true; sf = true; af = true; pf = even 0xff })
unfolding after even whole regs rax clear memory bytes reg plain_effect carry
subtract = refl

-- CMP writes nothing, not even the upper half
compare : after (insn.Arith arith.Cmp W32 (reg 0) (operand.Imm 5)) (rax 0xffff_0000_0005) clear ≡ whole (rax 0xffff_0000_0005) (record clear { zf = true; pf = even 0 })
unfolding after even whole regs rax clear memory bytes reg plain_effect carry
compare = refl

-- INC leaves CF
increment : after (insn.Unary unary.Inc W16 (reg 0)) (rax 0x1_ffff) carry_set ≡ whole (rax 0x1_0000) (record carry_set { zf = true; pf = even 0; af = true })
unfolding after even whole regs rax clear carry_set memory bytes reg plain_effect carry
increment = refl

-- ---- moves

move_half : after (insn.Mov W32 (reg 0) (operand.Place (reg 1))) (regs 0xffff_ffff_ffff 0xf_8765_4321 0 0 0 0 0) clear ≡ whole (regs 0x8765_4321 0xf_8765_4321 0 0 0 0 0) clear
unfolding after whole regs clear memory bytes reg plain_effect carry
move_half = refl

move_from_memory : after (insn.Mov W16 (reg 0) (operand.Place (place.At 33))) (rax 0xaaaa_aaaa) clear ≡ whole (rax 0xaaaa_0302) clear
unfolding after whole regs rax clear memory bytes reg plain_effect carry cell_at refused bytes_at
move_from_memory = refl

move_refused : after (insn.Mov W16 (place.At 47) (operand.Imm 7)) (rax 5) clear ≡ record (whole (rax 5) clear) { exception = Some (Memory 48) }
unfolding after whole regs rax clear memory bytes reg plain_effect carry cell_at refused
move_refused = refl

-- base, index times scale and displacement wrap at 2^64
load_address : after (insn.Lea W64 0 (place.Mem (record { base = Some 1; index = Some 2; scale = 8; disp = pos 0xff }))) (regs 0 0xffff_ffff_ffff_ff00 2 0 0 0 0) clear ≡ whole (regs 15 0xffff_ffff_ffff_ff00 2 0 0 0 0) clear
unfolding after whole regs clear memory bytes plain_effect carry
load_address = refl

-- a byte sign-extended to 32 bits clears the upper half
extend_byte : after (insn.Extend true W32 W8 0 (place.Reg (High 0))) (rax 0xffff_ffff_0000_8000) clear ≡ whole (rax 0xffff_ff80) clear
unfolding after whole regs rax clear memory bytes plain_effect carry
extend_byte = refl

-- AX to EAX
convert : after (insn.Convert W32) (rax 0x1234_8001) clear ≡ whole (rax 0xffff_8001) clear
unfolding after whole regs rax clear memory bytes plain_effect carry
convert = refl

fill : after (insn.SignFill W16) (regs 0x8000 0 0x7777_7777 0 0 0 0) clear ≡ whole (regs 0x8000 0 0x7777_ffff 0 0 0 0) clear
unfolding after whole regs clear memory bytes plain_effect carry
fill = refl

-- ---- the stack

-- PUSH RSP stores RSP as it was
push_stack : after (insn.Push (operand.Place (reg 4))) (regs 0 0 0 40 0 0 0) clear ≡ record { regs = regs 0 0 0 32 0 0 0; flags = clear; mem = bytes (40 ∷ 0 ∷ 0 ∷ 0 ∷ 0 ∷ 0 ∷ 0 ∷ 0 ∷ 9 ∷ 10 ∷ 11 ∷ 12 ∷ 13 ∷ 14 ∷ 15 ∷ 16 ∷ []) (0 ∷ 1 ∷ 0 ∷ 0 ∷ 0 ∷ 0 ∷ 0 ∷ 0 ∷ []); exception = None }
unfolding after regs clear memory bytes reg plain_effect carry cell_at put_byte refused bytes_at put_bytes
push_stack = refl

-- POP RSP leaves the word that it popped
pop_stack : after (insn.Pop (reg 4)) (regs 0 0 0 48 0 0 0) clear ≡ whole (regs 0 0 0 256 0 0 0) clear
unfolding after whole regs clear memory bytes reg plain_effect carry cell_at refused bytes_at
pop_stack = refl

-- POP to memory by RSP takes the address after the growth: 56 here, which may not be written
pop_to_memory : after (insn.Pop (behind 4)) (regs 0 0 0 48 0 0 0) clear ≡ record (whole (regs 0 0 0 48 0 0 0) clear) { exception = Some (Memory 56) }
unfolding after whole regs clear memory bytes behind plain_effect carry cell_at refused bytes_at
pop_to_memory = refl

leave : after insn.Leave (regs 0 0 0 7 48 0 0) clear ≡ whole (regs 0 0 0 56 256 0 0) clear
unfolding after whole regs clear memory bytes plain_effect carry cell_at refused bytes_at
leave = refl

-- the word 256 has TF set
pop_trap_flag : after insn.PopFlags (regs 0 0 0 48 0 0 0) clear ≡ record (whole (regs 0 0 0 48 0 0 0) clear) { exception = Some (Own Popped) }
unfolding after whole regs clear memory bytes plain_effect carry cell_at refused bytes_at
pop_trap_flag = refl

push_flags : after insn.PushFlags (regs 0 0 0 40 0 0 0) carry_set ≡ record { regs = regs 0 0 0 32 0 0 0; flags = carry_set; mem = bytes (3 ∷ 2 ∷ 0 ∷ 0 ∷ 0 ∷ 0 ∷ 0 ∷ 0 ∷ 9 ∷ 10 ∷ 11 ∷ 12 ∷ 13 ∷ 14 ∷ 15 ∷ 16 ∷ []) (0 ∷ 1 ∷ 0 ∷ 0 ∷ 0 ∷ 0 ∷ 0 ∷ 0 ∷ []); exception = None }
unfolding after regs clear carry_set memory bytes plain_effect carry cell_at put_byte refused bytes_at put_bytes
push_flags = refl

-- ---- products and quotients

-- the high half goes to RDX
multiply : after (insn.Wide wide.Mul W16 (reg 1)) (regs 0x8000 4 0x5_0005 0 0 0 0) clear ≡ whole (regs 0 4 0x5_0002 0 0 0 0) (record clear { cf = true; of = true })
unfolding after whole regs clear memory bytes reg plain_effect carry
multiply = refl

-- AL times CL into AX: -2 times 3
multiply_bytes : after (insn.Wide wide.Imul W8 (reg 1)) (regs 0x1_00fe 3 0 0 0 0 0) clear ≡ whole (regs 0x1_fffa 3 0 0 0 0 0) clear
unfolding after whole regs clear memory bytes reg plain_effect carry
multiply_bytes = refl

-- AX by CL: the remainder in AH
divide_bytes : after (insn.Wide wide.Div W8 (reg 1)) (regs 0x107 2 0 0 0 0 0) clear ≡ whole (regs 0x183 2 0 0 0 0 0) clear
unfolding after whole regs clear memory bytes reg plain_effect carry
divide_bytes = refl

-- 0x400 by 2 doesn't fit AL
quotient_too_large : after (insn.Wide wide.Div W8 (reg 1)) (regs 0x400 2 0 0 0 0 0) clear ≡ record (whole (regs 0x400 2 0 0 0 0 0) clear) { exception = Some (Own Divide) }
unfolding after whole regs clear memory bytes reg plain_effect carry
quotient_too_large = refl

-- the least number by -1
least_by_minus_one : after (insn.Wide wide.Idiv W32 (reg 1)) (regs 0x8000_0000 0xffff_ffff 0xffff_ffff 0 0 0 0) clear ≡ record (whole (regs 0x8000_0000 0xffff_ffff 0xffff_ffff 0 0 0 0) clear) { exception = Some (Own Divide) }
unfolding after whole regs clear memory bytes reg plain_effect carry
least_by_minus_one = refl

multiply_by_immediate : after (insn.Imul3 W32 2 (reg 0) 0xffff_fffe) (rax 3) clear ≡ whole (regs 3 0 0xffff_fffa 0 0 0 0) clear
unfolding after whole regs rax clear memory bytes reg plain_effect carry
multiply_by_immediate = refl

-- ---- shifts

-- by 32, which is masked to 0: no flag, and the upper half is cleared
shift_by_none : after (insn.Shift shift.Shl W32 (reg 0) (count.Imm 32)) (rax 0xffff_0000_0001) carry_set ≡ whole (rax 1) carry_set
unfolding after whole regs rax clear carry_set memory bytes reg plain_effect carry
shift_by_none = refl

-- the same on memory that can't be written
shift_refused : after (insn.Shift shift.Shl W8 (place.At 49) (count.Imm 0)) (rax 0) clear ≡ record (whole (rax 0) clear) { exception = Some (Memory 49) }
unfolding after whole regs rax clear memory bytes plain_effect carry cell_at refused bytes_at
shift_refused = refl

-- by CL
shift_left : after (insn.Shift shift.Shl W8 (reg 0) count.Cl) (regs 1 0x108 0 0 0 0 0) clear ≡ whole (regs 0 0x108 0 0 0 0 0) (record clear { cf = true; of = true; zf = true; pf = even 0 })
unfolding after even whole regs clear memory bytes reg plain_effect carry
shift_left = refl

double_shift : after (insn.DoubleShift true W32 (reg 0) 1 (count.Imm 8)) (regs 0x1234_5678 0xabcd_ef01 0 0 0 0 0) clear ≡ whole (regs 0x3456_78ab 0xabcd_ef01 0 0 0 0 0) (record clear { pf = even 0xab })
unfolding after even whole regs clear memory bytes reg plain_effect carry
double_shift = refl

-- ---- conditions

-- a move that fails still reads its source, and clears the upper half
failed_move : after (insn.Cmov cond.B W32 0 (place.At 48)) (rax 0xffff_0000_0001) clear ≡ whole (rax 1) clear
unfolding after whole regs rax clear memory bytes plain_effect carry cell_at refused bytes_at
failed_move = refl

failed_read : after (insn.Cmov cond.B W32 0 (place.At 54)) (rax 0xffff_0000_0001) clear ≡ record (whole (rax 0xffff_0000_0001) clear) { exception = Some (Memory 56) }
unfolding after whole regs rax clear memory bytes plain_effect carry cell_at refused bytes_at
failed_read = refl

set_byte : after (insn.Set cond.B (reg 0)) (rax 0xffff) carry_set ≡ whole (rax 0xff01) carry_set
unfolding after whole regs rax clear carry_set memory bytes reg plain_effect carry
set_byte = refl

-- ---- exchanges

-- the address is that of the register before
exchange : after (insn.Xchg W64 (behind 0) (R 0)) (rax 32) clear ≡ record { regs = rax 0x0807_0605_0403_0201; flags = clear; mem = bytes (32 ∷ 0 ∷ 0 ∷ 0 ∷ 0 ∷ 0 ∷ 0 ∷ 0 ∷ 9 ∷ 10 ∷ 11 ∷ 12 ∷ 13 ∷ 14 ∷ 15 ∷ 16 ∷ []) (0 ∷ 1 ∷ 0 ∷ 0 ∷ 0 ∷ 0 ∷ 0 ∷ 0 ∷ []); exception = None }
unfolding after regs rax clear memory bytes behind plain_effect carry cell_at put_byte refused bytes_at put_bytes
exchange = refl

exchange_bytes : after (insn.Xchg W8 (reg 0) (High 0)) (rax 0x5_1234) clear ≡ whole (rax 0x5_3412) clear
unfolding after whole regs rax clear memory bytes reg plain_effect carry
exchange_bytes = refl

swap_bytes : after (insn.Bswap W32 0) (rax 0xffff_ffff_1234_5678) clear ≡ whole (rax 0x7856_3412) clear
unfolding after whole regs rax clear memory bytes plain_effect carry
swap_bytes = refl

-- ---- bits

-- bit 35 modulo 32
set_bit : after (insn.BitTest bit.Set W32 (reg 0) (index.Imm 35)) (rax 0xffff_0000_0000) carry_set ≡ whole (rax 8) clear
unfolding after whole regs rax clear carry_set memory bytes reg plain_effect carry
set_bit = refl

test_bit : after (insn.BitTest bit.Test W32 (reg 0) (index.Reg 1)) (regs 0xffff_0000_0002 1 0 0 0 0 0) clear ≡ whole (regs 0xffff_0000_0002 1 0 0 0 0 0) carry_set
unfolding after whole regs clear carry_set memory bytes reg plain_effect carry
test_bit = refl

-- the whole register is left where there is no one
find_none : after (insn.Scan scan.Bsf W32 0 (reg 1)) (regs 0xffff_0000_0001 0xf_0000_0000 0 0 0 0 0) clear ≡ whole (regs 0xffff_0000_0001 0xf_0000_0000 0 0 0 0 0) (record clear { zf = true })
unfolding after whole regs clear memory bytes reg plain_effect carry
find_none = refl

count_zeros : after (insn.Scan scan.Tzcnt W32 0 (reg 1)) (regs 0xffff_0000_0001 0xf_0000_0000 0 0 0 0 0) clear ≡ whole (regs 32 0xf_0000_0000 0 0 0 0 0) (record clear { cf = true })
unfolding after whole regs clear memory bytes reg plain_effect carry
count_zeros = refl

-- ---- strings

-- three bytes over themselves: each is the byte before the first
copy_over_itself : after (insn.Movs W8 true) (regs 0 3 0 0 0 32 33) clear ≡ record { regs = regs 0 0 0 0 0 35 36; flags = clear; mem = bytes (1 ∷ 1 ∷ 1 ∷ 1 ∷ 5 ∷ 6 ∷ 7 ∷ 8 ∷ 9 ∷ 10 ∷ 11 ∷ 12 ∷ 13 ∷ 14 ∷ 15 ∷ 16 ∷ []) (0 ∷ 1 ∷ 0 ∷ 0 ∷ 0 ∷ 0 ∷ 0 ∷ 0 ∷ []); exception = None }
unfolding after regs clear memory bytes plain_effect carry iterate cell_at put_byte refused bytes_at put_bytes
copy_over_itself = refl

-- down, the bytes stay themselves
copy_down : after (insn.Movs W8 true) (regs 0 3 0 0 0 34 35) (record clear { df = true }) ≡ record { regs = regs 0 0 0 0 0 31 32; flags = record clear { df = true }; mem = bytes (1 ∷ 1 ∷ 2 ∷ 3 ∷ 5 ∷ 6 ∷ 7 ∷ 8 ∷ 9 ∷ 10 ∷ 11 ∷ 12 ∷ 13 ∷ 14 ∷ 15 ∷ 16 ∷ []) (0 ∷ 1 ∷ 0 ∷ 0 ∷ 0 ∷ 0 ∷ 0 ∷ 0 ∷ []); exception = None }
unfolding after regs clear memory bytes plain_effect carry iterate cell_at put_byte refused bytes_at put_bytes
copy_down = refl

-- the third word of five can't be written: two stay, and RCX and RDI are those of the third
store_part : after (insn.Stos W16 true) (regs 0xaabb 5 0 0 0 0 44) clear ≡ record { regs = regs 0xaabb 3 0 0 0 0 48; flags = clear; mem = bytes (1 ∷ 2 ∷ 3 ∷ 4 ∷ 5 ∷ 6 ∷ 7 ∷ 8 ∷ 9 ∷ 10 ∷ 11 ∷ 12 ∷ 0xbb ∷ 0xaa ∷ 0xbb ∷ 0xaa ∷ []) (0 ∷ 1 ∷ 0 ∷ 0 ∷ 0 ∷ 0 ∷ 0 ∷ 0 ∷ []); exception = Some (Memory 48) }
unfolding after regs clear memory bytes plain_effect carry iterate cell_at put_byte refused bytes_at put_bytes
store_part = refl

-- none where RCX is 0, whatever RDI
store_none : after (insn.Stos W64 true) (regs 0 0 0 0 0 0 0) clear ≡ whole (regs 0 0 0 0 0 0 0) clear
unfolding after whole regs clear memory bytes plain_effect iterate
store_none = refl

complement_carry : after (insn.Flag flag.Cmc) (rax 1) clear ≡ whole (rax 1) carry_set
unfolding after whole regs rax clear carry_set memory bytes plain_effect carry
complement_carry = refl

-- one that is not plain changes nothing
not_plain : after (insn.Ret 8) (rax 1) clear ≡ whole (rax 1) clear
unfolding after whole regs rax clear memory bytes plain_effect carry
not_plain = refl

-- ---- each operation and form of operand

-- AH alone
or_high_byte : after (insn.Arith arith.Or W8 (place.Reg (High 0)) (operand.Imm 0x0f)) (rax 0x1234f0) carry_set ≡ whole (rax 0x123ff0) (record clear { pf = even 0x3f })
unfolding after whole regs rax clear carry_set even memory bytes plain_effect carry
or_high_byte = refl

and_memory : after (insn.Arith arith.And W16 (place.At 32) (operand.Place (reg 0))) (rax 0xff00) clear ≡ record { regs = rax 0xff00; flags = record clear { pf = even 0 }; mem = bytes (0 ∷ 2 ∷ 3 ∷ 4 ∷ 5 ∷ 6 ∷ 7 ∷ 8 ∷ 9 ∷ 10 ∷ 11 ∷ 12 ∷ 13 ∷ 14 ∷ 15 ∷ 16 ∷ []) (0 ∷ 1 ∷ 0 ∷ 0 ∷ 0 ∷ 0 ∷ 0 ∷ 0 ∷ []); exception = None }
unfolding after regs rax clear reg even memory bytes plain_effect carry cell_at refused bytes_at put_byte put_bytes
and_memory = refl

-- destination and source are one
xor_itself : after (insn.Arith arith.Xor W64 (reg 0) (operand.Place (reg 0))) (rax 0xffff_ffff_ffff) carry_set ≡ whole (rax 0) (record clear { zf = true; pf = even 0 })
unfolding after whole regs rax clear carry_set reg even memory bytes plain_effect carry
xor_itself = refl

-- 0 - 1 - 1, the second operand read
subtract_with_borrow : after (insn.Arith arith.Sbb W8 (reg 0) (operand.Place (place.At 32))) (rax 0x100) carry_set ≡ whole (rax 0x1fe) (record clear { cf = true; af = true; sf = true; pf = even 0xfe })
unfolding after whole regs rax clear carry_set reg even memory bytes plain_effect carry cell_at refused bytes_at
subtract_with_borrow = refl

-- TEST writes nothing
test : after (insn.Test W32 (reg 0) (operand.Imm 0x8000_0000)) (rax 0xffff_8000_0000) carry_set ≡ whole (rax 0xffff_8000_0000) (record clear { sf = true; pf = even 0 })
unfolding after whole regs rax clear carry_set reg even memory bytes plain_effect carry
test = refl

invert : after (insn.Unary unary.Not W16 (reg 0)) (rax 0x1_00ff) carry_set ≡ whole (rax 0x1_ff00) carry_set
unfolding after whole regs rax carry_set reg clear memory bytes plain_effect carry
invert = refl

negate : after (insn.Unary unary.Neg W8 (reg 0)) (rax 1) clear ≡ whole (rax 0xff) (record clear { cf = true; af = true; sf = true; pf = even 0xff })
unfolding after whole regs rax clear reg even memory bytes plain_effect carry
negate = refl

-- the least number overflows, CF is left, and the upper half is cleared
decrement : after (insn.Unary unary.Dec W32 (reg 0)) (rax 0xf_8000_0000) carry_set ≡ whole (rax 0x7fff_ffff) (record carry_set { of = true; af = true; pf = even 0xff })
unfolding after whole regs rax carry_set reg even clear memory bytes plain_effect carry
decrement = refl

-- CH to memory
move_high_byte : after (insn.Mov W8 (place.At 33) (operand.Place (place.Reg (High 1)))) (regs 0 0xab00 0 0 0 0 0) clear ≡ record { regs = regs 0 0xab00 0 0 0 0 0; flags = clear; mem = bytes (1 ∷ 0xab ∷ 3 ∷ 4 ∷ 5 ∷ 6 ∷ 7 ∷ 8 ∷ 9 ∷ 10 ∷ 11 ∷ 12 ∷ 13 ∷ 14 ∷ 15 ∷ 16 ∷ []) (0 ∷ 1 ∷ 0 ∷ 0 ∷ 0 ∷ 0 ∷ 0 ∷ 0 ∷ []); exception = None }
unfolding after regs clear memory bytes plain_effect carry cell_at refused bytes_at put_byte put_bytes
move_high_byte = refl

-- by RSP and a displacement below 0
move_by_stack_pointer : after (insn.Mov W64 (reg 0) (operand.Place (place.Mem (record { base = Some 4; index = None; scale = 1; disp = pos 0 -ℤ pos 8 })))) (regs 0 0 0 40 0 0 0) clear ≡ whole (regs 0x0807_0605_0403_0201 0 0 40 0 0 0) clear
unfolding after whole regs clear reg memory bytes plain_effect carry cell_at refused bytes_at
move_by_stack_pointer = refl

-- an address is cut to 32 bits
load_address_half : after (insn.Lea W32 0 (place.At 0x1_2345_6789)) (rax 0) clear ≡ whole (rax 0x2345_6789) clear
unfolding after whole regs rax clear memory bytes plain_effect carry cell_at refused bytes_at
load_address_half = refl

-- a byte to 16 bits leaves the rest
extend_by_zeros : after (insn.Extend false W16 W8 0 (place.At 47)) (rax 0xffff_ffff) clear ≡ whole (rax 0xffff_0010) clear
unfolding after whole regs rax clear memory bytes plain_effect carry cell_at refused bytes_at
extend_by_zeros = refl

extend_half : after (insn.Extend true W64 W32 0 (reg 1)) (regs 0 0x8000_0000 0 0 0 0 0) clear ≡ whole (regs 0xffff_ffff_8000_0000 0x8000_0000 0 0 0 0 0) clear
unfolding after whole regs clear reg memory bytes plain_effect carry
extend_half = refl

-- AL to AX leaves the rest
convert_byte : after (insn.Convert W16) (rax 0x5_0080) clear ≡ whole (rax 0x5_ff80) clear
unfolding after whole regs rax clear memory bytes plain_effect carry
convert_byte = refl

fill_by_zeros : after (insn.SignFill W64) (regs 5 0 9 0 0 0 0) clear ≡ whole (regs 5 0 0 0 0 0 0) clear
unfolding after whole regs clear memory bytes plain_effect carry
fill_by_zeros = refl

push_immediate : after (insn.Push (operand.Imm 0xffff_ffff_ffff_ffff)) (regs 0 0 0 40 0 0 0) clear ≡ record { regs = regs 0 0 0 32 0 0 0; flags = clear; mem = bytes (0xff ∷ 0xff ∷ 0xff ∷ 0xff ∷ 0xff ∷ 0xff ∷ 0xff ∷ 0xff ∷ 9 ∷ 10 ∷ 11 ∷ 12 ∷ 13 ∷ 14 ∷ 15 ∷ 16 ∷ []) (0 ∷ 1 ∷ 0 ∷ 0 ∷ 0 ∷ 0 ∷ 0 ∷ 0 ∷ []); exception = None }
unfolding after regs clear memory bytes plain_effect carry cell_at refused bytes_at put_byte put_bytes
push_immediate = refl

-- the word at RSP before
push_by_stack_pointer : after (insn.Push (operand.Place (behind 4))) (regs 0 0 0 40 0 0 0) clear ≡ record { regs = regs 0 0 0 32 0 0 0; flags = clear; mem = bytes (9 ∷ 10 ∷ 11 ∷ 12 ∷ 13 ∷ 14 ∷ 15 ∷ 16 ∷ 9 ∷ 10 ∷ 11 ∷ 12 ∷ 13 ∷ 14 ∷ 15 ∷ 16 ∷ []) (0 ∷ 1 ∷ 0 ∷ 0 ∷ 0 ∷ 0 ∷ 0 ∷ 0 ∷ []); exception = None }
unfolding after regs clear behind memory bytes plain_effect carry cell_at refused bytes_at put_byte put_bytes
push_by_stack_pointer = refl

-- the word is stored at the RSP that grew
pop_behind_itself : after (insn.Pop (behind 4)) (regs 0 0 0 32 0 0 0) clear ≡ record { regs = regs 0 0 0 40 0 0 0; flags = clear; mem = bytes (1 ∷ 2 ∷ 3 ∷ 4 ∷ 5 ∷ 6 ∷ 7 ∷ 8 ∷ 1 ∷ 2 ∷ 3 ∷ 4 ∷ 5 ∷ 6 ∷ 7 ∷ 8 ∷ []) (0 ∷ 1 ∷ 0 ∷ 0 ∷ 0 ∷ 0 ∷ 0 ∷ 0 ∷ []); exception = None }
unfolding after regs clear behind memory bytes plain_effect carry cell_at refused bytes_at put_byte put_bytes
pop_behind_itself = refl

-- 0x0c0b0a09 has CF and OF, and none of TF, NT, AC and ID
pop_flags : after insn.PopFlags (regs 0 0 0 40 0 0 0) clear ≡ whole (regs 0 0 0 48 0 0 0) (record clear { cf = true; of = true })
unfolding after whole regs clear memory bytes plain_effect carry cell_at refused bytes_at
pop_flags = refl

-- both halves clear their upper half
multiply_half : after (insn.Wide wide.Mul W32 (reg 1)) (regs 0xf_ffff_ffff 2 0xf_0000_0000 0 0 0 0) clear ≡ whole (regs 0xffff_fffe 2 1 0 0 0 0) (record clear { cf = true; of = true })
unfolding after whole regs clear reg memory bytes plain_effect carry
multiply_half = refl

-- -7 by 2, toward zero
divide_signed : after (insn.Wide wide.Idiv W32 (reg 1)) (regs 0xffff_fff9 2 0xffff_ffff 0 0 0 0) clear ≡ whole (regs 0xffff_fffd 2 0xffff_ffff 0 0 0 0) clear
unfolding after whole regs clear reg memory bytes plain_effect carry
divide_signed = refl

-- the divisor at 54 is 0
divide_by_zero : after (insn.Wide wide.Div W16 (place.At 54)) (rax 1) clear ≡ record (whole (rax 1) clear) { exception = Some (Own Divide) }
unfolding after whole regs rax clear memory bytes plain_effect carry cell_at refused bytes_at
divide_by_zero = refl

-- a read that faults comes before
divisor_unread : after (insn.Wide wide.Div W16 (place.At 55)) (rax 1) clear ≡ record (whole (rax 1) clear) { exception = Some (Memory 56) }
unfolding after whole regs rax clear memory bytes plain_effect carry cell_at refused bytes_at
divisor_unread = refl

multiply_cut : after (insn.Imul2 W16 0 (reg 1)) (regs 0x5_4000 4 0 0 0 0 0) clear ≡ whole (regs 0x5_0000 4 0 0 0 0 0) (record clear { cf = true; of = true })
unfolding after whole regs clear reg memory bytes plain_effect carry
multiply_cut = refl

shift_signed : after (insn.Shift shift.Sar W8 (reg 0) (count.Imm 1)) (rax 0x81) clear ≡ whole (rax 0xc0) (record clear { cf = true; sf = true; pf = even 0xc0 })
unfolding after whole regs rax clear reg even memory bytes plain_effect carry
shift_signed = refl

shift_past_the_width : after (insn.Shift shift.Shl W8 (reg 0) (count.Imm 9)) (rax 1) carry_set ≡ whole (rax 0) (record clear { zf = true; pf = even 0 })
unfolding after whole regs rax clear carry_set reg even memory bytes plain_effect carry
shift_past_the_width = refl

-- by the width: the same value, and CF and OF
rotate_whole : after (insn.Shift shift.Rol W8 (reg 0) (count.Imm 8)) (rax 0x81) clear ≡ whole (rax 0x81) carry_set
unfolding after whole regs rax clear carry_set reg memory bytes plain_effect carry
rotate_whole = refl

rotate_right : after (insn.Shift shift.Ror W8 (place.At 32) (count.Imm 1)) (rax 0) clear ≡ record { regs = rax 0; flags = record clear { cf = true; of = true }; mem = bytes (0x80 ∷ 2 ∷ 3 ∷ 4 ∷ 5 ∷ 6 ∷ 7 ∷ 8 ∷ 9 ∷ 10 ∷ 11 ∷ 12 ∷ 13 ∷ 14 ∷ 15 ∷ 16 ∷ []) (0 ∷ 1 ∷ 0 ∷ 0 ∷ 0 ∷ 0 ∷ 0 ∷ 0 ∷ []); exception = None }
unfolding after regs rax clear memory bytes plain_effect carry cell_at refused bytes_at put_byte put_bytes
rotate_right = refl

double_shift_right : after (insn.DoubleShift false W32 (reg 0) 1 (count.Imm 4)) (regs 0x1234_5678 0xabcd_ef01 0 0 0 0 0) clear ≡ whole (regs 0x1123_4567 0xabcd_ef01 0 0 0 0 0) (record clear { cf = true; pf = even 0x67 })
unfolding after whole regs clear reg even memory bytes plain_effect carry
double_shift_right = refl

failed_move_16 : after (insn.Cmov cond.B W16 0 (reg 1)) (regs 0xffff_1234 7 0 0 0 0 0) clear ≡ whole (regs 0xffff_1234 7 0 0 0 0 0) clear
unfolding after whole regs clear reg memory bytes plain_effect carry
failed_move_16 = refl

failed_move_64 : after (insn.Cmov cond.B W64 0 (reg 1)) (regs 0xffff_0000_1234 7 0 0 0 0 0) clear ≡ whole (regs 0xffff_0000_1234 7 0 0 0 0 0) clear
unfolding after whole regs clear reg memory bytes plain_effect carry
failed_move_64 = refl

move_where_it_holds : after (insn.Cmov cond.B W16 0 (reg 1)) (regs 0xffff_1234 7 0 0 0 0 0) carry_set ≡ whole (regs 0xffff_0007 7 0 0 0 0 0) carry_set
unfolding after whole regs carry_set reg clear memory bytes plain_effect carry
move_where_it_holds = refl

-- 0 where the condition fails
set_high_byte : after (insn.Set cond.B (place.Reg (High 0))) (rax 0xffff) clear ≡ whole (rax 0x00ff) clear
unfolding after whole regs rax clear memory bytes plain_effect carry
set_high_byte = refl

-- both are cut
exchange_halves : after (insn.Xchg W32 (reg 0) (R 1)) (regs 0xf_0000_0001 0xf_0000_0002 0 0 0 0 0) clear ≡ whole (regs 2 1 0 0 0 0 0) clear
unfolding after whole regs clear reg memory bytes plain_effect carry
exchange_halves = refl

exchange_refused : after (insn.Xchg W8 (place.At 48) (R 0)) (rax 5) clear ≡ record (whole (rax 5) clear) { exception = Some (Memory 48) }
unfolding after whole regs rax clear memory bytes plain_effect carry cell_at refused bytes_at
exchange_refused = refl

swap_eight_bytes : after (insn.Bswap W64 0) (rax 0x0102_0304_0506_0708) clear ≡ whole (rax 0x0807_0605_0403_0201) clear
unfolding after whole regs rax clear memory bytes plain_effect carry
swap_eight_bytes = refl

-- in memory
reset_bit : after (insn.BitTest bit.Reset W16 (place.At 32) (index.Imm 0)) (rax 0) clear ≡ record { regs = rax 0; flags = carry_set; mem = bytes (0 ∷ 2 ∷ 3 ∷ 4 ∷ 5 ∷ 6 ∷ 7 ∷ 8 ∷ 9 ∷ 10 ∷ 11 ∷ 12 ∷ 13 ∷ 14 ∷ 15 ∷ 16 ∷ []) (0 ∷ 1 ∷ 0 ∷ 0 ∷ 0 ∷ 0 ∷ 0 ∷ 0 ∷ []); exception = None }
unfolding after regs rax clear carry_set memory bytes plain_effect carry cell_at refused bytes_at put_byte put_bytes
reset_bit = refl

-- bit 65 modulo 64
complement_bit : after (insn.BitTest bit.Complement W64 (reg 0) (index.Reg 1)) (regs 0 65 0 0 0 0 0) carry_set ≡ whole (regs 2 65 0 0 0 0 0) clear
unfolding after whole regs clear carry_set reg memory bytes plain_effect carry
complement_bit = refl

-- BT needs no right to write
test_bit_unwritten : after (insn.BitTest bit.Test W16 (place.At 48) (index.Imm 8)) (rax 0) clear ≡ whole (rax 0) carry_set
unfolding after whole regs rax clear carry_set memory bytes plain_effect carry cell_at refused bytes_at
test_bit_unwritten = refl

-- RCX is left
copy_once : after (insn.Movs W32 false) (regs 0 3 0 0 0 32 40) clear ≡ record { regs = regs 0 3 0 0 0 36 44; flags = clear; mem = bytes (1 ∷ 2 ∷ 3 ∷ 4 ∷ 5 ∷ 6 ∷ 7 ∷ 8 ∷ 1 ∷ 2 ∷ 3 ∷ 4 ∷ 13 ∷ 14 ∷ 15 ∷ 16 ∷ []) (0 ∷ 1 ∷ 0 ∷ 0 ∷ 0 ∷ 0 ∷ 0 ∷ 0 ∷ []); exception = None }
unfolding after regs clear memory bytes plain_effect carry cell_at refused bytes_at put_byte put_bytes
copy_once = refl

store_down : after (insn.Stos W8 false) (regs 0x1ff 0 0 0 0 0 33) (record clear { df = true }) ≡ record { regs = regs 0x1ff 0 0 0 0 0 32; flags = record clear { df = true }; mem = bytes (1 ∷ 0xff ∷ 3 ∷ 4 ∷ 5 ∷ 6 ∷ 7 ∷ 8 ∷ 9 ∷ 10 ∷ 11 ∷ 12 ∷ 13 ∷ 14 ∷ 15 ∷ 16 ∷ []) (0 ∷ 1 ∷ 0 ∷ 0 ∷ 0 ∷ 0 ∷ 0 ∷ 0 ∷ []); exception = None }
unfolding after regs clear memory bytes plain_effect carry cell_at refused bytes_at put_byte put_bytes
store_down = refl

clear_direction : after (insn.Flag flag.Cld) (rax 1) (record carry_set { df = true }) ≡ whole (rax 1) carry_set
unfolding after whole regs rax carry_set clear memory bytes plain_effect carry
clear_direction = refl

-- ---- rotates with carry

-- a whole turn leaves the value and the flags
turn_with_carry : after (insn.Shift shift.Rcl W8 (reg 0) (count.Imm 9)) (rax 0x1280) carry_set ≡ whole (rax 0x1280) carry_set
unfolding after whole regs rax clear carry_set reg memory bytes plain_effect carry
turn_with_carry = refl

-- a count of 0 writes the same value, which is cut
rotate_by_none : after (insn.Shift shift.Rcr W32 (reg 0) (count.Imm 0)) (rax 0xf_0000_0001) carry_set ≡ whole (rax 1) carry_set
unfolding after whole regs rax clear carry_set reg memory bytes plain_effect carry
rotate_by_none = refl

-- ---- compare and exchange, exchange and add

-- the destination is cut, and the accumulator left whole
compare_equal : after (insn.CmpXchg W32 (reg 1) (R 2)) (regs 0xf_0000_0005 0xa_0000_0005 7 0 0 0 0) clear ≡ whole (regs 0xf_0000_0005 7 7 0 0 0 0) (record clear { zf = true; pf = even 0 })
unfolding after even whole regs clear reg memory bytes plain_effect carry
compare_equal = refl

-- the accumulator is cut, and the destination left whole
compare_unequal : after (insn.CmpXchg W32 (reg 1) (R 2)) (regs 0xf_0000_0005 0xa_0000_0006 7 0 0 0 0) clear ≡ whole (regs 6 0xa_0000_0006 7 0 0 0 0) (record clear { cf = true; pf = even 0xff; af = true; sf = true })
unfolding after even whole regs clear reg memory bytes plain_effect carry
compare_unequal = refl

-- memory that isn't taken is written all the same
compare_refused : after (insn.CmpXchg W8 (place.At 48) (R 1)) (rax 5) clear ≡ record (whole (rax 5) clear) { exception = Some (Memory 48) }
unfolding after whole regs rax clear memory bytes plain_effect carry cell_at refused bytes_at
compare_refused = refl

-- of one register, the sum stays
add_to_itself : after (insn.Xadd W32 (reg 0) (R 0)) (rax 0xf_0000_0003) clear ≡ whole (rax 6) (record clear { pf = even 6 })
unfolding after even whole regs rax clear reg memory bytes plain_effect carry
add_to_itself = refl

add_halves : after (insn.Xadd W8 (reg 0) (High 0)) (rax 0x0201) clear ≡ whole (rax 0x0103) (record clear { pf = even 3 })
unfolding after even whole regs rax clear reg memory bytes plain_effect carry
add_halves = refl

-- ---- comparisons of strings

-- RCX is left; 3 less 2
compare_down : after (insn.Cmps W8 rep.No) (regs 0 3 0 0 0 34 33) (record clear { df = true }) ≡ whole (regs 0 3 0 0 0 33 32) (record clear { df = true; pf = even 1 })
unfolding after even whole regs clear memory bytes plain_effect carry cell_at refused bytes_at
compare_down = refl

-- four bytes of which the second differs: 2 less 0
compare_while_equal : after (insn.Cmps W8 rep.WhileEqual) (regs 0 4 0 0 0 32 49) clear ≡ whole (regs 0 2 0 0 0 34 51) (record clear { pf = even 2 })
unfolding after even whole regs clear memory bytes plain_effect carry iterate cell_at refused bytes_at
compare_while_equal = refl

-- the third byte is 3
scan_while_not : after (insn.Scas W8 rep.WhileNot) (regs 3 10 0 0 0 0 32) clear ≡ whole (regs 3 7 0 0 0 0 35) (record clear { zf = true; pf = even 0 })
unfolding after even whole regs clear memory bytes plain_effect carry iterate cell_at refused bytes_at
scan_while_not = refl

-- eleven bytes are passed, and the twelfth can't be read: the flags are those of 99 less 0
scan_part : after (insn.Scas W8 rep.WhileNot) (regs 99 30 0 0 0 0 45) clear ≡ record (whole (regs 99 19 0 0 0 0 56) (record clear { pf = even 99 })) { exception = Some (Memory 56) }
unfolding after even whole regs clear memory bytes plain_effect carry iterate cell_at refused bytes_at
scan_part = refl

-- none where RCX is 0, whatever RSI and RDI
compare_none : after (insn.Cmps W64 rep.WhileEqual) (regs 0 0 0 0 0 0 0) clear ≡ whole (regs 0 0 0 0 0 0 0) clear
unfolding after whole regs clear memory bytes plain_effect carry iterate
compare_none = refl
