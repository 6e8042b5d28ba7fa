use Rattle.std.specs.Prelude.{◌≡◌, [], ◌∷◌, refl}
use Rattle.rz_num.specs.declared.width.Width.TheVariants.{W32, W64}
use Rattle.rz_isa.specs.declared.decoding.Decoded.TheVariants as decodeds
use Rattle.rz_isa.specs.declared.instruction.Insn.TheVariants as insns
use Rattle.rz_isa.specs.declared.instruction.Place.TheVariants as places
use Rattle.rz_isa.specs.declared.instruction.Operand.TheVariants as operands
use Rattle.rz_isa.specs.declared.instruction.Reg.TheVariants as regs
use Rattle.rz_isa.specs.Decoded.{decoded}
use Rattle.rz_table.specs.declared.profile_rows.TheConstants.{PROFILE}

-- What stands at the front of bytes by profile 1, evaluated.

-- ---- an instruction, whatever follows

move_of_registers : decoded PROFILE (0x48 ∷ 0x89 ∷ 0xe5 ∷ []) 0x1000 ≡ decodeds.Insn (insns.Mov W64 (places.Reg (regs.R 5)) (operands.Place (places.Reg (regs.R 4)))) 3
move_of_registers = refl

call_with_67 : decoded PROFILE (0x67 ∷ 0xe8 ∷ 0x00 ∷ 0x00 ∷ 0x00 ∷ 0x00 ∷ []) 0x1000 ≡ decodeds.Insn (insns.Call 0x1006) 6
call_with_67 = refl

long_nop : decoded PROFILE (0x66 ∷ 0x66 ∷ 0x0f ∷ 0x1f ∷ 0x00 ∷ []) 0x1000 ≡ decodeds.Insn (insns.Nop) 5
long_nop = refl

longest_nop : decoded PROFILE (0x66 ∷ 0x66 ∷ 0x66 ∷ 0x66 ∷ 0x66 ∷ 0x66 ∷ 0x66 ∷ 0x66 ∷ 0x66 ∷ 0x66 ∷ 0x66 ∷ 0x66 ∷ 0x0f ∷ 0x1f ∷ 0x00 ∷ 0x90 ∷ []) 0x1000 ≡ decodeds.Insn (insns.Nop) 15
longest_nop = refl

pause : decoded PROFILE (0xf3 ∷ 0x90 ∷ []) 0x1000 ≡ decodeds.Insn (insns.Nop) 2
pause = refl

nop : decoded PROFILE (0x90 ∷ 0xf0 ∷ []) 0x1000 ≡ decodeds.Insn (insns.Nop) 1
nop = refl

endbr64 : decoded PROFILE (0xf3 ∷ 0x0f ∷ 0x1e ∷ 0xfa ∷ []) 0x1000 ≡ decodeds.Insn (insns.Nop) 4
endbr64 = refl

exchange_of_r8 : decoded PROFILE (0x41 ∷ 0x90 ∷ []) 0x1000 ≡ decodeds.Insn (insns.Xchg W32 (places.Reg (regs.R 8)) (regs.R 0)) 2
exchange_of_r8 = refl

call_of_the_system : decoded PROFILE (0x0f ∷ 0x05 ∷ []) 0x1000 ≡ decodeds.Insn (insns.Syscall) 2
call_of_the_system = refl

-- ---- they begin a spelling and end inside it

no_bytes : decoded PROFILE [] 0x1000 ≡ decodeds.Short
no_bytes = refl

escape : decoded PROFILE (0x0f ∷ []) 0x1000 ≡ decodeds.Short
escape = refl

f3 : decoded PROFILE (0xf3 ∷ []) 0x1000 ≡ decodeds.Short
f3 = refl

f3_escape : decoded PROFILE (0xf3 ∷ 0x0f ∷ []) 0x1000 ≡ decodeds.Short
f3_escape = refl

endbr64_cut : decoded PROFILE (0xf3 ∷ 0x0f ∷ 0x1e ∷ []) 0x1000 ≡ decodeds.Short
endbr64_cut = refl

twelve_66 : decoded PROFILE (0x66 ∷ 0x66 ∷ 0x66 ∷ 0x66 ∷ 0x66 ∷ 0x66 ∷ 0x66 ∷ 0x66 ∷ 0x66 ∷ 0x66 ∷ 0x66 ∷ 0x66 ∷ []) 0x1000 ≡ decodeds.Short
twelve_66 = refl

prefix_67 : decoded PROFILE (0x67 ∷ []) 0x1000 ≡ decodeds.Short
prefix_67 = refl

call_cut : decoded PROFILE (0x67 ∷ 0xe8 ∷ 0x00 ∷ 0x00 ∷ 0x00 ∷ []) 0x1000 ≡ decodeds.Short
call_cut = refl

f3_rex : decoded PROFILE (0xf3 ∷ 0x41 ∷ []) 0x1000 ≡ decodeds.Short
f3_rex = refl

extension_cut : decoded PROFILE (0x48 ∷ 0x63 ∷ []) 0x1000 ≡ decodeds.Short
extension_cut = refl

rex_w : decoded PROFILE (0x48 ∷ []) 0x1000 ≡ decodeds.Short
rex_w = refl

rex : decoded PROFILE (0x40 ∷ []) 0x1000 ≡ decodeds.Short
rex = refl

prefix_66 : decoded PROFILE (0x66 ∷ []) 0x1000 ≡ decodeds.Short
prefix_66 = refl

prefix_66_rex_w : decoded PROFILE (0x66 ∷ 0x48 ∷ []) 0x1000 ≡ decodeds.Short
prefix_66_rex_w = refl

long_move_cut : decoded PROFILE (0x48 ∷ 0xb8 ∷ 0x01 ∷ 0x02 ∷ 0x03 ∷ 0x04 ∷ 0x05 ∷ 0x06 ∷ 0x07 ∷ []) 0x1000 ≡ decodeds.Short
long_move_cut = refl

group_1_cut : decoded PROFILE (0x66 ∷ 0x81 ∷ []) 0x1000 ≡ decodeds.Short
group_1_cut = refl

group_1_immediate_cut : decoded PROFILE (0x66 ∷ 0x81 ∷ 0xc0 ∷ 0x01 ∷ []) 0x1000 ≡ decodeds.Short
group_1_immediate_cut = refl

group_1_long_immediate_cut : decoded PROFILE (0x81 ∷ 0xc0 ∷ 0x01 ∷ 0x02 ∷ 0x03 ∷ []) 0x1000 ≡ decodeds.Short
group_1_long_immediate_cut = refl

displacement_cut : decoded PROFILE (0x0f ∷ 0x1f ∷ 0x80 ∷ 0x00 ∷ 0x00 ∷ []) 0x1000 ≡ decodeds.Short
displacement_cut = refl

sib_cut : decoded PROFILE (0x0f ∷ 0x1f ∷ 0x04 ∷ []) 0x1000 ≡ decodeds.Short
sib_cut = refl

sib_cut_with_room : decoded PROFILE (0x66 ∷ 0x66 ∷ 0x66 ∷ 0x66 ∷ 0x66 ∷ 0x66 ∷ 0x66 ∷ 0x0f ∷ 0x1f ∷ 0x84 ∷ []) 0x1000 ≡ decodeds.Short
sib_cut_with_room = refl

nop_cut_with_room : decoded PROFILE (0x66 ∷ 0x66 ∷ 0x66 ∷ 0x66 ∷ 0x66 ∷ 0x66 ∷ 0x66 ∷ 0x66 ∷ 0x0f ∷ 0x1f ∷ []) 0x1000 ≡ decodeds.Short
nop_cut_with_room = refl

twelve_66_escape : decoded PROFILE (0x66 ∷ 0x66 ∷ 0x66 ∷ 0x66 ∷ 0x66 ∷ 0x66 ∷ 0x66 ∷ 0x66 ∷ 0x66 ∷ 0x66 ∷ 0x66 ∷ 0x66 ∷ 0x0f ∷ []) 0x1000 ≡ decodeds.Short
twelve_66_escape = refl

twelve_66_nop : decoded PROFILE (0x66 ∷ 0x66 ∷ 0x66 ∷ 0x66 ∷ 0x66 ∷ 0x66 ∷ 0x66 ∷ 0x66 ∷ 0x66 ∷ 0x66 ∷ 0x66 ∷ 0x66 ∷ 0x0f ∷ 0x1f ∷ []) 0x1000 ≡ decodeds.Short
twelve_66_nop = refl

eleven_66_rex_escape : decoded PROFILE (0x66 ∷ 0x66 ∷ 0x66 ∷ 0x66 ∷ 0x66 ∷ 0x66 ∷ 0x66 ∷ 0x66 ∷ 0x66 ∷ 0x66 ∷ 0x66 ∷ 0x40 ∷ 0x0f ∷ []) 0x1000 ≡ decodeds.Short
eleven_66_rex_escape = refl

prefixes_66_f3 : decoded PROFILE (0x66 ∷ 0xf3 ∷ []) 0x1000 ≡ decodeds.Short
prefixes_66_f3 = refl

byte_group_1 : decoded PROFILE (0x80 ∷ []) 0x1000 ≡ decodeds.Short
byte_group_1 = refl

byte_group_1_memory : decoded PROFILE (0x80 ∷ 0x00 ∷ []) 0x1000 ≡ decodeds.Short
byte_group_1_memory = refl

-- ---- unknown: a prefix that the row doesn't take, twice, behind REX, or beside one that no row takes
-- with it; one that is missing; a digit or a ModRM byte that no row has; no room within 15 bytes

lock : decoded PROFILE (0xf0 ∷ []) 0x1000 ≡ decodeds.Unknown
lock = refl

lock_90 : decoded PROFILE (0xf0 ∷ 0x90 ∷ []) 0x1000 ≡ decodeds.Unknown
lock_90 = refl

segment_override_twice : decoded PROFILE (0x2e ∷ 0x2e ∷ []) 0x1000 ≡ decodeds.Unknown
segment_override_twice = refl

segment_override_twice_90 : decoded PROFILE (0x2e ∷ 0x2e ∷ 0x90 ∷ []) 0x1000 ≡ decodeds.Unknown
segment_override_twice_90 = refl

other_override_twice : decoded PROFILE (0x3e ∷ 0x3e ∷ []) 0x1000 ≡ decodeds.Unknown
other_override_twice = refl

rex_twice : decoded PROFILE (0x40 ∷ 0x40 ∷ []) 0x1000 ≡ decodeds.Unknown
rex_twice = refl

rex_twice_90 : decoded PROFILE (0x40 ∷ 0x40 ∷ 0x90 ∷ []) 0x1000 ≡ decodeds.Unknown
rex_twice_90 = refl

rex_before_66 : decoded PROFILE (0x48 ∷ 0x66 ∷ 0x90 ∷ []) 0x1000 ≡ decodeds.Unknown
rex_before_66 = refl

nop_with_67 : decoded PROFILE (0x67 ∷ 0x90 ∷ []) 0x1000 ≡ decodeds.Unknown
nop_with_67 = refl

nop_with_2e_67 : decoded PROFILE (0x2e ∷ 0x67 ∷ 0x90 ∷ []) 0x1000 ≡ decodeds.Unknown
nop_with_2e_67 = refl

move_with_67 : decoded PROFILE (0x67 ∷ 0x89 ∷ 0xe5 ∷ []) 0x1000 ≡ decodeds.Unknown
move_with_67 = refl

escape_with_67 : decoded PROFILE (0x67 ∷ 0x0f ∷ []) 0x1000 ≡ decodeds.Unknown
escape_with_67 = refl

escape_with_2e_67 : decoded PROFILE (0x2e ∷ 0x67 ∷ 0x0f ∷ []) 0x1000 ≡ decodeds.Unknown
escape_with_2e_67 = refl

move_with_rex_67 : decoded PROFILE (0x67 ∷ 0x2e ∷ 0x43 ∷ 0x0f ∷ []) 0x1000 ≡ decodeds.Unknown
move_with_rex_67 = refl

prefixes_66_67 : decoded PROFILE (0x66 ∷ 0x67 ∷ []) 0x1000 ≡ decodeds.Unknown
prefixes_66_67 = refl

prefixes_67_f3 : decoded PROFILE (0x67 ∷ 0xf3 ∷ []) 0x1000 ≡ decodeds.Unknown
prefixes_67_f3 = refl

push_with_66 : decoded PROFILE (0x66 ∷ 0x50 ∷ []) 0x1000 ≡ decodeds.Unknown
push_with_66 = refl

return_with_66 : decoded PROFILE (0x66 ∷ 0xc3 ∷ []) 0x1000 ≡ decodeds.Unknown
return_with_66 = refl

byte_move_with_66 : decoded PROFILE (0x66 ∷ 0x88 ∷ []) 0x1000 ≡ decodeds.Unknown
byte_move_with_66 = refl

swap_with_66 : decoded PROFILE (0x66 ∷ 0x0f ∷ 0xc8 ∷ []) 0x1000 ≡ decodeds.Unknown
swap_with_66 = refl

double_shift_with_66 : decoded PROFILE (0x66 ∷ 0x0f ∷ 0xa4 ∷ []) 0x1000 ≡ decodeds.Unknown
double_shift_with_66 = refl

word_extension_with_66 : decoded PROFILE (0x66 ∷ 0x0f ∷ 0xb7 ∷ []) 0x1000 ≡ decodeds.Unknown
word_extension_with_66 = refl

double_extension_with_66 : decoded PROFILE (0x66 ∷ 0x63 ∷ []) 0x1000 ≡ decodeds.Unknown
double_extension_with_66 = refl

quad_move_with_66 : decoded PROFILE (0x66 ∷ 0x48 ∷ 0xb8 ∷ []) 0x1000 ≡ decodeds.Unknown
quad_move_with_66 = refl

pause_with_66 : decoded PROFILE (0x66 ∷ 0xf3 ∷ 0x90 ∷ []) 0x1000 ≡ decodeds.Unknown
pause_with_66 = refl

double_extension_without_rex_w : decoded PROFILE (0x63 ∷ []) 0x1000 ≡ decodeds.Unknown
double_extension_without_rex_w = refl

double_extension_with_rex_b : decoded PROFILE (0x41 ∷ 0x63 ∷ []) 0x1000 ≡ decodeds.Unknown
double_extension_with_rex_b = refl

exchange_with_f3 : decoded PROFILE (0xf3 ∷ 0x41 ∷ 0x90 ∷ []) 0x1000 ≡ decodeds.Unknown
exchange_with_f3 = refl

endbr64_without_f3 : decoded PROFILE (0x0f ∷ 0x1e ∷ []) 0x1000 ≡ decodeds.Unknown
endbr64_without_f3 = refl

endbr64_of_another_byte : decoded PROFILE (0xf3 ∷ 0x0f ∷ 0x1e ∷ 0x00 ∷ []) 0x1000 ≡ decodeds.Unknown
endbr64_of_another_byte = refl

long_nop_digit_1 : decoded PROFILE (0x0f ∷ 0x1f ∷ 0x08 ∷ []) 0x1000 ≡ decodeds.Unknown
long_nop_digit_1 = refl

group_2_digit_6 : decoded PROFILE (0xd0 ∷ 0x30 ∷ []) 0x1000 ≡ decodeds.Unknown
group_2_digit_6 = refl

group_3_digit_1 : decoded PROFILE (0xf6 ∷ 0x08 ∷ []) 0x1000 ≡ decodeds.Unknown
group_3_digit_1 = refl

bit_test_of_memory : decoded PROFILE (0x0f ∷ 0xa3 ∷ 0x00 ∷ []) 0x1000 ≡ decodeds.Unknown
bit_test_of_memory = refl

eight_66_sib : decoded PROFILE (0x66 ∷ 0x66 ∷ 0x66 ∷ 0x66 ∷ 0x66 ∷ 0x66 ∷ 0x66 ∷ 0x66 ∷ 0x0f ∷ 0x1f ∷ 0x84 ∷ []) 0x1000 ≡ decodeds.Unknown
eight_66_sib = refl

thirteen_66 : decoded PROFILE (0x66 ∷ 0x66 ∷ 0x66 ∷ 0x66 ∷ 0x66 ∷ 0x66 ∷ 0x66 ∷ 0x66 ∷ 0x66 ∷ 0x66 ∷ 0x66 ∷ 0x66 ∷ 0x66 ∷ []) 0x1000 ≡ decodeds.Unknown
thirteen_66 = refl

fifteen_66 : decoded PROFILE (0x66 ∷ 0x66 ∷ 0x66 ∷ 0x66 ∷ 0x66 ∷ 0x66 ∷ 0x66 ∷ 0x66 ∷ 0x66 ∷ 0x66 ∷ 0x66 ∷ 0x66 ∷ 0x66 ∷ 0x66 ∷ 0x66 ∷ []) 0x1000 ≡ decodeds.Unknown
fifteen_66 = refl

twelve_66_rex : decoded PROFILE (0x66 ∷ 0x66 ∷ 0x66 ∷ 0x66 ∷ 0x66 ∷ 0x66 ∷ 0x66 ∷ 0x66 ∷ 0x66 ∷ 0x66 ∷ 0x66 ∷ 0x66 ∷ 0x40 ∷ []) 0x1000 ≡ decodeds.Unknown
twelve_66_rex = refl
