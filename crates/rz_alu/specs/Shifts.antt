-- Rotates and shifts at a width
-- (Intel SDM, volume 2, "RCL/RCR/ROL/ROR", "SAL/SAR/SHL/SHR", "SHLD", "SHRD").
use Rattle.std.specs.Prelude.{ℕ, ◌+◌, ◌-◌, ◌*◌, ◌/◌, ◌%◌, ◌^◌, Bool, true, false, ◌==◌, if◌then◌else◌}
use Rattle.rz_num.specs.declared.width.Width.{Width}
use Rattle.rz_num.specs.declared.width.Width.TheVariants.{W8, W16, W32, W64}
use Rattle.rz_num.specs.Width.{size, bits, low_bits}
use Rattle.rz_num.specs.Products.{pair}
use Rattle.rz_num.specs.Signs.{differ}
use Rattle.rz_num.specs.Carry.{bit}
use Rattle.rz_flags.specs.declared.Flags.{Flags}
use Rattle.rz_flags.specs.declared.ShiftOp.{ShiftOp}
use Rattle.rz_flags.specs.declared.ShiftOp.TheVariants.{Rol, Ror, Shl, Shr, Sar, Rcl, Rcr}
use Rattle.rz_flags.specs.Word.{is_set}
use Rattle.rz_alu.specs.Answer.{Answer}
use Rattle.rz_alu.specs.Status.{flags_of, with_carry_overflow, top_bit}

-- a count's low five bits, or low six at width 64
abbrev pub used_count : Width → ℕ → ℕ
used_count W8 count = count % 32
used_count W16 count = count % 32
used_count W32 count = count % 32
used_count W64 count = count % 64

-- The flags below are razor's own where the SDM leaves them open: OF after counts other than 1, CF of counts beyond the
-- width, and AF.

-- what a shift by a count of 0 leaves as it is, and by another one changes
abbrev pub unless_zero : ℕ → ℕ → Flags → Answer → Answer
unless_zero n a old x = if n == 0 then record { value = a; flags = old } else x

-- ---- rotates

-- a number whose lowest bits, so many, are put above its other bits
abbrev pub rotation : ℕ → ℕ → ℕ → ℕ
rotation lowest others a = (a % 2 ^ lowest) * 2 ^ others + a / 2 ^ lowest

-- CF is the bit that came in at the bottom
abbrev pub left_rotation : Width → ℕ → ℕ → Flags → Answer
left_rotation w a n old =
    let r = rotation (bits w - n % bits w) (n % bits w) a in
    let carry = is_set r 0 in
    record { value = r; flags = with_carry_overflow carry (differ (top_bit w r) carry) old }

-- CF is the bit that came in at the top
abbrev pub right_rotation : Width → ℕ → ℕ → Flags → Answer
right_rotation w a n old =
    let r = rotation (n % bits w) (bits w - n % bits w) a in
    record { value = r; flags = with_carry_overflow (top_bit w r) (differ (top_bit w r) (is_set r (bits w - 2))) old }

-- ---- rotates of CF and a number: CF stands above its top bit, and the count is taken modulo their bits. By 0 they leave
-- all flags, which is razor's own, as OF is by other counts than 1

abbrev pub with_carry : Width → ℕ → Bool → ℕ
with_carry w a carry = bit carry * size w + a

-- what stands there after it: the number, and CF
abbrev pub carry_rotated : Width → ℕ → Bool → Flags → Answer
carry_rotated w r overflow old = record { value = r % size w; flags = with_carry_overflow (is_set r (bits w)) overflow old }

abbrev pub left_carry_rotation : Width → ℕ → ℕ → Flags → Answer
left_carry_rotation w a n old =
    let k = n % (bits w + 1) in
    let r = rotation (bits w + 1 - k) k (with_carry w a old.cf) in
    unless_zero k a old (carry_rotated w r (differ (is_set r (bits w - 1)) (is_set r (bits w))) old)

abbrev pub right_carry_rotation : Width → ℕ → ℕ → Flags → Answer
right_carry_rotation w a n old =
    let k = n % (bits w + 1) in
    let r = rotation k (bits w + 1 - k) (with_carry w a old.cf) in
    unless_zero k a old (carry_rotated w r (differ (is_set r (bits w - 1)) (is_set r (bits w - 2))) old)

-- ---- shifts

-- CF is the last bit that went out at the top
abbrev pub left_shift : Width → ℕ → ℕ → Flags → Answer
left_shift w a n old =
    let r = a * 2 ^ n % size w in
    let carry = is_set (a * 2 ^ n) (bits w) in
    record { value = r; flags = flags_of w r carry (differ (top_bit w r) carry) false old }

-- zeros come in at the top, and CF is the last bit that went out at the bottom
abbrev pub right_shift : Width → ℕ → ℕ → Flags → Answer
right_shift w a n old =
    let r = a / 2 ^ n in
    record { value = r; flags = flags_of w r (is_set a (n - 1)) (top_bit w a) false old }

-- a number with so many copies of its top bit above it
abbrev pub sign_above : Width → ℕ → ℕ → ℕ
sign_above w n a = if top_bit w a then (2 ^ n - 1) * size w + a else a

-- copies of the top bit come in at the top, and CF is the last bit that went out at the bottom
abbrev pub signed_shift : Width → ℕ → ℕ → Flags → Answer
signed_shift w a n old =
    let r = sign_above w n a / 2 ^ n in
    record { value = r; flags = flags_of w r (is_set (sign_above w n a) (n - 1)) false false old }

abbrev pub shift_by : ShiftOp → Width → ℕ → ℕ → Flags → Answer
shift_by Rol w a n old = left_rotation w a n old
shift_by Ror w a n old = right_rotation w a n old
shift_by Shl w a n old = left_shift w a n old
shift_by Shr w a n old = right_shift w a n old
shift_by Sar w a n old = signed_shift w a n old
shift_by Rcl w a n old = left_carry_rotation w a n old
shift_by Rcr w a n old = right_carry_rotation w a n old

-- of any operand and count: they are cut to the width and masked
abbrev pub shift : ShiftOp → Width → ℕ → ℕ → Flags → Answer
shift op w a count old =
    let n = used_count w count in
    unless_zero n (low_bits w a) old (shift_by op w (low_bits w a) n old)

-- ---- double shifts

-- the bits of a number of two widths from a place on
abbrev pub bits_from : Width → ℕ → ℕ → ℕ
bits_from w place n = n / 2 ^ place % size w

-- the flags after a shift of a to r: OF is set where the top bit changed
abbrev pub double_flags : Width → ℕ → ℕ → Bool → Flags → Flags
double_flags w a r carry old = flags_of w r carry (differ (top_bit w a) (top_bit w r)) false old

-- to the left, the top bits of b come in at the bottom of a; to the right, the low bits of b come in at its top
abbrev pub double_shift_by : Bool → Width → ℕ → ℕ → ℕ → Flags → Answer
double_shift_by true w a b n old =
    let r = bits_from w (bits w - n) (pair w a b) in
    record { value = r; flags = double_flags w a r (is_set a (bits w - n)) old }
double_shift_by false w a b n old =
    let r = bits_from w n (pair w b a) in
    record { value = r; flags = double_flags w a r (is_set a (n - 1)) old }

-- of any operands and count: they are cut to the width, and the count is masked and taken modulo the width, which at
-- widths 8 and 16 is razor's own
abbrev pub double_shift : Bool → Width → ℕ → ℕ → ℕ → Flags → Answer
double_shift left w a b count old =
    let n = used_count w count % bits w in
    unless_zero n (low_bits w a) old (double_shift_by left w (low_bits w a) (low_bits w b) n old)
