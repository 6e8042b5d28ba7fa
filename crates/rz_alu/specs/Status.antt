-- The flags after an operation (Intel SDM, volume 1, section 3.4.3.1, "Status Flags").
use Rattle.std.specs.Prelude.{ℕ, ◌%◌, Bool, nat_le, ◌==◌, count_ones}
use Rattle.rz_num.specs.declared.width.Width.{Width}
use Rattle.rz_num.specs.Width.{half}
use Rattle.rz_flags.specs.declared.Flags.{Flags}

-- whether the top bit of a number of the width is set
abbrev pub top_bit : Width → ℕ → Bool
top_bit w a = nat_le (half w) a

-- of a result: SF is its top bit, ZF is set where it is 0, PF where its low byte has an even number of ones; DF stays
abbrev pub flags_of : Width → ℕ → Bool → Bool → Bool → Flags → Flags
flags_of w result carry overflow low_carry old =
    record {
      cf = carry;
      pf = count_ones (result % 256) % 2 == 0;
      af = low_carry;
      zf = result == 0;
      sf = top_bit w result;
      df = old.df;
      of = overflow;
    }

-- CF and OF set or cleared, the others left
abbrev pub with_carry_overflow : Bool → Bool → Flags → Flags
with_carry_overflow carry overflow old = record old { cf = carry; of = overflow }
