-- The flags as a word (Intel SDM, volume 1, section 3.4.3, "EFLAGS Register").
use Rattle.std.specs.Prelude.{ℕ, ◌+◌, ◌/◌, ◌%◌, ◌^◌, Bool, true, false, ◌||◌, ◌==◌, if◌then◌else◌, Option, Some, None}
use Rattle.rz_flags.specs.declared.Flags.{Flags}

abbrev pub bit_of : Bool → ℕ → ℕ
bit_of true n = n
bit_of false n = 0

-- each flag at its place; bit 1 is always set, and interrupts are on
abbrev pub flags_word : Flags → ℕ
flags_word f =
    0x202 + bit_of f.cf 1 + bit_of f.pf 4 + bit_of f.af 16 + bit_of f.zf 64 + bit_of f.sf 128 + bit_of f.df 1024 + bit_of f.of 2048

-- whether the bit at a place of a word is set
abbrev pub is_set : ℕ → ℕ → Bool
is_set word place = word / 2 ^ place % 2 == 1

-- TF, NT, AC or ID is set, at their places 8, 14, 18 and 21
abbrev pub sets_other : ℕ → Bool
sets_other word = is_set word 8 || is_set word 14 || is_set word 18 || is_set word 21

-- the flags of a word, each from its place; none where a flag is set that these seven don't have
abbrev pub flags_in : ℕ → Option Flags
flags_in word =
    if sets_other word then None
    else Some (record {
      cf = is_set word 0;
      pf = is_set word 2;
      af = is_set word 4;
      zf = is_set word 6;
      sf = is_set word 7;
      df = is_set word 10;
      of = is_set word 11;
    })
