-- Words in memory.
use Rattle.std.specs.Prelude.{ℕ, Bool, Option}
use Rattle.byteorder.specs.Endian.{little_number, little_bytes}
use Rattle.rz_num.specs.declared.width.Width.{Width}
use Rattle.rz_num.specs.declared.width.Width.TheVariants.{W8, W16, W32, W64}
use Rattle.rz_image.specs.Memory.{Cell, Regions, bytes_at, put_bytes, refused}

-- how many bytes a word has
abbrev pub byte_count : Width → ℕ
byte_count W8 = 1
byte_count W16 = 2
byte_count W32 = 4
byte_count W64 = 8

-- the word at an address, the low byte first
abbrev pub word_at : Regions → ℕ → Width → ℕ
word_at m at w = little_number (byte_count w) (bytes_at m at (byte_count w))

-- memory with a word written at an address, the low byte first
abbrev pub put_word : Regions → ℕ → Width → ℕ → Regions
put_word m at w value = put_bytes m at (little_bytes (byte_count w) value)

-- the first address of a word whose cell fails a test
abbrev pub refused_word : (Cell → Bool) → Regions → ℕ → Width → Option ℕ
refused_word test m at w = refused test m at (byte_count w)
