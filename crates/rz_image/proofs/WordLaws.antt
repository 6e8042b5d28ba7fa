-- The bytes of words.
use Rattle.std.proofs.Common.{◌≡◌, ℕ, ◌+◌, ◌-◌, ◌≤◌, List, take, ap, sym, ◌∙◌, arith}
use Rattle.std.proofs.lemmas.List.{take_at}
use Rattle.byteorder.specs.Endian.{little_number}
use Rattle.byteorder.specs.Numbers.{little_from-take}
use Rattle.rz_num.specs.declared.width.Width.{Width}
use Rattle.rz_num.specs.declared.width.Width.TheVariants.{W8, W16, W32, W64}
use Rattle.rz_image.specs.Memory.{Regions, bytes_at}
use Rattle.rz_image.specs.Word.{byte_count}
use Rattle.rz_image.specs.Laws.Run.{bytes_split, length-bytes_at}

-- a word reads no byte past its own
pub number_of_front : (n : ℕ) (bs : List ℕ) → little_number n (take n bs) ≡ little_number n bs
number_of_front n bs = little_from-take 0 n n bs (omega arith)

pub few_bytes : (w : Width) → byte_count w ≤ 8
few_bytes W8 = omega arith
few_bytes W16 = omega arith
few_bytes W32 = omega arith
few_bytes W64 = omega arith

-- the first of eight bytes
pub front_bytes : (m : Regions) (a n : ℕ) → n ≤ 8 → take n (bytes_at m a 8) ≡ bytes_at m a n
front_bytes m a n le = ap (take n) (sym (bytes_split m a n 8 le)) ∙ take_at (bytes_at m a n) (bytes_at m (a + n) (8 - n)) n (length-bytes_at m a n)
