use Rattle.std.proofs.Common.{◌≡◌, ◌∙◌, ℕ, ◌+◌, ◌-◌, ◌^◌, ◌%◌, ap, arith, bit_and}
use lib.Bits.{and_mask}
use Rattle.rz_num.specs.declared.width.Width.{Width}
use Rattle.rz_num.specs.declared.width.Width.TheVariants.{W8, W16, W32, W64}
use Rattle.rz_num.specs.Width.{low_bits, size}
use Rattle.rz_num.proofs.width.mask.Goals as goal

-- and with the greatest number of a width
low : (w : Width) (x g : ℕ) → g + 1 ≡ size w → bit_and x g ≡ low_bits w x
low W8 x g e = let is : g ≡ 2 ^ 8 - 1 = omega (arith, e) in ap (bit_and x) is ∙ and_mask x 8
low W16 x g e = let is : g ≡ 2 ^ 16 - 1 = omega (arith, e) in ap (bit_and x) is ∙ and_mask x 16
low W32 x g e = let is : g ≡ 2 ^ 32 - 1 = omega (arith, e) in ap (bit_and x) is ∙ and_mask x 32
low W64 x g e = let is : g ≡ 2 ^ 64 - 1 = omega (arith, e) in ap (bit_and x) is ∙ and_mask x 64

pub returns : goal.returns
returns c = low c.args.width c.args.x c.greatest.result c.greatest.ensures
