use Rattle.std.specs.Prelude.{◌≡◌, [], ◌∷◌, Some, None, refl}
use Rattle.rz_num.specs.declared.width.Width.TheVariants.{W64}
use Rattle.rz_flags.specs.declared.Cond.TheVariants as conds
use Rattle.rz_isa.specs.declared.rows.Form.TheVariants as forms
use Rattle.rz_isa.specs.declared.instruction.Insn.TheVariants as insns
use Rattle.rz_isa.specs.declared.instruction.Place.TheVariants as places
use Rattle.rz_isa.specs.Canonical.{canonical}
use Rattle.rz_table.specs.declared.profile_rows.TheConstants.{PROFILE}

-- What is named by its address has a canonical spelling where it is in reach of the displacement
-- from behind the spelling, read as a signed number; evaluated at the edges.

-- ---- relative to RIP: a lea of seven bytes at 0x1000

last_above : canonical PROFILE (insns.Lea W64 0 (places.At 0x80001006)) 0x1000 forms.Near ≡ Some (0x48 ∷ 0x8d ∷ 0x05 ∷ 0xff ∷ 0xff ∷ 0xff ∷ 0x7f ∷ [])
last_above = refl

past_above : canonical PROFILE (insns.Lea W64 0 (places.At 0x80001007)) 0x1000 forms.Near ≡ None
past_above = refl

last_below : canonical PROFILE (insns.Lea W64 0 (places.At 0xffffffff80001007)) 0x1000 forms.Near ≡ Some (0x48 ∷ 0x8d ∷ 0x05 ∷ 0x00 ∷ 0x00 ∷ 0x00 ∷ 0x80 ∷ [])
last_below = refl

past_below : canonical PROFILE (insns.Lea W64 0 (places.At 0xffffffff80001006)) 0x1000 forms.Near ≡ None
past_below = refl

-- ---- a short conditional jump of two bytes at 0x1000, and the near one

last_ahead : canonical PROFILE (insns.Jcc conds.E 0x1081) 0x1000 forms.Short ≡ Some (0x74 ∷ 0x7f ∷ [])
last_ahead = refl

past_ahead : canonical PROFILE (insns.Jcc conds.E 0x1082) 0x1000 forms.Short ≡ None
past_ahead = refl

last_back : canonical PROFILE (insns.Jcc conds.E 0xf82) 0x1000 forms.Short ≡ Some (0x74 ∷ 0x80 ∷ [])
last_back = refl

past_back : canonical PROFILE (insns.Jcc conds.E 0xf81) 0x1000 forms.Short ≡ None
past_back = refl

near_ahead : canonical PROFILE (insns.Jcc conds.E 0x1082) 0x1000 forms.Near ≡ Some (0x0f ∷ 0x84 ∷ 0x7c ∷ 0x00 ∷ 0x00 ∷ 0x00 ∷ [])
near_ahead = refl
