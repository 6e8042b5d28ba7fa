-- What the headline asks of an original's loads: none both written and executed, all at low addresses, all of bytes.
use Rattle.std.specs.Prelude.{◌≡◌, ◌+◌, ◌<◌, ◌≤◌, true, false, length}
use Rattle.std.specs.List.{AllByRecursion}
use Rattle.rz_image.specs.declared.region.Region.{Region}
use Rattle.rz_image.specs.Perm.{writes, executes}
use Rattle.rz_elf.specs.Elf.{Image}

pub record IsPlainRegion (r : Region) : Type 0 where
  pub fixed : writes r.perm ≡ true → executes r.perm ≡ false
  pub low : r.base + length r.bytes ≤ 0x70000000
  pub bytes : AllByRecursion (λ b. b < 256) r.bytes

abbrev pub IsPlainImage : Image → Type 0
IsPlainImage x = AllByRecursion IsPlainRegion x.loads
