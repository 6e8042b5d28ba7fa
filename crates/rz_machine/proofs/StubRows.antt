-- Worked rows: the words of the stubs of 0x401000 and 0x401005, one after the other at 0x3ff000.
use Rattle.std.proofs.Common.{◌≡◌, ℕ, [], ◌∷◌, take, Some, None, refl}
use Rattle.rz_image.specs.declared.region.Region.{Region}
use Rattle.rz_image.specs.Perm.{read_execute}
use Rattle.rz_elf.specs.Format.{all_stubs}
use Rattle.rz_machine.specs.Stub.{stub_in}

-- the first bytes of the two stubs, as many as are said
abbrev stubs : ℕ → Region
stubs n = record { base = 0x3ff000; bytes = take n (all_stubs 0x3ff000 (0x401000 ∷ 0x401005 ∷ [])); opened = n; perm = read_execute }

first : stub_in 0x3ff000 (stubs 48) ≡ Some 0x401000
first = refl

second : stub_in 0x3ff018 (stubs 48) ≡ Some 0x401005
second = refl

between : stub_in 0x3ff00c (stubs 48) ≡ None
between = refl

before : stub_in 0x3fefe8 (stubs 48) ≡ None
before = refl

past : stub_in 0x3ff030 (stubs 48) ≡ None
past = refl

-- a word that the region has to its last byte, and one that leaves it
whole : stub_in 0x3ff018 (stubs 40) ≡ Some 0x401005
whole = refl

cut : stub_in 0x3ff018 (stubs 39) ≡ None
cut = refl
