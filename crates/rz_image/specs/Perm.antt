-- Permissions: the bits PF_X, PF_W and PF_R of `p_flags` (System V gABI, chapter 5, "Segment Permissions").
use Rattle.std.specs.Prelude.{ℕ, ◌/◌, ◌%◌, Bool, ◌==◌}
use Rattle.rz_image.specs.declared.perm.Perm.{Perm}

-- whether flags have the bit of this worth
abbrev pub has_flag : ℕ → ℕ → Bool
has_flag flags bit = flags / bit % 2 == 1

abbrev pub executes : Perm → Bool
executes p = has_flag p.0 1

abbrev pub writes : Perm → Bool
writes p = has_flag p.0 2

abbrev pub reads : Perm → Bool
reads p = has_flag p.0 4

-- the permissions that flags give
abbrev pub perm_of : ℕ → Perm
perm_of flags = record { 0 = flags % 8 }

-- PF_R; PF_R with PF_X; PF_R with PF_W
abbrev pub read_only : Perm
read_only = perm_of 4

abbrev pub read_execute : Perm
read_execute = perm_of 5

abbrev pub read_write : Perm
read_write = perm_of 6
