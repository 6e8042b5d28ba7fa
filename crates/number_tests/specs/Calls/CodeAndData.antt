-- The memory of the worked accesses.
use Rattle.std.specs.Prelude.{[], ◌∷◌}
use Rattle.rz_image.specs.Memory.{Regions}
use Rattle.rz_image.specs.Perm.{read_execute, read_write}

-- four bytes of code at 0x1000, and behind them four of which two are open, to read and to write
abbrev pub code_and_data : Regions
code_and_data =
    record { base = 0x1000; bytes = 1 ∷ 2 ∷ 3 ∷ 4 ∷ []; opened = 4; perm = read_execute }
    ∷ record { base = 0x1004; bytes = 5 ∷ 6 ∷ 0 ∷ 0 ∷ []; opened = 2; perm = read_write }
    ∷ []
