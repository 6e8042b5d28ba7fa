-- What an operation on numbers gives.
use Rattle.std.specs.Prelude.{ℕ}
use Rattle.rz_flags.specs.declared.Flags.{Flags}

-- a value and the flags after it
pub record Answer : Type 0 where
  pub value : ℕ
  pub flags : Flags
