use Rattle.std.specs.Prelude.{ℕ, ◌≡◌, ◌+◌, Bool, true, false, List, ◌++◌, length, take, drop, Option, Some, None}

-- the bytes stand in the buffer from a on up to b, and what stands before and behind is unchanged
pub record Wrote (old : List ℕ) (a : ℕ) (new : List ℕ) (b : ℕ) (bytes : List ℕ) : Type 0 where
  pub front : take b new ≡ take a old ++ bytes
  pub behind : drop b new ≡ drop b old
  pub last : b ≡ a + length bytes

abbrev pub byte_given : Bool → ℕ → Option ℕ
byte_given true byte = Some byte
byte_given false byte = None
