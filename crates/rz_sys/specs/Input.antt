-- Inputs: which ones a run may be given.
use Rattle.std.specs.Prelude.{ℕ, ◌<◌, ◌≤◌, List, [], ◌∷◌, ◌++◌, length, flat_map}
use Rattle.std.specs.List.{AllByRecursion}
use Rattle.rz_sys.specs.declared.input.Input.{Input}
use Rattle.rz_sys.specs.declared.input.Reply.{Reply}
use Rattle.rz_sys.specs.declared.input.Reply.TheVariants.{Full, AtMost, Error}

-- the argument strings, each with its zero byte
abbrev pub strings : List (List ℕ) → List ℕ
strings args = flat_map (λ arg. arg ++ 0 ∷ []) args

abbrev pub IsValidReply : Reply → Type 0
IsValidReply Full = Unit {0}
IsValidReply (AtMost k) = 0 < k
IsValidReply (Error e) = (0 < e) × (e ≤ 4095)

-- the inputs that a run may be given
pub record IsValid (input : Input) : Type 0 where
  pub no_zeros : AllByRecursion (λ arg. AllByRecursion (λ b. (0 < b) × (b < 256)) arg) input.args
  pub few : length (strings input.args) ≤ 65536
  pub replies : AllByRecursion IsValidReply input.replies
  pub stdin : AllByRecursion (λ b. b < 256) input.stdin

-- no arguments, no standard input and no replies
abbrev pub empty_input : Input
empty_input = record { args = []; stdin = []; replies = [] }
