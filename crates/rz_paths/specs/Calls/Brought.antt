-- The bodies that are brought in, and how they are searched.
use Rattle.std.specs.Prelude.{◌≡◌, ℕ, Bool, true, List}
use Rattle.std.specs.List.{list_any}
use Rattle.rz_classes.specs.declared.listed.Function.{Function}
use Rattle.rz_paths.specs.Sets.{In}
use Rattle.rz_paths.specs.Program.{Program}
use Rattle.rz_paths.specs.Bodies.{InBody, calls}

-- a passing call among some addresses calls f
abbrev pub called_among : Program → (ℕ → Bool) → List ℕ → List ℕ → ℕ → Bool
called_among program passing recorded list f = list_any (λ c. calls program passing recorded c f) list

-- an address is in the body of a function that a call at a node of some calls, or one in such a body
pub data InBrought (program : Program) (passing : ℕ → Bool) (functions : List Function) (recorded walks : List ℕ) : ℕ → Type 0 where
  first : (c f : ℕ) → {a : ℕ} → In walks c → calls program passing recorded c f ≡ true → InBody program passing functions f a → InBrought program passing functions recorded walks a
  more : (c f : ℕ) → {a : ℕ} → InBrought program passing functions recorded walks c → calls program passing recorded c f ≡ true → InBody program passing functions f a → InBrought program passing functions recorded walks a
