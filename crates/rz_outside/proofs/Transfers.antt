-- Known bytes through several reads or writes.
use Rattle.std.proofs.Common.{ℕ, List, ◌++◌, Option, Some, None, append_assoc, ap, ◌∙◌}
use Rattle.std.specs.Io.KnownBytes.{Appends}

-- what is appended twice is appended together
pub appends_twice : (old mid new : Option (List ℕ)) (first second : List ℕ) → Appends old mid first → Appends mid new second → Appends old new (first ++ second)
appends_twice None mid new first second one two = tt
appends_twice (Some xs) (Some ys) (Some zs) first second one two = two ∙ ap (λ l. l ++ second) one ∙ append_assoc xs first second
appends_twice (Some xs) None new first second one two = absurd one
appends_twice (Some xs) (Some ys) None first second one two = absurd two
