-- What a command is.
use Rattle.std.specs.Prelude.{◌≡◌, ℕ, List, [], ◌∷◌, length}
use Rattle.rz_core.specs.declared.status.Status.{Status}
use Rattle.rz_core.specs.declared.status.Status.TheVariants as status
use Rattle.rz_core.specs.declared.outcome.Outcome.{Outcome}
use Rattle.rz_core.specs.declared.plan.Wanted.{Wanted}
use Rattle.rz_core.specs.Statuses.{Done, kind_of}
use Rattle.rz_core.specs.Reading.{Read}

-- what is done with what was read, whatever the files are called
pub record Work : Type 1 where
  -- how it ends: done, or with a refusal of its own
  pub Ends : Read → Status → Type 0
  -- what it may write, in order
  pub New : Read → List (List ℕ) → Type 0
  -- what its text is where it is done, by what it writes there too
  pub Text : Read → (written : List (List ℕ)) → (text : List ℕ) → Type 0

-- Its order and its causes follow from these alone (`Causes`, `Exact`).
pub record Command : Type 1 where
  -- the files that it reads, in order
  pub reads : List Wanted
  -- the files that it writes, in order
  pub writes : List (List ℕ)
  pub work : Work

-- where this was read, an outcome is one of the work, and writes so many files
pub record IsDoneBy (work : Work) (files : ℕ) (r : Read) (o : Outcome) : Type 0 where
  pub ends : work.Ends r o.status
  pub kind : kind_of o.status ≡ Done
  pub new : work.New r o.writes.items
  pub many : length o.writes.items ≡ files
  pub text_is : work.Text r o.writes.items o.text

abbrev pub IsOutcome : Command → Read → Outcome → Type 0
IsOutcome c r o = IsDoneBy c.work (length c.writes) r o

-- the end of a work that is done whatever was read
abbrev pub EndsWell : Status → Type 0
EndsWell status.Ok = Unit {0}
EndsWell _ = ⊥

-- one file is written, and it is as `P` says
abbrev pub IsOne : (List ℕ → Type 0) → List (List ℕ) → Type 0
IsOne P (w ∷ []) = P w
IsOne P _ = ⊥
