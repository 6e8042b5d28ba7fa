-- Forms as the code holds them, and what each of them has in any case.
use Rattle.std.specs.Prelude.{◌≡◌, ◌≤◌, ℕ, suc, ◌+◌, Bool, true, false, List, [], ◌∷◌, length, Option, Some, None}
use Rattle.rz_core.specs.declared.plan.Demand.{Demand}
use Rattle.rz_core.specs.declared.plan.Demand.TheVariants as demand
use Rattle.rz_core.specs.declared.plan.Wanted.{Wanted}
use Rattle.rz_core.specs.declared.plan.Verb.{Verb}
use Rattle.rz_core.specs.declared.plan.Values.{Values}
use Rattle.rz_core.specs.declared.plan.Plan.{Plan}
use Rattle.rz_core.specs.declared.forms.Place.{Place}
use Rattle.rz_core.specs.declared.forms.Place.TheVariants as place
use Rattle.rz_elf.specs.Loaded.{elf_of}
use Rattle.rz_core.specs.Reading.{Read, nothing, exe_of, AreTaken}
use Rattle.rz_core.specs.Writing.{AreDistinct}
use Rattle.rz_core.specs.Words.{Planned, places_of}
use Rattle.rz_core.specs.Calls.Taking.{CanLabel}

abbrev pub planned : Plan → Planned
planned p = record { verb = p.verb; values = p.values; reads = p.reads.items; writes = p.writes.items }

-- the words are of the form, and say this, or they aren't
abbrev pub IsFilled : Option Planned → Planned → Bool → Type 0
IsFilled told new true = told ≡ Some new
IsFilled told new false = told ≡ None

abbrev pub IsPlanOf : Option Planned → Option Plan → Type 0
IsPlanOf form None = form ≡ None
IsPlanOf form (Some p) = form ≡ Some (planned p)

-- ---- what the places of a form come to

abbrev pub executables_for : Demand → ℕ
executables_for demand.Accepted = 1
executables_for demand.Named = 1
executables_for demand.Unmapped = 1
executables_for _ = 0

-- how many executables are read
abbrev pub executables_in : List Place → ℕ
executables_in [] = 0
executables_in (place.Read d ∷ places) = executables_for d + executables_in places
executables_in (place.Inputs ∷ places) = 0
executables_in (_ ∷ places) = executables_in places

abbrev pub inputs_for : Demand → ℕ
inputs_for demand.Input = 1
inputs_for _ = 0

-- how many inputs at least
abbrev pub inputs_in : List Place → ℕ
inputs_in [] = 0
inputs_in (place.Read d ∷ places) = inputs_for d + inputs_in places
inputs_in (place.Inputs ∷ places) = 1
inputs_in (_ ∷ places) = inputs_in places

-- how many files are written
abbrev pub writes_in : List Place → ℕ
writes_in [] = 0
writes_in (place.Write ∷ places) = suc (writes_in places)
writes_in (place.Inputs ∷ places) = 0
writes_in (_ ∷ places) = writes_in places

-- the greatest number, or 0 where none is said
abbrev pub greatest_in : List Place → ℕ
greatest_in [] = 0
greatest_in (place.Number greatest ∷ places) = greatest + greatest_in places
greatest_in (place.Inputs ∷ places) = 0
greatest_in (_ ∷ places) = greatest_in places

-- the first file is read for what the first place says
abbrev pub BeginsAs : Demand → List Wanted → Type 0
BeginsAs d [] = ⊥
BeginsAs d (w ∷ ws) = w.demand ≡ d

abbrev pub Begins : List Place → List Wanted → Type 0
Begins (place.Read d ∷ places) ws = BeginsAs d ws
Begins _ ws = Unit {0}

-- and is fit for it
abbrev pub IsSuited : Demand → List ℕ → Type 0
IsSuited demand.Unmapped x = CanLabel (elf_of x)
IsSuited _ x = Unit {0}

abbrev pub IsFirstSuited : List Place → List ℕ → Type 0
IsFirstSuited (place.Read d ∷ places) x = IsSuited d x
IsFirstSuited _ x = Unit {0}

-- what was read serves the work of a verb, and so does the number
pub record Serves (v : Verb) (values : Values) (r : Read) : Type 0 where
  pub executables : length r.executables ≡ executables_in (places_of v)
  pub first : IsFirstSuited (places_of v) (exe_of r)
  pub inputs : inputs_in (places_of v) ≤ length r.inputs
  pub some : 1 ≤ greatest_in (places_of v) → 1 ≤ values.number
  pub most : values.number ≤ greatest_in (places_of v)

-- what was read, whatever the files held
abbrev pub IsReadBy : List Wanted → Read → Type 0
IsReadBy ws r = AreTaken (λ name x. Unit {0}) ws nothing r

-- the files that are written are different, and as many as the form says; what is read serves the work
pub record IsSound (p : Planned) : Type 0 where
  pub begins : Begins (places_of p.verb) p.reads
  pub distinct : AreDistinct p.writes
  pub many : length p.writes ≡ writes_in (places_of p.verb)
  pub serves : (r : Read) → IsReadBy p.reads r → Serves p.verb p.values r

abbrev pub IsPlan : Plan → Type 0
IsPlan p = IsSound (planned p)
