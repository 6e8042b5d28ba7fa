-- The files that a command writes, in order, and what they hold after it.
use Rattle.std.specs.Prelude.{◌≡◌, ◌≢◌, ◌⊎◌, ℕ, IsTrue, List, [], ◌∷◌, take, Some}
use Rattle.std.specs.List.{AllByRecursion}
use Rattle.rz_outside.specs.Counts.{Rose}
use Rattle.rz_outside.specs.StoreAnswers.{Files}
use Rattle.rz_outside.specs.StoreCalls.{StoreCalls}
use Rattle.rz_core.specs.declared.status.Status.{Status}
use Rattle.rz_core.specs.declared.status.Status.TheVariants as status
use Rattle.rz_core.specs.declared.status.Target.TheVariants as target

-- a name is none of these
abbrev pub IsNone : List ℕ → List (List ℕ) → Type 0
IsNone q names = AllByRecursion (λ name. q ≢ name) names

-- it is one of them
abbrev pub IsAmong : List ℕ → List (List ℕ) → Type 0
IsAmong q [] = ⊥
IsAmong q (name ∷ names) = (q ≡ name) ⊎ IsAmong q names

-- no two of them are the same
abbrev pub AreDistinct : List (List ℕ) → Type 0
AreDistinct [] = Unit {0}
AreDistinct (name ∷ names) = IsNone name names × AreDistinct names

-- no file changes but these
abbrev pub OthersStay : List (List ℕ) → StoreCalls → Type 0
OthersStay names s = (q : List ℕ) → IsNone q names → s.new q ≡ s.old q

abbrev pub AreUnchanged : List (List ℕ) → StoreCalls → Type 0
AreUnchanged names s = AllByRecursion (λ name. s.new name ≡ s.old name) names

-- the files of these names hold these bytes
abbrev pub HoldEach : Files → List (List ℕ) → List (List ℕ) → Type 0
HoldEach files [] [] = Unit {0}
HoldEach files (name ∷ names) (w ∷ ws) = (files name ≡ Some w) × HoldEach files names ws
HoldEach files _ _ = ⊥

-- a file holds what it held, or where a call failed a prefix of what is written there
abbrev pub HoldsOldOrPart : StoreCalls → List ℕ → List ℕ → Type 0
HoldsOldOrPart s name w = (s.new name ≡ s.old name) ⊎ (Rose s.before s.now × ((n : ℕ) × (s.new name ≡ Some (take n w))))

-- these files were written in order up to one at which `Stops` holds: those before it are whole, it holds what it held
-- or a part, and those behind it are unchanged
abbrev pub WrittenUpTo : (List ℕ → Type 0) → StoreCalls → List (List ℕ) → List (List ℕ) → Type 0
WrittenUpTo Stops s (name ∷ names) (w ∷ ws) =
    (Stops name × HoldsOldOrPart s name w × AreUnchanged names s)
    ⊎ ((s.new name ≡ Some w) × WrittenUpTo Stops s names ws)
WrittenUpTo Stops s _ _ = ⊥

-- all are whole, where the store tells its files
abbrev pub AreWritten : StoreCalls → List (List ℕ) → List (List ℕ) → Type 0
AreWritten s names ws = IsTrue s.told → HoldEach s.new names ws

-- up to one whose write failed
abbrev pub WrittenUpToFailed : StoreCalls → List (List ℕ) → List (List ℕ) → Type 0
WrittenUpToFailed s names ws = IsTrue s.told → WrittenUpTo (λ name. s.failed ≡ name) s names ws

-- up to any, or all
abbrev pub WrittenInPart : StoreCalls → List (List ℕ) → List (List ℕ) → Type 0
WrittenInPart s names ws = IsTrue s.told → HoldEach s.new names ws ⊎ WrittenUpTo (λ name. Unit {0}) s names ws

-- a write of one of these failed
abbrev pub WriteFails : List (List ℕ) → StoreCalls → Type 0
WriteFails names s = Rose s.before s.now × IsAmong s.failed names

-- when writes in order are refused, and how, and what the names hold then
abbrev pub WriteRefusal : List (List ℕ) → List (List ℕ) → StoreCalls → Status → Type 0
WriteRefusal names ws s (status.WriteFault target.File) = WriteFails names s × WrittenUpToFailed s names ws
WriteRefusal names ws s status.OutOfMemory = WrittenInPart s names ws
WriteRefusal names ws s _ = ⊥

-- one file is whole, where the store tells its files
abbrev pub IsWritten : StoreCalls → List ℕ → List ℕ → Type 0
IsWritten s name w = IsTrue s.told → s.new name ≡ Some w

-- when one write is refused, and how, and what the name holds then
abbrev pub OneRefusal : List ℕ → List ℕ → StoreCalls → Status → Type 0
OneRefusal name w s (status.WriteFault target.File) =
    Rose s.before s.now × (s.failed ≡ name) × (IsTrue s.told → HoldsOldOrPart s name w)
OneRefusal name w s status.OutOfMemory = s.new name ≡ s.old name
OneRefusal name w s _ = ⊥
