-- A store before and after some calls, as contracts of calls over any store see it.
use Rattle.std.specs.Prelude.{ℕ, Bool, IsTrue, List, ◌≡◌, Some}
use Rattle.rz_outside.specs.declared.stores.Store.{Ghosts}
use Rattle.rz_outside.specs.StoreAnswers.{Files}

-- whether it tells its files, the files, its count of failures, and the name of the last failed call
pub record StoreCalls : Type 0 where
  pub told : Bool
  pub old : Files
  pub new : Files
  pub before : ℕ
  pub now : ℕ
  pub failed : List ℕ

-- those of a store, by what its trait says of it
abbrev pub store_calls : {A : Type 0} → Ghosts A → A → A → StoreCalls
store_calls store old new =
    record {
      told = store.told old;
      old = store.files old;
      new = store.files new;
      before = store.faults old;
      now = store.faults new;
      failed = store.failed_name new;
    }

-- where the store tells its files, the name held these bytes
abbrev pub Held : StoreCalls → List ℕ → List ℕ → Type 0
Held s name bytes = IsTrue s.told → s.old name ≡ Some bytes
