-- What a store's answers say. `told` is whether it tells its files, `old` and `new` are the files before and
-- after the call, `before` and `now` its count of failures.
use Rattle.std.specs.Prelude.{◌≡◌, ◌≢◌, ◌⊎◌, ℕ, Bool, IsTrue, List, take, Option, None, Some, Result, Ok, Err}
use Rattle.rz_outside.specs.declared.stores.ReadErr.{ReadErr}
use Rattle.rz_outside.specs.declared.stores.ReadErr.TheVariants as read
use Rattle.rz_outside.specs.declared.stores.WriteErr.{WriteErr}
use Rattle.rz_outside.specs.declared.stores.WriteErr.TheVariants as write
use Rattle.rz_outside.specs.Counts.{Rose}

-- what each name holds
abbrev pub Files : Type 0
Files = List ℕ → Option (List ℕ)

abbrev pub SameFiles : Files → Files → Type 0
SameFiles old new = (q : List ℕ) → new q ≡ old q

-- no file is changed but that of this name
abbrev pub SameOthers : List ℕ → Files → Files → Type 0
SameOthers name old new = (q : List ℕ) → q ≢ name → new q ≡ old q

-- the store tells its files, and the name is not among them
abbrev pub IsMissing : Bool → Files → List ℕ → Type 0
IsMissing told files name = IsTrue told × (files name ≡ None)

-- where the files are told, the bytes are the first of the file, at most max
abbrev pub ReadsFirst : Bool → Files → List ℕ → ℕ → List ℕ → Type 0
ReadsFirst told files name max bytes = IsTrue told → (whole : List ℕ) × (files name ≡ Some whole) × (bytes ≡ take max whole)

-- where a read may be refused
abbrev pub ReadErrCause : Bool → Files → List ℕ → ℕ → ℕ → ReadErr → Type 0
ReadErrCause told files name before now read.Missing = IsMissing told files name ⊎ Rose before now
ReadErrCause told files name before now read.Failed = Rose before now
ReadErrCause told files name before now read.OutOfMemory = now ≡ before

-- the name of the last failed call, after a read of this name
abbrev pub failed_after_read_err : List ℕ → List ℕ → ReadErr → List ℕ
failed_after_read_err last name read.Missing = name
failed_after_read_err last name read.Failed = name
failed_after_read_err last name read.OutOfMemory = last

abbrev pub failed_after_read : List ℕ → List ℕ → Result (List ℕ) ReadErr → List ℕ
failed_after_read last name (Ok bytes) = last
failed_after_read last name (Err e) = failed_after_read_err last name e

-- where the files are told, the name holds the bytes
abbrev pub Holds : Bool → Files → List ℕ → List ℕ → Type 0
Holds told files name bytes = IsTrue told → files name ≡ Some bytes

-- where a write may be refused
abbrev pub WriteErrCause : ℕ → ℕ → WriteErr → Type 0
WriteErrCause before now write.Failed = Rose before now
WriteErrCause before now write.OutOfMemory = now ≡ before

-- what a refused write leaves at its name: what it held, or a prefix of the bytes
abbrev pub WriteErrLeaves : Bool → Files → Files → List ℕ → List ℕ → WriteErr → Type 0
WriteErrLeaves told old new name bytes write.Failed = IsTrue told → ((new name ≡ old name) ⊎ ((k : ℕ) × (new name ≡ Some (take k bytes))))
WriteErrLeaves told old new name bytes write.OutOfMemory = new name ≡ old name

-- the name of the last failed call, after a write to this name
abbrev pub failed_after_write_err : List ℕ → List ℕ → WriteErr → List ℕ
failed_after_write_err last name write.Failed = name
failed_after_write_err last name write.OutOfMemory = last

abbrev pub failed_after_write : List ℕ → List ℕ → Result (Unit {0}) WriteErr → List ℕ
failed_after_write last name (Ok _) = last
failed_after_write last name (Err e) = failed_after_write_err last name e
