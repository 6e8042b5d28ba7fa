-- The inputs that files hold.
use Rattle.std.specs.Prelude.{◌≡◌, ℕ, List, [], ◌∷◌, None}
use Rattle.rz_sys.specs.declared.input.Input.{Input}
use Rattle.rz_input.specs.declared.error.InputError.{InputError}
use Rattle.rz_input.specs.declared.error.InputError.TheVariants as error
use Rattle.rz_input.specs.Fault.{fault_of}
use Rattle.rz_input.specs.Value.{input_of}

-- the line that a fault names
abbrev pub line_of : InputError → ℕ
line_of (error.BadLine line) = line
line_of (error.TooBig line) = line
line_of error.OutOfMemory = 0

-- the file of this name holds this input; `Holds` says which bytes a name holds
abbrev pub HoldsInput : (List ℕ → List ℕ → Type 0) → List ℕ → Input → Type 0
HoldsInput Holds name input = (text : List ℕ) × Holds name text × (fault_of text ≡ None) × (input ≡ input_of text)

-- the files of these names hold these inputs, in their order
abbrev pub HoldInputs : (List ℕ → List ℕ → Type 0) → List (List ℕ) → List Input → Type 0
HoldInputs Holds [] [] = Unit {0}
HoldInputs Holds (name ∷ names) (input ∷ inputs) = HoldsInput Holds name input × HoldInputs Holds names inputs
HoldInputs Holds _ _ = ⊥
