-- The first fault of a text, where the fault of a line may depend on the lines before it.
use Rattle.std.specs.Prelude.{ℕ, nat_lt, if◌then◌else◌, List, [], ◌∷◌, ◌++◌, length, Option, Some, None}
use Rattle.rz_text.specs.Lines.{content, Line}

-- a fault, or else another
abbrev pub or_else : {E : Type 0} → Option E → Option E → Option E
or_else (Some e) other = Some e
or_else None other = other

-- the first fault of lines that stand behind earlier ones
abbrev pub first_fault : {E : Type 0} → (List Line → Line → Option E) → List Line → List Line → Option E
first_fault fault earlier [] = None
first_fault fault earlier (line ∷ later) = or_else (fault earlier line) (first_fault fault (earlier ++ line ∷ []) later)

-- the first fault of a text's lines that say something
abbrev pub line_fault : {E : Type 0} → (List Line → Line → Option E) → List ℕ → Option E
line_fault fault text = first_fault fault [] (content text)

-- the fault of a text: at line 0 where it has more than 16,777,216 bytes, or else that of its lines
abbrev pub text_fault : {E : Type 0} → (ℕ → E) → (List Line → Line → Option E) → List ℕ → Option E
text_fault bad fault text = if nat_lt 16777216 (length text) then Some (bad 0) else line_fault fault text
