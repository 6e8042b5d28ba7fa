-- What is printed of an instruction.
use Rattle.std.specs.Prelude.{ℕ, List, [], ◌∷◌, ◌++◌}
use Rattle.rz_disasm.specs.declared.statement.Operands.{Operands}
use Rattle.rz_disasm.specs.declared.statement.Operands.TheVariants as operands
use Rattle.rz_disasm.specs.declared.statement.Statement.{Statement}
use Rattle.rz_disasm.specs.Statements.{statement}
use Rattle.rz_disasm.specs.Calls.Shown.{shown_text}

abbrev pub texts_of : Operands → List (List ℕ)
texts_of operands.Zero = []
texts_of (operands.One a) = shown_text a ∷ []
texts_of (operands.Two a b) = shown_text a ∷ shown_text b ∷ []
texts_of (operands.Three a b c) = shown_text a ∷ shown_text b ∷ shown_text c ∷ []

abbrev pub text_of : Statement → List ℕ
text_of s = statement (s.stem.now ++ s.ending.now) (texts_of s.operands)
