-- What is printed of an operand and of operands together.
use Rattle.std.specs.Prelude.{ℕ, List, codes}
use Rattle.rz_num.specs.Texts.{hex_text}
use Rattle.rz_disasm.specs.declared.operand.Shown.{Shown}
use Rattle.rz_disasm.specs.declared.operand.Shown.TheVariants as shown
use Rattle.rz_disasm.specs.Operands.{place_text, address_text}

abbrev pub shown_text : Shown → List ℕ
shown_text (shown.Place w place) = place_text w place
shown_text (shown.Address w place) = address_text w place
shown_text (shown.Number n) = hex_text n
shown_text shown.Cl = codes "cl"
