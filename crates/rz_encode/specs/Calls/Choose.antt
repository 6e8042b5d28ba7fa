use Rattle.std.specs.Prelude.{◌≡◌, true, Option, Some, None, if◌then◌else◌}
use Rattle.rz_isa.specs.declared.rows.Row.{Row}
use Rattle.rz_isa.specs.declared.rows.Form.{Form}
use Rattle.rz_isa.specs.declared.instruction.Insn.{Insn}
use Rattle.rz_isa.specs.declared.spelled.Fields.{Fields}
use Rattle.rz_isa.specs.Having.{can_have}
use Rattle.rz_isa.specs.Regular.{is_regular}
use Rattle.rz_isa.specs.Finding.{found}
use Rattle.rz_isa.specs.Canonical.{Chosen, same_form}
use Rattle.rz_encode.specs.declared.choose.Choice.{Choice}

-- the choice that a value of the code stands for
abbrev pub chosen_view : Option Choice → Option Chosen
chosen_view None = None
chosen_view (Some c) = Some (record { row = c.row; fields = c.fields })

-- the row is one of a table, and can have the fields
pub record IsGood (c : Choice) : Type 0 where
  pub regular : is_regular c.row ≡ true
  pub had : can_have c.row c.fields ≡ true

-- the fields with which the row serves the form
abbrev pub served : Form → Insn → Row → Option Fields
served form x row = if same_form row.form form then found row x else None
