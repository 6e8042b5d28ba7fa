use Rattle.std.proofs.Common.{refl}
use Rattle.rz_table.specs.declared.profile_index.TheConstants.{PROFILE_OPCODE_STARTS, PROFILE_OPCODE_ROWS}
use Rattle.rz_table.specs.declared.profile_rows.TheConstants.{PROFILE}
use Rattle.rz_table.proofs.Covered.{lists_cell}
use Rattle.rz_table.proofs.profile.Profile1InsnTable.rows_at.Goals as goal

pub returns : goal.returns
returns c = lists_cell PROFILE_OPCODE_STARTS PROFILE_OPCODE_ROWS PROFILE c.args.map c.args.opcode c.opcode_place.result c.cell.result.now refl c.opcode_place.ensures.value c.cell.ensures
