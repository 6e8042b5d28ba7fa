use Rattle.std.proofs.Common.{refl}
use Rattle.rz_table.specs.declared.profile2_index.TheConstants.{PROFILE2_OPCODE_STARTS, PROFILE2_OPCODE_ROWS}
use Rattle.rz_table.specs.Profile2.{PROFILE2}
use Rattle.rz_table.proofs.Covered.{lists_cell}
use Rattle.rz_table.proofs.profile2.Profile2InsnTable.rows_at.Goals as goal

pub returns : goal.returns
returns c = lists_cell PROFILE2_OPCODE_STARTS PROFILE2_OPCODE_ROWS PROFILE2 c.args.map c.args.opcode c.opcode_place.result c.cell.result.now refl c.opcode_place.ensures.value c.cell.ensures
