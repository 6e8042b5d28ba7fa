use Rattle.std.proofs.Common.{◌∙◌, ap}
use Rattle.rz_table.specs.Index.{cell}
use Rattle.rz_table.specs.declared.profile2_index.TheConstants.{PROFILE2_CLASS_STARTS, PROFILE2_CLASS_ROWS}
use Rattle.rz_table.proofs.Profile2Classes.{class_listed}
use Rattle.rz_table.proofs.profile2.Profile2InsnTable.rows_of.Goals as goal

pub returns : goal.returns
returns c = c.cell.ensures ∙ (ap (cell PROFILE2_CLASS_STARTS PROFILE2_CLASS_ROWS) c.class_place.ensures.value ∙ class_listed c.args.class)
