use Rattle.std.proofs.Common.{◌∙◌, ap}
use Rattle.rz_table.specs.Index.{cell}
use Rattle.rz_table.specs.declared.profile_index.TheConstants.{PROFILE_CLASS_STARTS, PROFILE_CLASS_ROWS}
use Rattle.rz_table.proofs.ProfileClasses.{class_listed}
use Rattle.rz_table.proofs.profile.Profile1InsnTable.rows_of.Goals as goal

pub returns : goal.returns
returns c = c.cell.ensures ∙ (ap (cell PROFILE_CLASS_STARTS PROFILE_CLASS_ROWS) c.class_place.ensures.value ∙ class_listed c.args.class)
