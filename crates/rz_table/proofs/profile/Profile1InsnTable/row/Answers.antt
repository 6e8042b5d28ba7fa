use Rattle.std.proofs.Common.{refl}
use Rattle.rz_isa.specs.Regular.{is_regular}
use Rattle.rz_isa.specs.Laws.Exclusion.{list_all_get}
use Rattle.rz_table.specs.declared.profile_rows.TheConstants.{PROFILE}
use Rattle.rz_table.proofs.profile.Profile1InsnTable.row.Goals as goal

pub returns-clause-regular : goal.returns-clause-regular
returns-clause-regular c = list_all_get is_regular PROFILE c.args.n c.pick.result refl c.pick.ensures
