use Rattle.std.proofs.Common.{refl, ◌++◌}
use Rattle.rz_isa.specs.Regular.{is_regular}
use Rattle.rz_isa.specs.Laws.Exclusion.{list_all_get}
use Rattle.rz_table.specs.declared.profile_rows.TheConstants.{PROFILE}
use Rattle.rz_table.specs.declared.further_rows.TheConstants.{FURTHER}
use Rattle.rz_table.specs.Listing.{with_lock}
use Rattle.rz_table.specs.Profile2.{PROFILE2}
use Rattle.rz_table.proofs.Changed.{in_changed}
use Rattle.rz_table.proofs.profile2.Profile2InsnTable.row.Goals as goal

pub returns-clause-value : goal.returns-clause-value
returns-clause-value c = in_changed with_lock (PROFILE ++ FURTHER) c.args.n c.pick_of_both.result c.with_lock.result c.pick_of_both.ensures c.with_lock.ensures

pub returns-clause-regular : goal.returns-clause-regular
returns-clause-regular c = list_all_get is_regular PROFILE2 c.args.n c.with_lock.result refl (returns-clause-value c)
