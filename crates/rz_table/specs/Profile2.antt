use Rattle.std.specs.Prelude.{List, ◌++◌, map}
use Rattle.rz_isa.specs.declared.rows.Row.{Row}
use Rattle.rz_table.specs.declared.profile_rows.TheConstants.{PROFILE}
use Rattle.rz_table.specs.declared.further_rows.TheConstants.{FURTHER}
use Rattle.rz_table.specs.Listing.{with_lock}

-- the rows of profile 2: those of profile 1, the further ones behind them, and F0 where the operation takes it
abbrev pub PROFILE2 : List Row
PROFILE2 = map with_lock (PROFILE ++ FURTHER)
