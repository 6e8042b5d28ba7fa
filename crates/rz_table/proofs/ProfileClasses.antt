use Rattle.std.proofs.Common.{◌≡◌, refl}
use Rattle.rz_isa.specs.declared.classes.Class.{Class}
use Rattle.rz_isa.specs.declared.classes.Class.TheVariants as classes
use Rattle.rz_isa.specs.Class.{class_place}
use Rattle.rz_isa.specs.Index.{numbers_of}
use Rattle.rz_table.specs.Index.{cell}
use Rattle.rz_table.specs.declared.profile_index.TheConstants.{PROFILE_CLASS_STARTS, PROFILE_CLASS_ROWS}
use Rattle.rz_table.specs.declared.profile_rows.TheConstants.{PROFILE}

-- the rows of each class, computed
pub class_listed : (class : Class) → cell PROFILE_CLASS_STARTS PROFILE_CLASS_ROWS (class_place class) ≡ numbers_of class 0 PROFILE
class_listed classes.Add = refl
class_listed _ = refl
