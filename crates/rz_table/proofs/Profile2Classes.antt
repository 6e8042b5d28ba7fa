use Rattle.std.proofs.Common.{◌≡◌, refl}
use Rattle.rz_isa.specs.declared.classes.Class.{Class}
use Rattle.rz_isa.specs.declared.classes.Class.TheVariants as classes
use Rattle.rz_isa.specs.Class.{class_place}
use Rattle.rz_isa.specs.Index.{numbers_of}
use Rattle.rz_table.specs.Index.{cell}
use Rattle.rz_table.specs.declared.profile2_index.TheConstants.{PROFILE2_CLASS_STARTS, PROFILE2_CLASS_ROWS}
use Rattle.rz_table.specs.Profile2.{PROFILE2}

-- the rows of each class, computed
pub class_listed : (class : Class) → cell PROFILE2_CLASS_STARTS PROFILE2_CLASS_ROWS (class_place class) ≡ numbers_of class 0 PROFILE2
class_listed classes.Add = refl
class_listed _ = refl
